-- What the classes of instructions differ in.
use Rattle.std.specs.Prelude.{ℕ, Bool, ◌==◌}
use Rattle.rv_isa.specs.declared.roles.Class.{Class}
use Rattle.rv_isa.specs.declared.roles.Class.TheVariants.{Alu, Mul, Div, Load, Store, Control, Ecall}
use Rattle.hierarchy.specs.declared.widths.Widths.{Widths}

-- the classes by numbers from 0 on
abbrev pub number_of : Class → ℕ
number_of Alu = 0
number_of Mul = 1
number_of Div = 2
number_of Load = 3
number_of Store = 4
number_of Control = 5
number_of Ecall = 6

abbrev pub is_same : Class → Class → Bool
is_same one other = number_of one == number_of other

abbrev pub is_load : Class → Bool
is_load class = is_same class Load

abbrev pub is_store : Class → Bool
is_store class = is_same class Store

abbrev pub is_ecall : Class → Bool
is_ecall class = is_same class Ecall

-- how many instructions of a class may issue in a cycle
abbrev pub limit_of : Widths → Class → ℕ
limit_of w Alu = w.alus
limit_of w Mul = w.muls
limit_of w Div = w.divs
limit_of w Load = w.loads
limit_of w Store = w.stores
limit_of w Control = w.branches
limit_of w Ecall = 1
