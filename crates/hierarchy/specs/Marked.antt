-- What holds of the marks of each instruction.
use Rattle.std.specs.Prelude.{◌≤◌, ◌↔◌, IsTrue, Bool, true, false}
use Rattle.std.specs.Option.{IsSome}
use Rattle.rv_isa.specs.declared.roles.Class.{Class}
use Rattle.rv_isa.specs.declared.roles.Class.TheVariants.{Alu, Mul, Div, Load, Store, Control, Ecall}
use Rattle.hierarchy.specs.declared.marked.Marked.{Marked}

-- loads and stores
abbrev pub accesses_memory : Class → Bool
accesses_memory Load = true
accesses_memory Store = true
accesses_memory Alu = false
accesses_memory Mul = false
accesses_memory Div = false
accesses_memory Control = false
accesses_memory Ecall = false

-- its stall and latency are in their ranges, and a word is given exactly for loads and stores
pub record IsMarked (m : Marked) : Type 0 where
  pub stall : m.stall ≤ 1200
  pub latency_least : 1 ≤ m.latency
  pub latency_most : m.latency ≤ 1216
  pub word : IsSome m.word ↔ IsTrue (accesses_memory m.class)
