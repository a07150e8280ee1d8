-- What holds of every event.
use Rattle.std.specs.Prelude.{◌≡◌, ◌%◌, Bool, true, false, is_some}
use Rattle.rv_isa.specs.declared.roles.Class.{Class}
use Rattle.rv_isa.specs.declared.roles.Class.TheVariants as class
use Rattle.rv_exec.specs.declared.event.Event.{Event}
use Rattle.rv_exec.specs.declared.event.Flow.{Flow}
use Rattle.rv_exec.specs.declared.event.Flow.TheVariants.{Straight, Branch, Jal, Jalr}

abbrev pub is_memory : Class → Bool
is_memory class.Alu = false
is_memory class.Mul = false
is_memory class.Div = false
is_memory class.Load = true
is_memory class.Store = true
is_memory class.Control = false
is_memory class.Ecall = false

abbrev pub is_control : Class → Bool
is_control class.Alu = false
is_control class.Mul = false
is_control class.Div = false
is_control class.Load = false
is_control class.Store = false
is_control class.Control = true
is_control class.Ecall = false

-- the flow leads elsewhere than to the instruction behind, or may do so
abbrev pub is_transfer : Flow → Bool
is_transfer Straight = false
is_transfer (Branch taken) = true
is_transfer (Jal push) = true
is_transfer (Jalr pop push) = true

-- both addresses are multiples of 4, loads and stores alone have an access, and control
-- instructions alone another flow than straight on
pub record IsWellFormed (event : Event) : Type 0 where
  pub pc : event.pc % 4 ≡ 0
  pub next : event.next % 4 ≡ 0
  pub access : is_some event.access ≡ is_memory event.class
  pub control : is_transfer event.control ≡ is_control event.class
