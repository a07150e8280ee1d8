-- What a call answers that takes memory and judges its input.
use Rattle.std.specs.Prelude.{◌≡◌, Result, Ok, Err}
use Rattle.smarts_base.specs.declared.refusal.Refusal.{Refusal}
use Rattle.smarts_base.specs.declared.refusal.Refusal.TheVariants.{Fault, NoMemory}

-- the call answers what is expected, value or fault, or that it found no memory
abbrev pub Answers :
    {A B E : Type 0} → (A → B) → Result A (Refusal E) → Result B E → Type 0
Answers view (Ok value) expected = expected ≡ Ok (view value)
Answers view (Err (Fault fault)) expected = expected ≡ Err fault
Answers view (Err NoMemory) expected = Unit {0}

infixl 10 ◌>>=◌
-- what comes next where there was no fault, and else the fault
abbrev pub ◌>>=◌ : {A B E : Type 0} → Result A E → (A → Result B E) → Result B E
◌>>=◌ (Ok value) next = next value
◌>>=◌ (Err fault) next = Err fault
