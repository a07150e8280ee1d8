-- The event that the latest step showed.
use Rattle.std.proofs.Common.{◌≡◌, ◌%◌, Option, Some, subst, sym, ◌∙◌}
use Rattle.std.specs.Prelude.{IfSome}
use Rattle.rv_exec.specs.declared.event.Event.{Event}
use Rattle.rv_exec.specs.declared.event.Buffer.{Buffer}
use Rattle.rv_exec.specs.Event.{IsWellFormed}
use Rattle.rv_exec.specs.Machine.{State, Shows}
use Rattle.rv_exec.specs.Next.{next}
use Rattle.rv_exec.proofs.StepsLemmas.{well_formed}

pub latest_well_formed :
    (s after : State) (wrote : Option Buffer) (latest : Option Event) (e : Event)
    → Shows (next s) after wrote (λ e. latest ≡ Some e) → latest ≡ Some e → s.pc % 4 ≡ 0 → IsWellFormed e
latest_well_formed s after wrote latest e shows is aligned =
    let P : Option Event → Type 0 = λ o. IfSome o IsWellFormed in
    subst P (sym shows.shown ∙ is) (well_formed s shows.event after shows.went aligned)
