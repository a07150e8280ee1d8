-- One instruction of a machine, whose event was shown to an observer.
use Rattle.std.proofs.Common.{◌≡◌, ◌%◌, List, [], Bool, true, false, Option, Some, Ok, refl, subst, sym, ◌∙◌}
use Rattle.std.specs.Prelude.{IfSome}
use Rattle.std.proofs.lemmas.List.{append-nil}
use Rattle.rv_exec.specs.declared.event.Event.{Event}
use Rattle.rv_exec.specs.declared.event.Buffer.{Buffer}
use Rattle.rv_exec.specs.Event.{IsWellFormed}
use Rattle.rv_exec.specs.Machine.{Shows}
use Rattle.rv_exec.specs.Next.{next}
use Rattle.rv_exec.proofs.StepsLemmas.{well_formed}
use Rattle.rv_machine.specs.Machine.{Machine, Advances, AdvancesShown, output_with}
use Rattle.rv_machine.specs.Output.{buffer_bytes}

pub shown :
    (old before new : Machine) (wrote : Option Buffer) (IsShown : Event → Type 0)
    → before ≡ old → before.state.pc % 4 ≡ 0
    → Shows (next before.state) new.state wrote IsShown
    → new.keeps ≡ before.keeps
    → new.output ≡ output_with before.keeps before.output (buffer_bytes new.state.words wrote)
    → AdvancesShown old new IsShown
shown old before new wrote IsShown view aligned shows keeps output =
    let P : Machine → Type 0 = λ m. AdvancesShown m new IsShown in
    subst P view
    (record {
      event = shows.event;
      advances = (shows.went, keeps, rw shows.output output);
      well_formed = well_formed before.state shows.event new.state shows.went aligned;
      shown = shows.shown;
    })

pub nothing_written :
    (keeps : Bool) (output : List _) → output ≡ output_with keeps output []
nothing_written true output = sym (append-nil output)
nothing_written false output = refl

-- the event that was shown is the latest one
pub latest_advances :
    (old new : Machine) (latest : Option Event) (e : Event)
    → AdvancesShown old new (λ e. latest ≡ Some e) → latest ≡ Some e
    → Advances old (Ok e) new × IsWellFormed e
latest_advances old new latest e shows is =
    let P : Option Event → Type 0 = λ o. IfSome o (λ e. Advances old (Ok e) new × IsWellFormed e) in
    subst P (sym shows.shown ∙ is) (shows.advances, shows.well_formed)
