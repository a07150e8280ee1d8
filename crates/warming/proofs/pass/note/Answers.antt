use Rattle.std.proofs.Common.{◌≡◌, ◌∙◌, sym}
use Rattle.warming.proofs.PassingLemmas.{noted_none, noted_one, noted_both}
use Rattle.warming.proofs.pass.note.Goals as goal

pub returns-then-ended-started : goal.returns-then-ended-started
returns-then-ended-started c =
    noted_none _ _ (sym c.ended.ensures.value ∙ c.if-ended-started.true ∙ c.started.ensures)

pub returns-in_ok-touch-in-Some : goal.returns-in_ok-touch-in-Some
returns-in_ok-touch-in-Some c =
    rw c.in-Some.is
    (noted_both _ _ _ _ _ (noted_one _ _ _ _ c.in_ok-touch.ensures.touched)
    (noted_one _ _ _ _ c.in_ok-touch-in-Some.ensures.touched))

pub returns-in-None : goal.returns-in-None
returns-in-None c = rw c.in-None.is (noted_one _ _ _ _ c.in_ok-touch.ensures.touched)
