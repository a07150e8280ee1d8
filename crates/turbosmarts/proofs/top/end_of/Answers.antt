use Rattle.std.proofs.Common.{◌≡◌, refl, ap, ◌∙◌}
use Rattle.smarts_text.specs.declared.status.Status.TheVariants.{BadWords}
use Rattle.turbosmarts.proofs.EndingLemmas.{ends_accepted, ends_with_fault}
use Rattle.turbosmarts.proofs.top.end_of.Goals as goal

pub returns-in-Ok-clause-ends : goal.returns-in-Ok-clause-ends
returns-in-Ok-clause-ends g c =
    ends_accepted _ _ _ _ _ _ c.in-Ok.ensures.answer c.serve.ensures.ends

pub returns-in-Err-Fault-clause-ends : goal.returns-in-Err-Fault-clause-ends
returns-in-Err-Fault-clause-ends g c =
    let is = rw c.in-Err-Fault.field-0-is at c.in-Err-Fault.ensures.answer in
    let status : c.of.result.status ≡ BadWords c.in-Err-Fault.fault =
    c.of.ensures.status ∙ ap BadWords c.in-Err-Fault.fault-is in
    ends_with_fault _ _ _ _ _ _ is refl refl refl status c.of.ensures.exit
