use Rattle.std.proofs.Common.{Result, refl, sym, ap, ◌∙◌}
use Rattle.smarts_text.specs.declared.status.Status.TheVariants.{Done}
use Rattle.turbosmarts.specs.declared.fault.InputFault.{InputFault}
use Rattle.turbosmarts.specs.Answer.{done_or_refused}
use Rattle.turbosmarts.specs.Ending.{end_line}
use Rattle.turbosmarts.specs.Stages.{Written}
use Rattle.turbosmarts.proofs.EndingLemmas.{gives_done, told_when_done}
use Rattle.turbosmarts.proofs.serving.give.Goals as goal

pub returns-in-Ok-write_all-clause-gives : goal.returns-in-Ok-write_all-clause-gives
returns-in-Ok-write_all-clause-gives g c = λ read expected answers.
    let answer = rw c.in-Ok.is at answers in
    let wrote = rw c.bytes.ensures at c.in-Ok-write_all.ensures.ok in
    rw answer (gives_done _ _ refl wrote)

pub returns-in-Ok-write_all-clause-lines : goal.returns-in-Ok-write_all-clause-lines
returns-in-Ok-write_all-clause-lines g c = λ read expected answers e.
    let answer = rw c.in-Ok.is at answers in
    ap (end_line Done) c.exit.ensures ∙ told_when_done _
    ∙ sym (ap (λ (r : Result Written InputFault). (done_or_refused read r).lines) answer)
