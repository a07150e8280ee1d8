use Rattle.std.proofs.Common.{◌≡◌, None, Ok, ap, arith}
use Rattle.rv_machine.specs.Machine.{Machine}
use Rattle.turbosmarts.specs.commands.Sample.{sample_result}
use Rattle.turbosmarts.specs.Stages.{written_as}
use Rattle.turbosmarts.proofs.SampleLemmas.{sampled_is}
use Rattle.turbosmarts.proofs.commands.sample.answer.Goals as goal

pub report_on-requires-clause-units : goal.report_on-requires-clause-units
report_on-requires-clause-units c = λ p h.
    let measured = c.in_ok-measured.ensures.units _ _ c.in_ok-exit.ensures.exited in
    let few = c.in_ok-count.ensures.few in
    rw c.deref.ensures.value (measured.all p (omega arith) (c.in_ok-count.ensures.within p h))

pub report_on-requires-clause-cycles : goal.report_on-requires-clause-cycles
report_on-requires-clause-cycles c =
    let measured = c.in_ok-measured.ensures.units _ _ c.in_ok-exit.ensures.exited in
    rw c.deref.ensures.value measured.valid

pub returns : goal.returns
returns c =
    let measured = c.in_ok-measured.ensures.units _ _ c.in_ok-exit.ensures.exited in
    let few = c.in_ok-count.ensures.few in
    let started = ap (λ (m : Machine). m.state) c.in_ok-whole.ensures.started in
    let report = c.in_ok-report.ensures c.args.config.now c.in_ok-whole.whole.state
    (λ p h.
    rw c.deref.ensures.value
    (measured.units p (measured.all p (omega arith) (c.in_ok-count.ensures.within p h)))) in
    let is : sample_result c.args.design.now c.args.config.now c.args.test.now c.args.input.now ≡ Ok (written_as c.in_ok-report.report.items None) =
    sampled_is _ _ _ _ _ _ _ _ _ _ c.in_ok-image.ensures started c.in_ok-measured.ensures.outcome
    c.in_ok-exit.ensures.value c.in_ok-count.ensures.value report in
    rw c.new.ensures is
