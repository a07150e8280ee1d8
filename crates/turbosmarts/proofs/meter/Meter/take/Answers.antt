use Rattle.std.proofs.Common.{◌≡◌, ◌+◌, ◌*◌, ap, arith}
use Rattle.turbosmarts.proofs.IsMeasuringLemmas.{measuring_kept}
use Rattle.turbosmarts.proofs.ProcessorLemmas.{unit_told, at_end}
use Rattle.turbosmarts.proofs.meter.Meter.take.Goals as goal

pub returns-clause-measured : goal.returns-clause-measured
returns-clause-measured g c = λ start before shown.
    let ran : c.args.ran ≡ c.args.design.now.unit = omega (arith, c.if-ran-design.false) in
    let whole = ap (λ n. c.args.unit * c.args.design.now.unit + n) ran in
    let end = at_end start c.args.design.now c.args.unit _ whole shown.done in
    let told = c.cycles-cycles.ensures.value _ _ shown.shown (rw c.window.ensures end) in
    let is = unit_told _ _ _ _ _ _ whole shown.done (rw c.window.ensures at told) in
    let here : c.args.unit ≡ c.args.self.now.next = omega (arith, c.if-unit-self.false) in
    let ranges = c.requires.design.ranges in
    rw (c.from.ensures, c.in_ok-push.ensures.items)
    (measuring_kept _ _ _ _ _ _ _ _ before ran here (omega (arith, c.len.ensures, c.if-len-ge-MOST_UNITS.false))
    ranges.every_least ranges.every_most c.cycles-cycles.ensures.range is)
