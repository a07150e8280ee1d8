use Rattle.std.proofs.Common.{◌≡◌, length, true, not, ap, ◌∙◌, sym, arith}
use Rattle.smarts_base.proofs.Leasts.{least_below_none, least_below_some}
use Rattle.predictor.specs.Parts.{bad_counter}
use Rattle.predictor.proofs.parts.first_bad_counter.Goals as goal

pub returns-then-not-is_counter : goal.returns-then-not-is_counter
returns-then-not-is_counter c =
    let bad : bad_counter c.args.counters.now c.loop-i.i ≡ true = ap not (sym c.is_counter.ensures ∙ c.if-not-is_counter.true) in
    sym (least_below_some (length c.args.counters.now) c.loop-i.i (bad_counter c.args.counters.now) (omega arith) bad c.loop-i.invariant)

pub returns : goal.returns
returns c =
    sym (least_below_none (length c.args.counters.now) (bad_counter c.args.counters.now)
    (λ k h. c.loop-i.invariant k (omega arith)))
