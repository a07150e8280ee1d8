use Rattle.std.proofs.Common.{◌≡◌, length, true, not, ap, ◌∙◌, sym, arith}
use Rattle.smarts_base.proofs.Leasts.{least_below_none, least_below_some}
use Rattle.predictor.specs.Parts.{bad_address}
use Rattle.predictor.proofs.parts.first_bad_address.Goals as goal

pub returns-then-not-is_instruction : goal.returns-then-not-is_instruction
returns-then-not-is_instruction c =
    let bad : bad_address c.args.stack.now c.loop-i.i ≡ true = ap not (sym c.is_instruction.ensures ∙ c.if-not-is_instruction.true) in
    sym (least_below_some (length c.args.stack.now) c.loop-i.i (bad_address c.args.stack.now) (omega arith) bad c.loop-i.invariant)

pub returns : goal.returns
returns c =
    sym (least_below_none (length c.args.stack.now) (bad_address c.args.stack.now)
    (λ k h. c.loop-i.invariant k (omega arith)))
