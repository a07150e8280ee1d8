use Rattle.std.proofs.Common.{◌≡◌, ℕ, length, get_or, true, not, sym, ap, ◌∙◌, arith, below_more}
use Rattle.std.proofs.lemmas.List.{get_or_default}
use Rattle.smarts_base.proofs.Leasts.{least_below_none, least_below_some}
use Rattle.predictor.specs.Tables.{no_target}
use Rattle.predictor.specs.Parts.{is_entry, bad_entry}
use Rattle.predictor.proofs.parts.first_bad_entry.Goals as goal

pub returns-then-not-is_entry : goal.returns-then-not-is_entry
returns-then-not-is_entry c =
    let i : ℕ = c.loop-i.i in
    let tested : c.is_entry.result ≡ is_entry c.args.kind i (get_or c.args.targets.now i no_target) =
    c.is_entry.ensures
    ∙ ap (λ (e : ℕ × ℕ). is_entry c.args.kind i e)
    (get_or_default c.args.targets.now i (0, 0) no_target c.loop-i-test.true) in
    let bad : bad_entry c.args.kind c.args.targets.now i ≡ true =
    ap not (sym tested ∙ c.if-not-is_entry.true) in
    sym (least_below_some (length c.args.targets.now) i (bad_entry c.args.kind c.args.targets.now)
    c.loop-i-test.true bad c.loop-i.invariant)

pub loop-i-preserved : goal.loop-i-preserved
loop-i-preserved c =
    let i : ℕ = c.loop-i.i in
    let tested : c.is_entry.result ≡ is_entry c.args.kind i (get_or c.args.targets.now i no_target) =
    c.is_entry.ensures
    ∙ ap (λ (e : ℕ × ℕ). is_entry c.args.kind i e)
    (get_or_default c.args.targets.now i (0, 0) no_target c.loop-i-test.true) in
    below_more _ _ c.loop-i.invariant (ap not (sym tested ∙ c.if-not-is_entry.false))

pub returns : goal.returns
returns c =
    sym (least_below_none (length c.args.targets.now) (bad_entry c.args.kind c.args.targets.now)
    (λ k h. c.loop-i.invariant k (omega arith)))
