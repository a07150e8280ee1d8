use Rattle.std.proofs.Common.{◌≡◌, Some, None, sym, ◌∙◌, arith}
use Rattle.confidence.proofs.Errors.{fails_up_to, no_error_of_one, no_error, error_found, error_is_least}
use Rattle.confidence.proofs.verdict.least_error.Goals as goal
use Rattle.confidence.proofs.verdict.least_error.Goals.{then-sums-lt2-via-then-sums-lt2, then-sums-lt2-via-else-sums-lt2+then-not-within}

pub returns-then-sums-lt2-clause-value : goal.returns-then-sums-lt2-clause-value
returns-then-sums-lt2-clause-value c = elim c.then-sums-lt2.branch [
  | then-sums-lt2-via-then-sums-lt2 w ↦ sym (no_error_of_one _ _ w.if-sums-lt2.true)
  | then-sums-lt2-via-else-sums-lt2+then-not-within w ↦
      sym (no_error c.args.sums.now c.args.z (sym w.within.ensures ∙ w.if-not-within.true))
]

pub loop-low-preserved : goal.loop-low-preserved
loop-low-preserved c = record {
  order = omega arith;
  most = omega arith;
  passes = c.loop-low.invariant.passes;
  fails = fails_up_to _ _ _ (sym c.within-in-loop-low.ensures ∙ c.if-within.false);
}

pub returns-clause-value : goal.returns-clause-value
returns-clause-value c =
    let found = c.loop-low.invariant in
    let last : c.loop-low.low ≡ c.loop-low.high = omega arith in
    sym
    (error_found c.args.sums.now c.args.z c.loop-low.low
    c.if-sums-lt2.false (omega arith) (rw last found.passes) found.fails)

pub returns-then-sums-lt2-clause-least : goal.returns-then-sums-lt2-clause-least
returns-then-sums-lt2-clause-least c =
    error_is_least _ _ None (returns-then-sums-lt2-clause-value c)

pub returns-clause-least : goal.returns-clause-least
returns-clause-least c =
    error_is_least _ _ (Some c.loop-low.low) (returns-clause-value c)
