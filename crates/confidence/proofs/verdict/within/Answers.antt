use Rattle.std.proofs.Common.{arith}
use Rattle.confidence.proofs.Bounds.{product_fits}
use Rattle.confidence.proofs.verdict.within.Goals as goal

pub overflow_mul-result-7 : goal.overflow_mul-result-7
overflow_mul-result-7 c =
    let fits = product_fits c.args.sums.now c.args.error c.requires.bounded c.requires.measured c.requires.error in
    simp (c.from-error.ensures, c.from-n.ensures, c.from-s1.ensures) (omega (arith, fits))
