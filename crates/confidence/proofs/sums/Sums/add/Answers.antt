use Rattle.confidence.specs.Sums.{with_cycles, IsBounded}
use Rattle.confidence.proofs.Bounds.{bounded_more}
use Rattle.confidence.proofs.sums.Sums.add.Goals as goal

pub returns-clause-bounded : goal.returns-clause-bounded
returns-clause-bounded c =
    let kept : IsBounded (with_cycles c.args.self.now c.args.cycles) =
    bounded_more _ _ c.requires.bounded c.requires.room c.requires.cycles in
    simp (c.from.ensures, c.from-2.ensures, c.from-3.ensures) kept
