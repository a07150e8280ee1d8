use Rattle.turbosmarts.proofs.ScalarLemmas.{summed_told}
use Rattle.turbosmarts.proofs.scalar.ScalarProcessor.cycles.Goals as goal

pub returns-clause-value : goal.returns-clause-value
returns-clause-value c = λ begun es shown end.
    (summed_told _ _ _ _ _ _ c.requires.config.latencies shown end c.requires.shown.timeable).0

pub returns-clause-range : goal.returns-clause-range
returns-clause-range c =
    let can = c.requires.shown in
    (summed_told _ _ _ _ _ _ c.requires.config.latencies can.shown can.end can.timeable).1
