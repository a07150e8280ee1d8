use Rattle.hierarchy.proofs.FrontLemmas.{entered}
use Rattle.hierarchy.proofs.caches.Caches.enter.Goals as goal

pub invariant_of-self : goal.invariant_of-self
invariant_of-self c = rw c.fetch-hits.ensures.caches (entered _ _ _ c.line_of-line.ensures)
