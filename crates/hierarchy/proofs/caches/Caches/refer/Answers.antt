use Rattle.hierarchy.proofs.FrontLemmas.{kept_beside}
use Rattle.hierarchy.proofs.caches.Caches.refer.Goals as goal

pub invariant_of-self : goal.invariant_of-self
invariant_of-self c =
    rw c.refer.ensures.caches
    (kept_beside _ c.in_ok-data.data _ _ c.self.invariant
    (rw (c.home_of.ensures.value, c.block_of.ensures, c.geometry-l2.ensures.value) at c.forget_in.ensures))
