use Rattle.hierarchy.proofs.WarmingLemmas.{empty_cache, same_caches}
use Rattle.hierarchy.proofs.state.State.new.Goals as goal

pub returns : goal.returns
returns c =
    rw c.new-6.ensures
    (same_caches _ _ _ _ _ _ _ _
    (empty_cache _ _ _ c.in_ok-new.ensures.empty c.in_ok-new.ensures.plain)
    (empty_cache _ _ _ c.in_ok-new-2.ensures.empty c.in_ok-new-2.ensures.plain)
    (empty_cache _ _ _ c.in_ok-new-3.ensures.empty c.in_ok-new-3.ensures.plain)
    (empty_cache _ _ _ c.in_ok-new-4.ensures.empty c.in_ok-new-4.ensures.plain)
    (empty_cache _ _ _ c.in_ok-new-5.ensures.empty c.in_ok-new-5.ensures.plain)
    c.in_ok-new-6.ensures.trained)
