use Rattle.hierarchy.proofs.FrontLemmas.{fetched_again}
use Rattle.hierarchy.proofs.caches.Caches.fetch.Goals as goal

pub returns-then-holds-clause-stall : goal.returns-then-holds-clause-stall
returns-then-holds-clause-stall c =
    (rw c.self.view_is at (fetched_again c.args.latencies.now _ _ _ c.self.invariant (c.holds.ensures c.if-holds.true))).0

pub returns-then-holds-clause-caches : goal.returns-then-holds-clause-caches
returns-then-holds-clause-caches c =
    (rw c.self.view_is at (fetched_again c.args.latencies.now _ _ _ c.self.invariant (c.holds.ensures c.if-holds.true))).1
