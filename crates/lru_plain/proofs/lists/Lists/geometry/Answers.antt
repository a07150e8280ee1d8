use Rattle.lru_plain.proofs.ListsLemmas.{listing_is}
use Rattle.lru_plain.proofs.lists.Lists.geometry.Goals as goal

pub returns-clause-listing : goal.returns-clause-listing
returns-clause-listing g c =
    rw (← c.self.view_is)
    (listing_is g.E.Listed.block_in c.self.inside.geometry c.self.inside.mask c.self.inside.row.items c.self.invariant)
