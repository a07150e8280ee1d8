use Rattle.std.proofs.Common.{◌≡◌, ◌<◌, ◌∙◌, sym}
use Rattle.lru_plain.specs.Shape.{sets_of}
use Rattle.lru_plain.proofs.ListsLemmas.{listing_is, list_read}
use Rattle.lru_plain.proofs.lists.Lists.list.Goals as goal

pub returns-clause-value : goal.returns-clause-value
returns-clause-value g c =
    let ways : c.from-ways.result ≡ c.self.inside.geometry.ways = c.from-ways.ensures ∙ c.ways.ensures.value in
    let below : c.args.set < sets_of c.self.inside.geometry = rw (← c.self.view_is) at c.requires in
    rw (← c.self.view_is, c.filled_at.ensures, c.deref.ensures.value, c.start_of-start.ensures.value, ways)
    (sym (list_read g.E.Listed.block_in c.self.inside.geometry c.self.inside.mask c.self.inside.row.items c.self.invariant c.args.set below))

pub returns-clause-listing : goal.returns-clause-listing
returns-clause-listing g c =
    rw (← c.self.view_is)
    (listing_is g.E.Listed.block_in c.self.inside.geometry c.self.inside.mask c.self.inside.row.items c.self.invariant)
