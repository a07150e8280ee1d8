use Rattle.livepoint_format.proofs.CountingLemmas.{sorted_table, table_is_sharing}
use Rattle.livepoint_format.proofs.counting.sharing.Goals as goal

pub from_ranked-requires-clause-ranked : goal.from_ranked-requires-clause-ranked
from_ranked-requires-clause-ranked c =
    sorted_table c.args.points.now c.in_ok-tally.tally.entries _ c.in_ok-pairs.pairs.items c.sort_unstable.new.self.items
    c.in_ok-tally.ensures.told c.in_ok-tally.ensures.words c.in_ok-pairs.ensures.distinct c.in_ok-pairs.ensures.pairs
    c.sort_unstable.ensures.permutation c.sort_unstable.ensures.sorted

pub returns : goal.returns
returns c =
    rw c.from_ranked.ensures
    (table_is_sharing c.args.points.now c.in_ok-tally.tally.entries c.in_ok-pairs.pairs.items c.sort_unstable.new.self.items
    c.in_ok-tally.ensures.told c.in_ok-tally.ensures.words c.in_ok-pairs.ensures.distinct c.in_ok-pairs.ensures.pairs
    c.sort_unstable.ensures.permutation c.sort_unstable.ensures.sorted)
