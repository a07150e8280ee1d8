use Rattle.livepoint_format.proofs.HeaderLaws.{shared_of_read, ranked_of_shared, few_of_shared}
use Rattle.livepoint_format.proofs.header.header.Goals as goal

pub from_ranked-requires-clause-ranked : goal.from_ranked-requires-clause-ranked
from_ranked-requires-clause-ranked c =
    ranked_of_shared _ c.in_ok-pairs.pairs.items (shared_of_read _ c.head.new.cursor c.in_ok-pairs.pairs.items c.table.new.cursor c.rest-bytes.ensures.bytes c.in_ok-pairs.ensures)

pub from_ranked-requires-clause-few : goal.from_ranked-requires-clause-few
from_ranked-requires-clause-few c =
    few_of_shared _ c.in_ok-pairs.pairs.items (shared_of_read _ c.head.new.cursor c.in_ok-pairs.pairs.items c.table.new.cursor c.rest-bytes.ensures.bytes c.in_ok-pairs.ensures)
