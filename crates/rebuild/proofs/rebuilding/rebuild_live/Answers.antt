use Rattle.recency_record.specs.Slots.{ordered}
use Rattle.rebuild.proofs.rebuilding.rebuild_live.Goals as goal

pub returns-clause-beyond : goal.returns-clause-beyond
unfolding ordered
returns-clause-beyond c = c.rebuild_from.ensures.beyond

pub returns-clause-plain : goal.returns-clause-plain
unfolding ordered
returns-clause-plain c = c.rebuild_from.ensures.plain
