use Rattle.recency_record.specs.Slots.{ordered}
use Rattle.rebuild.proofs.source.RecordSource.geometry.Goals as goal

pub returns-clause-value : goal.returns-clause-value
unfolding ordered
returns-clause-value c = c.geometry.ensures.value
