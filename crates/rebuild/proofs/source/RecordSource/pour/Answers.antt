use Rattle.recency_record.specs.Slots.{ordered}
use Rattle.rebuild.proofs.source.RecordSource.pour.Goals as goal

pub ordered-len-requires-clause-set : goal.ordered-len-requires-clause-set
unfolding ordered
ordered-len-requires-clause-set c = c.requires.set
