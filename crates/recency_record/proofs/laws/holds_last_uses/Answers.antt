use Rattle.recency_record.proofs.LastPlaces as places
use Rattle.recency_record.proofs.laws.holds_last_uses.Goals as goal

pub returns : goal.returns
returns c = places.holds_last_uses
