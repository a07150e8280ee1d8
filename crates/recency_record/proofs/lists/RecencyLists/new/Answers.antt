use Rattle.std.proofs.Common.{refl}
use Rattle.recency_record.proofs.Referring.{record_none}
use Rattle.recency_record.proofs.lists.RecencyLists.new.Goals as goal

pub returns : goal.returns
returns c = rw (record_none c.args.geometry, c.in_ok-new.ensures) refl
