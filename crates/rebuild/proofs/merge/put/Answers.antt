use Rattle.std.proofs.Common.{refl}
use Rattle.rebuild.proofs.merge.put.Goals as goal

pub returns : goal.returns
returns c = rw (c.truncate.ensures.items, c.put_by_time.ensures) refl
