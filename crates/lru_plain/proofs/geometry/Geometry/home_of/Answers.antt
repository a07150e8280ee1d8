use Rattle.std.proofs.lemmas.Nat.{and_mask}
use Rattle.lru_plain.proofs.geometry.Geometry.home_of.Goals as goal

pub returns-clause-value : goal.returns-clause-value
returns-clause-value c = rw c.sets.ensures.value (and_mask c.args.block c.args.self.now.sets_log)
