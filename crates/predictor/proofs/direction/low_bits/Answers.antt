use Rattle.std.proofs.lemmas.Nat.{and_mask}
use Rattle.predictor.proofs.direction.low_bits.Goals as goal

pub returns-clause-value : goal.returns-clause-value
returns-clause-value c = rw c.power_of_two.ensures (and_mask c.args.number c.args.count)
