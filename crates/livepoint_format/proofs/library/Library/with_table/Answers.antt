use Rattle.livepoint_format.specs.Views.{head_of}
use Rattle.livepoint_format.proofs.MigratingLemmas.{second_points}
use Rattle.livepoint_format.proofs.library.Library.with_table.Goals as goal

pub from_points-requires-clause-points : goal.from_points-requires-clause-points
from_points-requires-clause-points c =
    second_points (head_of c.self.inside.header) c.self.inside.points.items c.self.invariant.points
