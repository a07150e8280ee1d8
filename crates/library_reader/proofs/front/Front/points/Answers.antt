use Rattle.livepoint_format.specs.Views.{head_of}
use Rattle.livepoint_format.proofs.DecodingLemmas.{points_most}
use Rattle.library_reader.proofs.front.Front.points.Goals as goal

pub returns-clause-few : goal.returns-clause-few
returns-clause-few c = points_most (head_of c.self.inside.header) c.self.invariant.header
