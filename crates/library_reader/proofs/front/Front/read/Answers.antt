use Rattle.livepoint_format.specs.Views.{head_of}
use Rattle.livepoint_format.proofs.DecodingLemmas.{points_some, points_most}
use Rattle.library_reader.proofs.front.Front.read.Goals as goal

pub visit_order-requires-clause-some : goal.visit_order-requires-clause-some
visit_order-requires-clause-some c = points_some (head_of c.in_ok-header.header) c.in_ok-header.ensures.sound.0

pub visit_order-requires-clause-few : goal.visit_order-requires-clause-few
visit_order-requires-clause-few c = points_most (head_of c.in_ok-header.header) c.in_ok-header.ensures.sound.0
