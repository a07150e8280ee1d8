use Rattle.live_points.proofs.PointLemmas as points
use Rattle.live_points.proofs.RunLemmas as runs
use Rattle.live_points.proofs.HeaderLemmas as headers
use Rattle.live_points.proofs.SharingLemmas as sharing
use Rattle.live_points.proofs.laws.point_laws.Goals as goal

pub returns-clause-point : goal.returns-clause-point
returns-clause-point c = points.points_answer

pub returns-clause-points : goal.returns-clause-points
returns-clause-points c = points.all_points_answer

pub returns-clause-exit : goal.returns-clause-exit
returns-clause-exit c = runs.exits_go_on

pub returns-clause-budget : goal.returns-clause-budget
returns-clause-budget c = points.budget_is_nothing

pub returns-clause-header : goal.returns-clause-header
returns-clause-header c = headers.points_are_of_header

pub returns-clause-sharing : goal.returns-clause-sharing
returns-clause-sharing c = sharing.sharing_is_one
