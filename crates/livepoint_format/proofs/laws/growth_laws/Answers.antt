use Rattle.livepoint_format.proofs.Growth.{header_grows, point_grows, end_grows}
use Rattle.livepoint_format.proofs.LibraryLaws.{fronts_truncated}
use Rattle.livepoint_format.proofs.laws.growth_laws.Goals as goal

pub returns-clause-fronts : goal.returns-clause-fronts
returns-clause-fronts c = fronts_truncated

pub returns-clause-parts : goal.returns-clause-parts
returns-clause-parts c = record { header = header_grows; point = point_grows; end = end_grows }
