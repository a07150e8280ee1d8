use Rattle.rebuild.proofs.Merging as merging
use Rattle.rebuild.proofs.rebuilding.rebuilds_plain.Goals as goal

pub returns : goal.returns
returns c = merging.rebuilds_plain
