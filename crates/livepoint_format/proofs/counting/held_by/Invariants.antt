use Rattle.std.proofs.Common.{◌≡◌, ◌++◌}
use Rattle.livepoint_format.specs.Told.{told_from}
use Rattle.livepoint_format.proofs.counting.held_by.Given as goal

abbrev pub invariant-loop-pair : goal.invariant-loop-pair
invariant-loop-pair l = l.pairs.items ++ told_from l.least l.pair-iterator ≡ told_from l.least l.tally.entries
