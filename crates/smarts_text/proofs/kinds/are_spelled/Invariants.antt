use Rattle.std.proofs.Common.{◌≡◌}
use Rattle.smarts_text.specs.Kinds.{are_spelled, between_commas}
use Rattle.smarts_text.specs.Parts.{parts_left}
use Rattle.smarts_text.proofs.PartsLemmas.{length_left}
use Rattle.smarts_text.proofs.kinds.are_spelled.Given as goal

-- the parts so far are spelled
abbrev pub invariant-loop-rest : goal.invariant-loop-rest
invariant-loop-rest l = are_spelled (between_commas l.text) ≡ are_spelled (parts_left 44 l.rest)

abbrev pub decreases-loop-rest : goal.decreases-loop-rest
decreases-loop-rest l = length_left l.rest
