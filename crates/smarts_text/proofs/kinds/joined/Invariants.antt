use Rattle.std.proofs.Common.{◌≡◌, [], All}
use Rattle.predictor.specs.Kind.{IsKind}
use Rattle.smarts_text.specs.Kinds.{between_commas, joined}
use Rattle.smarts_text.specs.Parts.{parts_left}
use Rattle.smarts_text.proofs.PartsLemmas.{length_left}
use Rattle.smarts_text.proofs.kinds.joined.Given as goal

-- the kinds of the parts so far were joined
abbrev pub invariant-loop-rest : goal.invariant-loop-rest
invariant-loop-rest l =
    (joined [] (between_commas l.text) ≡ joined l.kinds (parts_left 44 l.rest)) × All IsKind l.kinds

abbrev pub decreases-loop-rest : goal.decreases-loop-rest
decreases-loop-rest l = length_left l.rest
