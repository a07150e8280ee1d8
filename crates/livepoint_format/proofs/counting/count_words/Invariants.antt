use Rattle.std.proofs.Common.{ℕ, ◌+◌, cond, take}
use Rattle.live_points.specs.Sharing.{stands_in}
use Rattle.livepoint_format.specs.Told.{AreTold}
use Rattle.livepoint_format.proofs.counting.count_words.Given as goal

abbrev pub invariant-loop-i : goal.invariant-loop-i
invariant-loop-i l =
    (held : ℕ × ℕ → ℕ) → AreTold held l.fn.tally.entries
    → AreTold (λ pair. held pair + cond (stands_in pair (take l.i l.words)) 1 0) l.tally.entries
