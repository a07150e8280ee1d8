use Rattle.std.proofs.Common.{◌<◌, ◌^◌, ℕ, take, All}
use Rattle.warming.proofs.ranges.pairs_fit.Given as goal

abbrev pub invariant-loop-pair : goal.invariant-loop-pair
invariant-loop-pair l = All (λ (p : ℕ × ℕ). (p.0 < 2 ^ 32) × (p.1 < 2 ^ 32)) (take l.pair-index l.pairs)
