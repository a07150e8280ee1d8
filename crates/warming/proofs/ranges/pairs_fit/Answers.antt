use Rattle.std.proofs.Common.{◌≡◌, ◌<◌, ◌^◌, ℕ, sym, arith}
use Rattle.std.proofs.lemmas.List.{take_all}
use Rattle.std.proofs.lemmas.List.Elements.{All-more, All-same}
use Rattle.warming.proofs.ranges.pairs_fit.Goals as goal

pub loop-pair-preserved : goal.loop-pair-preserved
loop-pair-preserved c =
    All-more (λ (p : ℕ × ℕ). (p.0 < 2 ^ 32) × (p.1 < 2 ^ 32)) c.args.pairs.now c.loop-pair.pair-index (0, 0) (omega arith)
    c.loop-pair.invariant c.pair_fits.ensures

pub returns : goal.returns
returns c =
    All-same (λ (p : ℕ × ℕ). (p.0 < 2 ^ 32) × (p.1 < 2 ^ 32)) c.args.pairs.now _
    (sym (take_all c.loop-pair.pair-index c.args.pairs.now (omega arith))) c.loop-pair.invariant
