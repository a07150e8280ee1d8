use Rattle.std.proofs.Common.{◌≡◌, ◌≤◌, ◌+◌, ◌-◌, ◌*◌, ℕ, suc, arith, mul-le-mul, ◌∙◌, ap, get_or, []}
use Rattle.rebuild.proofs.Turns.{turn_more}
use Rattle.rebuild.proofs.merge.merge.Goals as goal

pub loop-turn-preserved : goal.loop-turn-preserved
loop-turn-preserved g c =
    let step : c.args.turns - c.loop-turn.turn ≡ suc (c.args.turns - (c.loop-turn.turn + 1)) = omega arith in
    let left : c.args.turns - 1 - c.loop-turn.turn ≡ c.args.turns - (c.loop-turn.turn + 1) = omega arith in
    let self : c.args.count ≤ c.args.count = omega arith in
    let fewer : c.args.turns - c.loop-turn.turn ≤ c.args.turns = omega arith in
    let most : c.args.count * (c.args.turns - c.loop-turn.turn) ≤ c.args.count * c.args.turns = mul-le-mul self fewer in
    let large : c.large_set-large.result ≡ c.args.count * (c.args.turns - (c.loop-turn.turn + 1)) + c.args.set =
    c.large_set-large.ensures.value ∙ ap (λ (n : ℕ). c.args.count * n + c.args.set) left in
    record {
      merged = turn_more c.args.count c.args.set c.args.ways (c.args.turns - c.loop-turn.turn)
          (c.args.turns - (c.loop-turn.turn + 1)) (g.S.Source.told c.args.source.now).sets (get_or (g.S.Source.told c.args.source.now).sets c.large_set-large.result []) c.loop-turn.latest.items _
          step c.requires.set (omega (arith, most, c.requires.turns)) c.loop-turn.invariant.merged
          (ap (λ (n : ℕ). get_or (g.S.Source.told c.args.source.now).sets n []) large) c.pour.ensures.poured;
      cut = c.pour.ensures.cut;
    }
