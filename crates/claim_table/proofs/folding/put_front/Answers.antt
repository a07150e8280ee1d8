use Rattle.std.proofs.Common.{rules, arith, ap, ◌∙◌}
use Rattle.claim_table.specs.Steps.{Holding}
use Rattle.claim_table.proofs.HolderLemmas.{releases}
use Rattle.claim_table.proofs.FoldingLemmas.{put_slot}
use Rattle.claim_table.proofs.folding.put_front.Goals as goal

pub store-requires : goal.store-requires
store-requires g c =
    let same = c.exchange.ensures.3 in
    let held = ap (λ (m : Holding). m.0.held) same in (
      search rules,
      c.requires.words,
      releases g.L.Listed.lists _ _ _ c.exchange.new.seat.me _
          (ap (λ (m : Holding). m.0.seat.live) same ∙ c.requires.front.live)
          (ap (λ (m : Holding). m.0.seat.holder) same ∙ c.requires.front.holder)
          (omega (arith, c.pushed.ensures.value, c.from.ensures, c.requires.first, c.requires.front.count, held))
          (put_slot g.L.Listed.lists c.args.seat.now.me c.exchange.new.seat.me c.args.front c.requires.front same),
    )
