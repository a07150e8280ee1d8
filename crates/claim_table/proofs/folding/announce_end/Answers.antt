use Rattle.std.proofs.Common.{◌+◌, sym, ap, ◌∙◌}
use Rattle.ordered_fold.specs.Front.{is_going}
use Rattle.claim_table.proofs.HolderLemmas.{announces}
use Rattle.claim_table.proofs.folding.announce_end.Goals as goal

pub store-requires : goal.store-requires
store-requires g c = (
  c.requires.table,
  c.requires.words,
  announces g.L.Listed.lists _ _ _ c.args.seat.now.me _ c.requires.front.live c.requires.front.holder
      (ap (λ f. is_going f.ending) (sym c.requires.front.front_is) ∙ (sym c.is_going.ensures ∙ c.if-is_going.false))
      (ap (λ n. n + 1) (c.from-word.ensures ∙ c.count.ensures ∙ ap (λ f. f.sums.n) c.requires.front.front_is)),
)
