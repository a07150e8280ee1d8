use Rattle.std.proofs.Common.{rules, ap, ◌∙◌}
use Rattle.claim_table.proofs.CallLemmas.{resting_idle}
use Rattle.claim_table.proofs.PassLemmas.{joins}
use Rattle.claim_table.proofs.board.Board.join.Goals as goal

pub join_seat-requires : goal.join_seat-requires
join_seat-requires g c = (
  search rules,
  search rules,
  c.other.invariant.slots,
  search rules,
  joins g.L.Listed.lists _ _ c.pass.inside.seat.me.0 _ c.other.inside.seat.me.0
      (resting_idle _ _ _ _ _ _ c.pass.invariant (ap (λ p. p.view.seat.hand) c.pass.view_is ∙ c.requires.hand))
      (resting_idle _ _ _ _ _ _ c.other.invariant (ap (λ p. p.view.seat.hand) c.other.view_is ∙ c.requires.other_hand)),
)
