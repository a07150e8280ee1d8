use Rattle.std.proofs.Common.{rules, ap, subst, sym, ◌<◌, ◌∙◌}
use Rattle.claim_table.proofs.CallLemmas.{resting_idle}
use Rattle.claim_table.proofs.PassLemmas.{splits}
use Rattle.claim_table.proofs.board.Board.split.Goals as goal

pub split_seat-seat-requires : goal.split_seat-seat-requires
split_seat-seat-requires g c = (
  search rules,
  search rules,
  splits g.L.Listed.lists _ _ c.pass.inside.seat.me.0
      (resting_idle _ _ _ _ _ _ c.pass.invariant (ap (λ p. p.view.seat.hand) c.pass.view_is ∙ c.requires.hand))
      (subst (λ p. 0 < p.view.spare) (sym c.pass.view_is) c.requires.spare),
)
