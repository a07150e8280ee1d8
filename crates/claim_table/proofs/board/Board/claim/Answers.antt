use Rattle.std.proofs.Common.{rules, ap, ◌∙◌}
use Rattle.claim_table.proofs.StepLemmas.{claims}
use Rattle.claim_table.proofs.CallLemmas.{resting_idle}
use Rattle.claim_table.proofs.board.Board.claim.Goals as goal

pub fetch_add-number-requires : goal.fetch_add-number-requires
fetch_add-number-requires g c = (
  search rules,
  search rules,
  claims g.L.Listed.lists _ _ _ c.pass.inside.seat.me
      (resting_idle _ _ _ _ _ _ c.pass.invariant (ap (λ p. p.view.seat.hand) c.pass.view_is ∙ c.requires.hand))
      (ap (λ p. p.view.seat.past) c.pass.view_is ∙ c.requires.past)
      (ap (λ p. p.view.seat.seen_end) c.pass.view_is ∙ c.requires.unseen),
)
