use Rattle.std.proofs.Common.{◌≡◌, length, rules, arith, ap, subst, ◌∙◌}
use Rattle.claim_table.specs.Board.{list_at}
use Rattle.claim_table.specs.Shown.{BoardShown}
use Rattle.claim_table.proofs.StepLemmas.{reports}
use Rattle.claim_table.proofs.CallLemmas.{ready}
use Rattle.claim_table.proofs.board.Board.report.Goals as goal

pub swap-requires : goal.swap-requires
swap-requires g c =
    let size = subst (λ (b : BoardShown). b.size ≡ length (list_at g.L.Listed.lists b.which)) c.self.view_is c.self.invariant.size in
    let hand = c.pass.invariant.hand_is ∙ c.in-Some.is in
    let is = ready g.L.Listed.lists c.args.self.now c.args.pass.now c.pass.inside.seat.me c.in-Some.point c.args.answer
    c.requires.pass (ap (λ p. p.view) c.pass.view_is) size hand c.requires.hand in
    let same = ap (λ (b : BoardShown). b.size) c.self.view_is in (
      search rules,
      omega (arith, is.below, c.self.invariant.words, same),
      rw c.code-word.ensures.value
          (reports g.L.Listed.lists _ _ _ c.pass.inside.seat.me c.in-Some.point c.args.answer
          c.pass.invariant.live hand c.pass.invariant.free is.answer_is),
    )
