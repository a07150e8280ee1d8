use Rattle.std.proofs.Common.{arith, sym, ap, subst, ◌∙◌, None}
use Rattle.ordered_fold.specs.Front.{pushed}
use Rattle.claim_table.specs.Steps.{Holding}
use Rattle.claim_table.specs.Calls.{HasFront}
use Rattle.claim_table.proofs.FoldingLemmas.{next_place, glances_at, glanced_front, glanced_left}
use Rattle.claim_table.proofs.folding.fold_cells.Goals as goal

pub load-word-requires : goal.load-word-requires
load-word-requires g c =
    let goes = sym c.is_going.ensures ∙ c.loop-front-test.true in
    let kept = c.loop-front.invariant in
    let next = next_place g.L.Listed.lists c.args.seat.now.me.0 c.loop-front.seat.me c.loop-front.front c.count.result c.args.first c.args.size
    kept.front goes kept.view c.count.ensures c.requires.first c.requires.size c.if-place-size.false in (
      kept.table ∙ c.requires.table,
      omega (arith, next.in_size, c.requires.words),
      glances_at g.L.Listed.lists _ _ _ c.loop-front.seat.me c.loop-front.front _ kept.front goes next.place_is next.below,
    )

pub loop-front-preserved : goal.loop-front-preserved
loop-front-preserved g c =
    let goes = sym c.is_going.ensures ∙ c.loop-front-test.true in
    let kept = c.loop-front.invariant in
    let next = next_place g.L.Listed.lists c.args.seat.now.me.0 c.loop-front.seat.me c.loop-front.front c.count.result c.args.first c.args.size
    kept.front goes kept.view c.count.ensures c.requires.first c.requires.size c.if-place-size.false in
    let glanced = c.load-word.ensures.2 in
    let after = ap (λ (m : Holding). m.0) (glanced.full c.if-word-eq0.false) in
    record {
      table = c.load-word.ensures.0 ∙ kept.table;
      id = c.load-word.ensures.1 ∙ kept.id;
      front = subst (λ f. HasFront g.L.Listed.lists c.load-word.new.seat.me None f)
          (sym (c.push.ensures.value ∙ ap (pushed c.loop-front.front) c.answer_of.ensures))
          (glanced_front g.L.Listed.lists c.loop-front.seat.me c.load-word.new.seat.me c.load-word.result c.loop-front.front
          kept.front next.below glanced c.if-word-eq0.false);
      view = glanced_left c.args.seat.now.me.0 c.loop-front.seat.me.0 c.load-word.new.seat.me.0 _ _ kept.view after;
      later = omega (arith, kept.later, ap (λ (m : Holding). m.0.steps) (glanced.full c.if-word-eq0.false));
    }
