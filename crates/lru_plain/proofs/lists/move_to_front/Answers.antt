use Rattle.std.proofs.Common.{◌≡◌, length, ap, arith, add-one, sym, ◌∙◌, below_more}
use Rattle.lru_plain.proofs.ListsLemmas.{still_there, shifted_more, moved_from, moved_in, has_at, has_none}
use Rattle.lru_plain.proofs.lists.move_to_front.Goals as goal

pub returns-then-block-clause-hit : goal.returns-then-block-clause-hit
returns-then-block-clause-hit g c =
    let here = still_there g.E.Listed.block_in c.args.element c.args.list.now c.loop-place.list c.loop-place.place-index c.place-item.result (omega arith) c.loop-place.invariant.moved in
    sym (has_at g.E.Listed.block_in (g.E.Listed.block_in c.args.element) c.args.list.now c.loop-place.place-index c.args.element (omega arith)
    (ap g.E.Listed.block_in (sym here) ∙ sym c.block.ensures ∙ c.if-block.true ∙ c.block-in-loop-place.ensures))

pub returns-then-block-clause-list : goal.returns-then-block-clause-list
returns-then-block-clause-list g c =
    let here = still_there g.E.Listed.block_in c.args.element c.args.list.now c.loop-place.list c.loop-place.place-index c.place-item.result (omega arith) c.loop-place.invariant.moved in
    rw (c.loop-place.invariant.moved, c.loop-place.invariant.carried)
    (shifted_more g.E.Listed.block_in c.args.element c.args.list.now c.loop-place.place-index c.args.element (omega arith)
    ∙ moved_from g.E.Listed.block_in c.args.element c.args.list.now c.loop-place.place-index c.args.element (omega arith)
    (ap g.E.Listed.block_in (sym here) ∙ sym c.block.ensures ∙ c.if-block.true ∙ c.block-in-loop-place.ensures)
    c.loop-place.invariant.absent)

pub loop-place-preserved : goal.loop-place-preserved
loop-place-preserved g c =
    let here = still_there g.E.Listed.block_in c.args.element c.args.list.now c.loop-place.list c.loop-place.place-index c.place-item.result (omega arith) c.loop-place.invariant.moved in
    record {
      moved = rw (c.loop-place.invariant.moved, c.loop-place.invariant.carried)
          (shifted_more g.E.Listed.block_in c.args.element c.args.list.now c.loop-place.place-index c.args.element (omega arith));
      carried = rw add-one here;
      absent = below_more _ _ c.loop-place.invariant.absent
          (λ e. c.if-block.false (c.block.ensures ∙ ap g.E.Listed.block_in here ∙ e ∙ sym c.block-in-loop-place.ensures));
    }

pub returns-clause-hit : goal.returns-clause-hit
returns-clause-hit g c =
    sym (has_none g.E.Listed.block_in (g.E.Listed.block_in c.args.element) c.args.list.now c.args.element
    (λ k h. c.loop-place.invariant.absent k (omega arith)))

pub returns-clause-list : goal.returns-clause-list
returns-clause-list g c =
    let end : c.loop-place.place-index ≡ length c.args.list.now = omega arith in
    rw (c.loop-place.invariant.moved, end)
    (moved_in g.E.Listed.block_in c.args.element c.args.list.now c.args.element
    (λ k h. c.loop-place.invariant.absent k (omega arith)))
