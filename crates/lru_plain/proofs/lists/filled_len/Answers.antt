use Rattle.std.proofs.Common.{ap, sym, ◌∙◌, arith}
use Rattle.lru_plain.proofs.ListsLemmas.{filled_to, filled_further, filled_all}
use Rattle.lru_plain.proofs.lists.filled_len.Goals as goal

pub returns-then-block-clause-filled : goal.returns-then-block-clause-filled
returns-then-block-clause-filled g c =
    rw c.loop-element.invariant.count
    (filled_to g.E.Listed.block_in c.args.list.now c.loop-element.element-index c.element-item.result c.loop-element-test.true
    (ap g.E.Listed.block_in (sym c.element-item.is) ∙ sym c.block.ensures ∙ c.if-block.true)
    c.loop-element.invariant.before)

pub loop-element-preserved : goal.loop-element-preserved
loop-element-preserved g c = record {
  count = omega (arith, c.loop-element.invariant.count);
  before = filled_further g.E.Listed.block_in c.args.list.now c.loop-element.element-index c.element-item.result c.loop-element-test.true
      (λ e. c.if-block.false (c.block.ensures ∙ ap g.E.Listed.block_in c.element-item.is ∙ e))
      c.loop-element.invariant.before;
}

pub returns-clause-filled : goal.returns-clause-filled
returns-clause-filled g c =
    rw c.loop-element.invariant.count
    (filled_all g.E.Listed.block_in c.args.list.now c.loop-element.element-index c.loop-element-test.false c.loop-element.invariant.before)
