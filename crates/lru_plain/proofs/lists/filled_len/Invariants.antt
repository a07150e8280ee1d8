use Rattle.std.proofs.Common.{◌≡◌, ◌++◌, take, drop}
use Rattle.lru_plain.specs.Lists.{filled}
use Rattle.lru_plain.proofs.lists.filled_len.Given as goal

abbrev pub invariant-loop-element : goal.invariant-loop-element
invariant-loop-element g l = record {
  count : l.len ≡ l.element-index;
  before : filled g.E.Listed.block_in l.list
      ≡ take l.element-index l.list ++ filled g.E.Listed.block_in (drop l.element-index l.list);
}
