use Rattle.std.proofs.Common.{◌≡◌, ◌∷◌, ◌++◌, get_or, take, drop}
use Rattle.lru_plain.proofs.ListsLemmas.{IsAbsentBefore}
use Rattle.lru_plain.proofs.lists.move_to_front.Given as goal

abbrev pub invariant-loop-place : goal.invariant-loop-place
invariant-loop-place g l = record {
  moved : l.list ≡ take l.place-index (l.element ∷ l.fn.list) ++ drop l.place-index l.fn.list;
  carried : l.carried ≡ get_or (l.element ∷ l.fn.list) l.place-index l.element;
  absent : IsAbsentBefore g.E.Listed.block_in (g.E.Listed.block_in l.element) l.fn.list l.place-index l.element;
}
