-- What the cells of a board hold when it is ended.
use Rattle.std.specs.Prelude.{◌≡◌, ◌+◌, ◌<◌, ℕ, true, Some, List, length, slice_get}
use mathlib.Core.Option.{some}
use lib.ListN.{get_elem?}
use Rattle.confidence.specs.declared.answer.Answer.{Answer}
use Rattle.ordered_fold.specs.declared.front.Front.{Front}
use Rattle.ordered_fold.specs.Front.{is_going}
use Rattle.ordered_fold.specs.Cell.{code}
use Rattle.ordered_fold.specs.Batch.{fold_from}

-- up to the end of the fold each cell holds its answer
abbrev pub HasCells : Front → List Answer → List ℕ → Type 0
HasCells start answers words =
    (k : ℕ) → k < length answers → is_going (fold_from start answers k).ending ≡ true
    → (answer : Answer) × (slice_get answers k ≡ Some answer)
    × (get_elem? words (k + 3) ≡ some (code answer))
