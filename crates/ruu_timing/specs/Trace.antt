-- The traces that can be timed.
use Rattle.std.specs.Prelude.{◌<◌, ◌≤◌, ℕ, List, length, All}
use Rattle.hierarchy.specs.declared.marked.Marked.{Marked}
use Rattle.hierarchy.specs.Marked.{IsMarked}

-- the skip is below the length, the length is at most 110,000, and the marks are in their ranges
pub record IsTrace (items : List Marked) (skip : ℕ) : Type 0 where
  pub within : skip < length items
  pub few : length items ≤ 110000
  pub marks : All IsMarked items
