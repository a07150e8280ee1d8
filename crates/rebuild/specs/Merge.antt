-- The sets of a smaller cache, from what a record tells of a larger one.
use Rattle.std.specs.Prelude.{◌≡◌, ℕ, ◌+◌, ◌%◌, ◌≤◌, ◌==◌, if◌then◌else◌, List, [], ◌∷◌, ◌++◌, map, take}
use Rattle.std.specs.List.{range_with_len}
use Rattle.lru_plain.specs.Shape.{Shape, sets_of}
use Rattle.lru_plain.specs.Cache.{plain}
use Rattle.recency_record.specs.declared.entry.Entry.{Entry}
use Rattle.recency_record.specs.Recency.{Recency, record_of}
use Rattle.recency_record.specs.Slots.{by_time}

-- the smaller cache has the same lines, and no more sets and ways
pub record Fits (large small : Shape) : Type 0 where
  pub line : large.line_log ≡ small.line_log
  pub sets : small.sets_log ≤ large.sets_log
  pub ways : small.ways ≤ large.ways

-- the entries of all sets, numbered from the first on, whose number is the small set's modulo so many
abbrev pub united : ℕ → ℕ → ℕ → List (List Entry) → List Entry
united count set first [] = []
united count set first (es ∷ rest) =
    (if first % count == set then es else []) ++ united count set (first + 1) rest

-- their most recent blocks, by falling time; those of one time by the number of their large set
abbrev pub merged_set : Recency → Shape → ℕ → List ℕ
merged_set r g set = map (λ e. e.block) (take g.ways (by_time (united (sets_of g) set 0 r.sets)))

-- all sets of the smaller cache
unfoldable pub merged : Recency → Shape → List (List ℕ)
merged r g = map (merged_set r g) (range_with_len 0 (sets_of g))

-- the record of a list of addresses is enough to know what any cache that fits in it holds after them
abbrev pub RebuildsPlain : Type 0
RebuildsPlain =
    (addrs : List ℕ) (large small : Shape) → Fits large small
    → merged (record_of addrs large) small ≡ plain addrs small
