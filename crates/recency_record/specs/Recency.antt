-- What a record of last uses tells: for each set its most recent blocks, with the times of their last use.
use Rattle.std.specs.Prelude.{◌≡◌, ◌≢◌, ℕ, ◌+◌, ◌-◌, ◌^◌, ◌<◌, ◌≤◌, ◌==◌, ◌↔◌, not, List, [], ◌∷◌, length, map, take, filter, slice_index_or, slice_set, Contains}
use Rattle.std.specs.List.{range_with_len}
use Rattle.lru_plain.specs.Shape.{Shape, IsShape, sets_of, block_of, home_of}
use Rattle.recency_record.specs.declared.entry.Entry.{Entry}
use Rattle.std.specs.List.{AllByRecursion}
use Rattle.recency_record.specs.Uses.{last_uses, entries_of, IsLastPlace, later_last_places}

-- the shape, the number of references, and the entries of each set by falling time
pub record Recency : Type 0 where
  pub shape : Shape
  pub time : ℕ
  pub sets : List (List Entry)

-- the blocks that a list of addresses refers to
abbrev pub blocks_of : Shape → List ℕ → List ℕ
blocks_of g addrs = map (block_of g) addrs

-- a set after all references: its blocks by falling last place, cut at the ways
abbrev pub recent : Shape → List ℕ → ℕ → List Entry
recent g blocks set = take g.ways (entries_of g set (last_uses blocks))

-- the record of a list of addresses
unfoldable pub record_of : List ℕ → Shape → Recency
record_of addrs g = record {
  shape = g;
  time = length addrs;
  sets = map (recent g (blocks_of g addrs)) (range_with_len 0 (sets_of g));
}

-- a block stands in its set's entries with a time exactly where that is its last place in the whole list,
-- and fewer blocks of its set than the ways have a later last place
abbrev pub HoldsLastUses : Type 0
HoldsLastUses =
    (addrs : List ℕ) (g : Shape) (set : ℕ) (entry : Entry) → set < sets_of g
    → Contains (slice_index_or (record_of addrs g).sets set []) entry
    ↔ (IsLastPlace (blocks_of g addrs) entry.block entry.time
    × (home_of g entry.block ≡ set)
    × (length (later_last_places g (blocks_of g addrs) set entry.time) < g.ways))

-- the entries of other blocks
abbrev pub others : ℕ → List Entry → List Entry
others block es = filter (λ e. not (e.block == block)) es

-- a set after one more use
abbrev pub used_set : ℕ → Entry → List Entry → List Entry
used_set ways entry es = take ways (entry ∷ others entry.block es)

-- a record after one more reference
abbrev pub referred : Recency → ℕ → Recency
referred r addr =
    let block = block_of r.shape addr in
    let set = home_of r.shape block in
    record {
      shape = r.shape;
      time = r.time + 1;
      sets = slice_set r.sets set
          (used_set r.shape.ways (record { block = block; time = r.time })
          (slice_index_or r.sets set []));
    }

-- the times strictly fall, and no block comes twice
abbrev pub IsRanked : List Entry → Type 0
IsRanked [] = Unit {0}
IsRanked (e ∷ es) = AllByRecursion (λ later. (later.time < e.time) × (later.block ≢ e.block)) es × IsRanked es

-- the entry may stand in this set
pub record IsEntry (g : Shape) (now set : ℕ) (e : Entry) : Type 0 where
  pub block : e.block < 2 ^ (32 - g.line_log)
  pub home : home_of g e.block ≡ set
  pub time : e.time < now

-- these may be the entries of this set
pub record IsSet (g : Shape) (time set : ℕ) (es : List Entry) : Type 0 where
  pub cut : length es ≤ g.ways
  pub ranked : IsRanked es
  pub entries : AllByRecursion (IsEntry g time set) es

-- these may be the entries of all sets
abbrev pub AreSets : Shape → ℕ → List (List Entry) → Type 0
AreSets g time sets = (set : ℕ) → set < sets_of g → IsSet g time set (slice_index_or sets set [])

-- what holds of every record and of every snapshot
pub record IsRecency (r : Recency) : Type 0 where
  pub shape : IsShape r.shape
  pub count : length r.sets ≡ sets_of r.shape
  pub sets : AreSets r.shape r.time r.sets
