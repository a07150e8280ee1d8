-- Lines of memory whose blocks are in front of their sets.
use Rattle.std.specs.Prelude.{◌≡◌, ◌≤◌, ◌-◌, ◌/◌, ◌^◌, ℕ, List, [], ◌∷◌, length, slice_index_or, Option, Some, None}
use Rattle.lru_plain.specs.Shape.{Shape, block_of, home_of}
use Rattle.lru_plain.specs.Cache.{Cache, IsCache}
use Rattle.hierarchy.specs.declared.line.Line.{Line}
use Rattle.hierarchy.specs.declared.places.Places.{Places}

-- the block is in front of its set: nothing that belongs to the set was touched after it
pub record IsInFront (c : Cache) (block : ℕ) : Type 0 where
  pub rest : List ℕ
  pub front : slice_index_or c.sets (home_of c.shape block) [] ≡ block ∷ rest
  pub cut : length (block ∷ rest) ≤ c.shape.ways

-- the block that a line lies in, where blocks are no shorter than the line
abbrev pub block_with : Shape → Line → ℕ
block_with g line = line.number / 2 ^ (g.line_log - line.log)

-- the line lies in one block, and that is in front of its set
pub record HasInFront (line : Line) (c : Cache) : Type 0 where
  pub within : line.log ≤ c.shape.line_log
  pub front : IsInFront c (block_with c.shape line)

-- the line is in front of its set wherever a fetch looks
pub record IsLatest (caches : Places Cache) (line : Line) : Type 0 where
  pub small : line.log ≤ 12
  pub itlb : HasInFront line caches.itlb
  pub l1i : HasInFront line caches.l1i
  pub l2 : HasInFront line caches.l2
  pub set : line.set ≡ home_of caches.l2.shape (block_with caches.l2.shape line)

-- the address lies in the line
abbrev pub Holds : Option Line → ℕ → Type 0
Holds None addr = ⊥
Holds (Some line) addr = addr / 2 ^ line.log ≡ line.number

-- blocks of the cache are no shorter than the line
pub record HasBlocksFor (line : Line) (c : Cache) : Type 0 where
  pub cache : IsCache c
  pub within : line.log ≤ c.shape.line_log

-- a line that the address lies in, and that lies in one block wherever a fetch looks
pub record IsLineAt (caches : Places Cache) (addr : ℕ) (line : Line) : Type 0 where
  pub number : addr / 2 ^ line.log ≡ line.number
  pub small : line.log ≤ 12
  pub itlb : HasBlocksFor line caches.itlb
  pub l1i : HasBlocksFor line caches.l1i
  pub l2 : HasBlocksFor line caches.l2
  pub set : line.set ≡ home_of caches.l2.shape (block_of caches.l2.shape addr)
