-- The textbook's LRU: sets of blocks, the most recently touched first.
use Rattle.std.specs.Prelude.{◌≡◌, ℕ, ◌≤◌, ◌==◌, if◌then◌else◌, List, [], ◌∷◌, take, replicate, length, fold, slice_index_or, slice_set, Contains, All}
use Rattle.lru_plain.specs.Shape.{Shape, IsShape, sets_of, block_of, home_of}

-- the blocks without the first that is this one
abbrev pub without : ℕ → List ℕ → List ℕ
without block [] = []
without block (first ∷ rest) = if first == block then rest else first ∷ without block rest

-- a set after a touch of one of its blocks: the block goes to the front, and the set is cut at its ways
abbrev pub touched_set : ℕ → ℕ → List ℕ → List ℕ
touched_set ways block set = take ways (block ∷ without block set)

-- the set that an address goes to
abbrev pub set_for : Shape → List (List ℕ) → ℕ → List ℕ
set_for g sets addr = slice_index_or sets (home_of g (block_of g addr)) []

-- the sets after a touch of an address
abbrev pub touched : Shape → List (List ℕ) → ℕ → List (List ℕ)
touched g sets addr =
    slice_set sets (home_of g (block_of g addr))
    (touched_set g.ways (block_of g addr) (set_for g sets addr))

-- the address's block is in its set
abbrev pub IsHit : Shape → List (List ℕ) → ℕ → Type 0
IsHit g sets addr = Contains (set_for g sets addr) (block_of g addr)

-- the sets of an empty cache
abbrev pub empty_sets : Shape → List (List ℕ)
empty_sets g = replicate (sets_of g) []

-- the sets after a touch of each address of a list in turn
unfoldable pub plain : List ℕ → Shape → List (List ℕ)
plain addrs g = fold (touched g) (empty_sets g) addrs

-- a cache, as its shape and its sets
pub record Cache : Type 0 where
  pub shape : Shape
  pub sets : List (List ℕ)

-- what holds of every cache
pub record IsCache (cache : Cache) : Type 0 where
  pub shape : IsShape cache.shape
  pub sets : length cache.sets ≡ sets_of cache.shape
  pub cut : All (λ set. length set ≤ cache.shape.ways) cache.sets
