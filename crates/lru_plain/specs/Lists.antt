-- Sets as lists in one row of places, so many places to each. A place that is free holds a number that no
-- block has, and so do those behind it in its set.
use Rattle.std.specs.Prelude.{◌≡◌, ℕ, ◌-◌, ◌*◌, ◌<◌, ◌==◌, Bool, if◌then◌else◌, List, [], ◌∷◌, ◌++◌, length, map, take, drop, slice_index_or, slice_set, All, ◌≤◌}
use Rattle.std.specs.List.{range_with_len, list_any}
use Rattle.lru_plain.specs.Shape.{Shape, IsShape, sets_of, home_of}

-- a shape, and what is listed in each set, the most recent first
pub record Listing (X : Type 0) : Type 0 where
  pub shape : Shape
  pub sets : List (List X)

-- the list without the first element of this block
abbrev pub without_block : {X : Type 0} → (X → ℕ) → ℕ → List X → List X
without_block block_in block [] = []
without_block block_in block (x ∷ xs) =
    if block_in x == block then xs else x ∷ without_block block_in block xs

-- an element of this block is in the list
abbrev pub has_block : {X : Type 0} → (X → ℕ) → ℕ → List X → Bool
has_block block_in block xs = list_any (λ x. block_in x == block) xs

-- a list after a use: the element goes to the front in place of the one of its block, and the list is cut
abbrev pub used_list : {X : Type 0} → (X → ℕ) → ℕ → X → List X → List X
used_list block_in ways x xs = take ways (x ∷ without_block block_in (block_in x) xs)

-- the list of an element's set
abbrev pub list_for : {X : Type 0} → (X → ℕ) → Listing X → X → List X
list_for block_in l x = slice_index_or l.sets (home_of l.shape (block_in x)) []

-- all lists after a use of an element
abbrev pub used : {X : Type 0} → (X → ℕ) → Listing X → X → Listing X
used block_in l x = record {
  shape = l.shape;
  sets = slice_set l.sets (home_of l.shape (block_in x))
      (used_list block_in l.shape.ways x (list_for block_in l x));
}

-- what holds of all lists
pub record IsListing {X : Type 0} (l : Listing X) : Type 0 where
  pub geometry : IsShape l.shape
  pub count : length l.sets ≡ sets_of l.shape
  pub cut : All (λ set. length set ≤ l.shape.ways) l.sets

-- the number in a free place: lines have more than one byte, so that no address is in a block of this number
abbrev pub free_block : ℕ
free_block = 4294967295

-- what stands before the first free place
abbrev pub filled : {X : Type 0} → (X → ℕ) → List X → List X
filled block_in [] = []
filled block_in (x ∷ xs) = if block_in x == free_block then [] else x ∷ filled block_in xs

-- behind a free place all are free
abbrev pub AreFreeLast : {X : Type 0} → (X → ℕ) → List X → Type 0
AreFreeLast block_in [] = Unit {0}
AreFreeLast block_in (x ∷ xs) =
    (block_in x ≡ free_block → filled block_in xs ≡ []) × AreFreeLast block_in xs

-- a row after so many of its places from one on were written
abbrev pub with_places : {X : Type 0} → ℕ → ℕ → List X → List X → List X
with_places start ways row new = take start row ++ (new ++ drop ways (drop start row))

-- the places of a set
abbrev pub places_of : {X : Type 0} → Shape → List X → ℕ → List X
places_of g row set = take g.ways (drop (set * g.ways) row)

-- the lists of all sets
unfoldable pub lists_in : {X : Type 0} → (X → ℕ) → Shape → List X → List (List X)
lists_in block_in g row = map (λ set. filled block_in (places_of g row set)) (range_with_len 0 (sets_of g))

-- what holds of a row of lists, and of the mask that gives a block's set
pub record IsRow {X : Type 0} (block_in : X → ℕ) (g : Shape) (last_set : ℕ) (row : List X) : Type 0 where
  pub shape : IsShape g
  pub last : last_set ≡ sets_of g - 1
  pub long : length row ≡ sets_of g * g.ways
  pub free_last : (set : ℕ) → set < sets_of g → AreFreeLast block_in (places_of g row set)
