-- When each block of a whole list of references was last used.
use Rattle.std.specs.Prelude.{◌≡◌, ℕ, zero, suc, ◌+◌, ◌<◌, ◌==◌, nat_lt, Bool, not, ◌&&◌, if◌then◌else◌, Some, List, [], ◌∷◌, length, drop, filter, slice_get, slice_index}
use Rattle.std.specs.List.{list_any}
use Rattle.lru_plain.specs.Shape.{Shape, home_of}
use Rattle.recency_record.specs.declared.entry.Entry.{Entry}

-- the place is the last one of its block
abbrev pub is_last_place : List ℕ → ℕ → Bool
is_last_place blocks t = not (list_any (λ b. b == slice_index blocks t) (drop (t + 1) blocks))

-- the last places before a given one, with their blocks, the latest first
abbrev pub uses_before : List ℕ → ℕ → List Entry
uses_before blocks zero = []
uses_before blocks (suc t) =
    if is_last_place blocks t
    then record { block = slice_index blocks t; time = t } ∷ uses_before blocks t
    else uses_before blocks t

-- each block with its last place, the latest first
unfoldable pub last_uses : List ℕ → List Entry
last_uses blocks = uses_before blocks (length blocks)

-- the entries of one set
abbrev pub entries_of : Shape → ℕ → List Entry → List Entry
entries_of g set es = filter (λ e. home_of g e.block == set) es

-- the block stands at this place, and at no later one
pub record IsLastPlace (blocks : List ℕ) (block t : ℕ) : Type 0 where
  pub there : slice_get blocks t ≡ Some block
  pub last : (u : ℕ) → t < u → slice_get blocks u ≡ Some block → ⊥

-- the places below a number
abbrev pub places_below : ℕ → List ℕ
places_below zero = []
places_below (suc t) = t ∷ places_below t

-- the last places of a set's blocks that are later than this place: one for each block
abbrev pub later_last_places : Shape → List ℕ → ℕ → ℕ → List ℕ
later_last_places g blocks set t =
    filter
    (λ u. nat_lt t u && (is_last_place blocks u && (home_of g (slice_index blocks u) == set)))
    (places_below (length blocks))
