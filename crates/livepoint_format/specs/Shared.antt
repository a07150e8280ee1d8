-- The words of a point beside the table of shared pairs: its own pairs, and runs of the table.
use Rattle.std.specs.Prelude.{ℕ, suc, ◌==◌, ◌&&◌, nat_lt, Bool, true, is_none, if◌then◌else◌, Option, List, [], ◌∷◌, take, drop, filter, filter_map, flat_map}
use Rattle.std.specs.List.{position_from}

-- own pairs, and runs as a first place of the table and a count
pub record Parts : Type 0 where
  pub own : List (ℕ × ℕ)
  pub runs : List (ℕ × ℕ)

abbrev pub same : ℕ × ℕ → ℕ × ℕ → Bool
same one other = (one.0 == other.0) && (one.1 == other.1)

-- the place of a pair in the table from a place on, and in the whole table
abbrev pub place_from : ℕ → List (ℕ × ℕ) → ℕ × ℕ → Option ℕ
place_from at table pair = position_from (λ p. same p pair) at table

abbrev pub place_in : List (ℕ × ℕ) → ℕ × ℕ → Option ℕ
place_in table pair = place_from 0 table pair

-- a place joins the run that begins right behind it, or else is a run of its own
abbrev pub joined : ℕ → List (ℕ × ℕ) → List (ℕ × ℕ)
joined place [] = (place, 1) ∷ []
joined place (run ∷ runs) =
    if run.0 == suc place then (place, suc run.1) ∷ runs else (place, 1) ∷ (run ∷ runs)

-- places in runs that are as long as they can be
abbrev pub runs_of : List ℕ → List (ℕ × ℕ)
runs_of [] = []
runs_of (place ∷ places) = joined place (runs_of places)

-- a word is spelled in a run exactly where it stands in the table
abbrev pub parts_of : List (ℕ × ℕ) → List (ℕ × ℕ) → Parts
parts_of table words = record {
  own = filter (λ word. is_none (place_in table word)) words;
  runs = runs_of (filter_map (place_in table) words);
}

-- the pairs of the table in a run
abbrev pub stretch : List (ℕ × ℕ) → ℕ × ℕ → List (ℕ × ℕ)
stretch table run = take run.1 (drop run.0 table)

-- a word goes before the first word of a greater address
abbrev pub put : ℕ × ℕ → List (ℕ × ℕ) → List (ℕ × ℕ)
put word [] = word ∷ []
put word (next ∷ words) = if nat_lt word.0 next.0 then word ∷ (next ∷ words) else next ∷ put word words

-- two lists of words as one, by rising address
abbrev pub merged : List (ℕ × ℕ) → List (ℕ × ℕ) → List (ℕ × ℕ)
merged [] others = others
merged (word ∷ own) others = put word (merged own others)

abbrev pub words_of : List (ℕ × ℕ) → Parts → List (ℕ × ℕ)
words_of table parts = merged parts.own (flat_map (stretch table) parts.runs)

-- the address is below those of all
abbrev pub is_lower : ℕ × ℕ → List (ℕ × ℕ) → Bool
is_lower word [] = true
is_lower word (next ∷ words) = nat_lt word.0 next.0

-- each address is above the one before it, so that no two are one
abbrev pub are_apart : List (ℕ × ℕ) → Bool
are_apart [] = true
are_apart (word ∷ words) = is_lower word words && are_apart words
