-- Lists kept in one row, with the places where each begins.
use Rattle.std.specs.Prelude.{ℕ, ◌+◌, ◌-◌, ◌<◌, ◌≤◌, List, [], ◌∷◌, ◌++◌, length, take, drop, slice_index}

-- the lists that begin at these places of the row; the last place is the end
abbrev pub parts : {X : Type 0} → List ℕ → List X → List (List X)
parts [] row = []
parts (start ∷ []) row = []
parts (start ∷ end ∷ rest) row = take (end - start) (drop start row) ∷ parts (end ∷ rest) row

-- the places where lists of these lengths begin, from a place on, and the end
abbrev pub starts_from : ℕ → List ℕ → List ℕ
starts_from start [] = start ∷ []
starts_from start (count ∷ counts) = start ∷ starts_from (start + count) counts

-- the lists in one row
abbrev pub in_a_row : {X : Type 0} → List (List X) → List X
in_a_row [] = []
in_a_row (xs ∷ rest) = xs ++ in_a_row rest

-- the places don't fall, and stay within the row
abbrev pub AreStarts : ℕ → List ℕ → Type 0
AreStarts long starts =
    (k : ℕ) → k + 1 < length starts
    → (slice_index starts k ≤ slice_index starts (k + 1)) × (slice_index starts (k + 1) ≤ long)
