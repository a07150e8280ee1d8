-- The table of the pairs that several points share, as one list.
use Rattle.std.specs.Prelude.{ℕ, List, [], ◌∷◌, if◌then◌else◌, nat_le, flat_map}
use Rattle.std.specs.List.{filter}
use Rattle.live_points.specs.declared.point.LivePoint.{LivePoint}
use Rattle.live_points.specs.Sharing.{holders, is_later}

-- a pair in its place among others, which are in order: once, where it is there
unfoldable pub with_pair : ℕ × ℕ → List (ℕ × ℕ) → List (ℕ × ℕ)
with_pair pair [] = pair ∷ []
with_pair pair (first ∷ pairs) =
    if is_later first pair then pair ∷ first ∷ pairs
    else (if is_later pair first then first ∷ with_pair pair pairs else first ∷ pairs)

-- all pairs of a list in order, each once
unfoldable pub in_order : List (ℕ × ℕ) → List (ℕ × ℕ)
in_order [] = []
in_order (pair ∷ pairs) = with_pair pair (in_order pairs)

-- those that stand in the words of at least two points
unfoldable pub sharing_of : List LivePoint → List (ℕ × ℕ)
sharing_of points =
    filter (λ pair. nat_le 2 (holders points pair)) (in_order (flat_map (λ point. point.words) points))
