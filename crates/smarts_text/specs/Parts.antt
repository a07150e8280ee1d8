-- The parts of a text: what stands left and right of a byte.
use Rattle.std.specs.Prelude.{◌==◌, ℕ, List, [], ◌∷◌, if◌then◌else◌, Option, Some, None, option_map}
use Rattle.std.specs.List.{slice_split}
use denote.Ref.{Bor}

-- what stands left and right of the first byte c
unfoldable pub parts_round : ℕ → List ℕ → Option (List ℕ × List ℕ)
parts_round c [] = None
parts_round c (b ∷ bs) =
    if b == c then Some ([], bs) else option_map (λ parts. (b ∷ parts.0, parts.1)) (parts_round c bs)

-- two parts that the program has of a text
abbrev pub parts_copied : Option (Bor (List ℕ) × Bor (List ℕ)) → Option (List ℕ × List ℕ)
parts_copied parts = option_map (λ x. (x.0.now, x.1.now)) parts

-- the parts between the bytes c of what is left of a text, of which there may be nothing
abbrev pub parts_left : ℕ → Option (Bor (List ℕ)) → List (List ℕ)
parts_left c None = []
parts_left c (Some rest) = slice_split (λ b. b == c) rest.now
