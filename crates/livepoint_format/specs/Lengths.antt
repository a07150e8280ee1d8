-- Where runs end.
use Rattle.std.specs.Prelude.{ℕ, suc, ◌+◌, List, [], ◌∷◌}

-- one above the place that would join the last run, and 0 where there is none
abbrev pub end_of : List (ℕ × ℕ) → ℕ
end_of [] = 0
end_of (run ∷ []) = suc (run.0 + run.1)
end_of (run ∷ (next ∷ runs)) = end_of (next ∷ runs)
