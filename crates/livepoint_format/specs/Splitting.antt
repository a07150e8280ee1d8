-- Runs that grow at their end.
use Rattle.std.specs.Prelude.{ℕ, zero, suc, ◌+◌, ◌==◌, if◌then◌else◌, List, [], ◌∷◌}

-- the run under way, where it has begun
abbrev pub open_run : ℕ × ℕ → List (ℕ × ℕ)
open_run (first, zero) = []
open_run (first, suc count) = (first, suc count) ∷ []

-- a place joins the last run where it stands right behind it, or else is a run of its own
abbrev pub extended : List (ℕ × ℕ) → ℕ → List (ℕ × ℕ)
extended [] place = (place, 1) ∷ []
extended (run ∷ []) place =
    if run.0 + run.1 == place then (run.0, suc run.1) ∷ [] else run ∷ ((place, 1) ∷ [])
extended (run ∷ (next ∷ runs)) place = run ∷ extended (next ∷ runs) place
