-- Runs of places, and the places in them.
use Rattle.std.proofs.Common.{◌≡◌, ℕ, zero, suc, ◌+◌, ◌<◌, ◌≤◌, List, [], ◌∷◌, ◌++◌, length, map, take, drop, get_or, refl, sym, ap, ◌∙◌, arith, add-one, inl, inr, eq-eqb, length-append, drop-cons}
use Rattle.std.specs.Prelude.{flat_map, sum_by}
use Rattle.std.specs.List.{range_with_len}
use Rattle.std.proofs.lemmas.Bool.{cases_eq, ne_eqb}
use Rattle.std.proofs.lemmas.List.{map-append}
use Rattle.std.proofs.lemmas.List.Sums.{sum_by-cons}
use Rattle.std.proofs.lemmas.List.FromFn.{length-range_with_len}
use Rattle.livepoint_format.specs.Shared.{joined, runs_of, stretch}

-- the places of runs, one by one
abbrev pub places_of_runs : List (ℕ × ℕ) → List ℕ
places_of_runs runs = flat_map (λ run. range_with_len run.0 run.1) runs

-- rising places from one on, below the length of a table
abbrev pub ArePlaces : ℕ → ℕ → List ℕ → Type 0
ArePlaces least size [] = Unit {0}
ArePlaces least size (place ∷ places) = ((least ≤ place) × (place < size)) × ArePlaces (suc place) size places

pub record IsRun (least size : ℕ) (run : ℕ × ℕ) : Type 0 where
  pub begins : least ≤ run.0
  pub some : 1 ≤ run.1
  pub within : run.0 + run.1 ≤ size

-- runs that don't touch, from a place on, below the length of a table
abbrev pub AreRuns : ℕ → ℕ → List (ℕ × ℕ) → Type 0
AreRuns least size [] = Unit {0}
AreRuns least size (run ∷ runs) = IsRun least size run × AreRuns (suc (run.0 + run.1)) size runs

places_joined : (place : ℕ) (runs : List (ℕ × ℕ)) → places_of_runs (joined place runs) ≡ place ∷ places_of_runs runs
places_joined place [] = refl
places_joined place (run ∷ runs) =
    elim (cases_eq run.0 (suc place)) [
      | inl same ↦
          let next : place + 1 ≡ run.0 = omega (arith, same) in
          rw (eq-eqb run.0 (suc place) same, next) refl
      | inr other ↦ rw (ne_eqb run.0 (suc place) other) refl
    ]

pub places_of_runs_of : (places : List ℕ) → places_of_runs (runs_of places) ≡ places
places_of_runs_of [] = refl
places_of_runs_of (place ∷ places) =
    places_joined place (runs_of places) ∙ ap (λ (l : List ℕ). place ∷ l) (places_of_runs_of places)

-- a run and what is apart from it
runs_of_run : (first count size : ℕ) (places : List ℕ) (runs : List (ℕ × ℕ)) → runs_of places ≡ runs
    → AreRuns (suc (first + suc count)) size runs → runs_of (range_with_len first (suc count) ++ places) ≡ (first, suc count) ∷ runs
runs_of_run first zero size places [] same apart = rw same refl
runs_of_run first zero size places (run ∷ runs) same apart =
    let below : suc (first + 1) ≤ run.0 = apart.0.begins in
    rw (same, ne_eqb run.0 (suc first) (λ e. omega arith)) refl
runs_of_run first (suc count) size places runs same apart =
    let along : (first + 1) + suc count ≡ first + suc (suc count) = omega arith in
    let apart' : AreRuns (suc ((first + 1) + suc count)) size runs = rw along apart in
    let rest : runs_of (range_with_len (first + 1) (suc count) ++ places) ≡ (first + 1, suc count) ∷ runs =
    runs_of_run (first + 1) count size places runs same apart' in
    let next : first + 1 ≡ suc first = omega arith in
    ap (joined first) rest ∙ rw (eq-eqb (first + 1) (suc first) next) refl

pub runs_of_places : (least size : ℕ) (runs : List (ℕ × ℕ)) → AreRuns least size runs → runs_of (places_of_runs runs) ≡ runs
runs_of_places least size [] are = refl
runs_of_places least size ((first, zero) ∷ runs) are = absurd (let h : 1 ≤ 0 = are.0.some in omega arith)
runs_of_places least size ((first, suc count) ∷ runs) are =
    runs_of_run first count size (places_of_runs runs) runs (runs_of_places (suc (first + suc count)) size runs are.1) are.1

runs_joined : (least size place : ℕ) (runs : List (ℕ × ℕ)) → least ≤ place → place < size → AreRuns (suc place) size runs
    → AreRuns least size (joined place runs)
runs_joined least size place [] low below are = (record { begins = low; some = omega arith; within = omega arith }, tt)
runs_joined least size place (run ∷ runs) low below are =
    elim (cases_eq run.0 (suc place)) [
      | inl same ↦
          let end : place + suc run.1 ≡ run.0 + run.1 = omega (arith, same) in
          rw (eq-eqb run.0 (suc place) same) (
            record { begins = low; some = omega arith; within = omega (arith, are.0.within, end) },
            rw end are.1,
          )
      | inr other ↦
          rw (ne_eqb run.0 (suc place) other) (
            record { begins = low; some = omega arith; within = omega arith },
            (record { begins = omega (arith, are.0.begins, other); some = are.0.some; within = are.0.within }, are.1),
          )
    ]

pub runs_are : (least size : ℕ) (places : List ℕ) → ArePlaces least size places → AreRuns least size (runs_of places)
runs_are least size [] are = tt
runs_are least size (place ∷ places) are =
    runs_joined least size place (runs_of places) are.0.0 are.0.1 (runs_are (suc place) size places are.1)

pub sum_of_runs : (runs : List (ℕ × ℕ)) → sum_by (λ run. run.1) runs ≡ length (places_of_runs runs)
sum_of_runs [] = refl
sum_of_runs (run ∷ runs) =
    sum_by-cons (λ r. r.1) run runs
    ∙ omega (arith, sum_of_runs runs, length-append (range_with_len run.0 run.1) (places_of_runs runs), length-range_with_len run.0 run.1)

-- the pairs of a run are those at its places
abbrev pub pairs_at : List (ℕ × ℕ) → List ℕ → List (ℕ × ℕ)
pairs_at table places = map (λ place. get_or table place (0, 0)) places

pairs_of_stretch : (table : List (ℕ × ℕ)) (first count : ℕ) → first + count ≤ length table
    → take count (drop first table) ≡ pairs_at table (range_with_len first count)
pairs_of_stretch table first zero h = refl
pairs_of_stretch table first (suc count) h =
    let below : first < length table = omega arith in
    let here : drop first table ≡ get_or table first (0, 0) ∷ drop (first + 1) table =
    rw (add-one, drop-cons table first (0, 0)) refl in
    rw here (ap (λ (l : List (ℕ × ℕ)). get_or table first (0, 0) ∷ l) (pairs_of_stretch table (first + 1) count (omega arith)))

pub pairs_of_runs : (table : List (ℕ × ℕ)) (least : ℕ) (runs : List (ℕ × ℕ)) → AreRuns least (length table) runs
    → flat_map (stretch table) runs ≡ pairs_at table (places_of_runs runs)
pairs_of_runs table least [] are = refl
pairs_of_runs table least (run ∷ runs) are =
    ap (λ (l : List (ℕ × ℕ)). l ++ flat_map (stretch table) runs) (pairs_of_stretch table run.0 run.1 are.0.within)
    ∙ ap (λ (l : List (ℕ × ℕ)). pairs_at table (range_with_len run.0 run.1) ++ l) (pairs_of_runs table (suc (run.0 + run.1)) runs are.1)
    ∙ sym (map-append (λ place. get_or table place (0, 0)) (range_with_len run.0 run.1) (places_of_runs runs))

-- the places are all in the table
range_below : (first count size : ℕ) (rest : List ℕ) → first + count ≤ size → ((i : ℕ) → i < length rest → get_or rest i 0 < size)
    → (i : ℕ) → i < length (range_with_len first count ++ rest) → get_or (range_with_len first count ++ rest) i 0 < size
range_below first zero size rest h each i below = each i below
range_below first (suc count) size rest h each zero below = omega arith
range_below first (suc count) size rest h each (suc i) below = range_below (first + 1) count size rest (omega arith) each i (omega arith)

pub places_below : (least size : ℕ) (runs : List (ℕ × ℕ)) → AreRuns least size runs
    → (i : ℕ) → i < length (places_of_runs runs) → get_or (places_of_runs runs) i 0 < size
places_below least size [] are i h = absurd (omega arith)
places_below least size (run ∷ runs) are i h =
    range_below run.0 run.1 size (places_of_runs runs) are.0.within (places_below (suc (run.0 + run.1)) size runs are.1) i h
