-- Words that are split one by one into own pairs and runs.
use Rattle.std.proofs.Common.{◌≡◌, ℕ, zero, suc, ◌+◌, ◌^◌, ◌<◌, ◌≤◌, Bool, cond, eqb, Option, Some, None, is_none, List, [], ◌∷◌, ◌++◌, length, take, filter, get_or, refl, sym, ap, ◌∙◌, arith, add-one, append-nil, inl, inr, eq-eqb}
use Rattle.std.specs.Prelude.{filter_map}
use Rattle.std.specs.List.{cons_option}
use Rattle.std.proofs.lemmas.Bool.{cases_eq, cases_Bool, ne_eqb}
use Rattle.live_words.specs.Follow.{Follow}
use Rattle.live_words.specs.Words.{IsPair, AreWords}
use Rattle.live_points.specs.Sharing.{ranks}
use Rattle.livepoint_format.specs.Shared.{Parts, place_in, joined, runs_of, parts_of}
use Rattle.livepoint_format.specs.Format.{AreParts}
use Rattle.livepoint_format.proofs.Parts.{parts_are}
use Rattle.livepoint_format.specs.Splitting.{extended}

joined_extended : (q p : ℕ) (runs : List (ℕ × ℕ)) → joined q (extended runs p) ≡ extended (joined q runs) p
joined_extended q p [] =
    elim (cases_eq p (suc q)) [
      | inl same ↦
          let next : q + 1 ≡ p = omega (arith, same) in
          rw (eq-eqb p (suc q) same, eq-eqb (q + 1) p next) refl
      | inr other ↦ rw (ne_eqb p (suc q) other, ne_eqb (q + 1) p (λ e. other (omega (arith, e)))) refl
    ]
joined_extended q p (run ∷ []) =
    elim (cases_eq run.0 (suc q)) [
      | inl same ↦
          let along : q + suc run.1 ≡ run.0 + run.1 = omega (arith, same) in
          elim (cases_eq (run.0 + run.1) p) [
            | inl end ↦ rw (eq-eqb (run.0 + run.1) p end, eq-eqb run.0 (suc q) same, eq-eqb (q + suc run.1) p (along ∙ end)) refl
            | inr far ↦ rw (ne_eqb (run.0 + run.1) p far, eq-eqb run.0 (suc q) same, ne_eqb (q + suc run.1) p (λ e. far (sym along ∙ e))) refl
          ]
      | inr other ↦
          elim (cases_eq (run.0 + run.1) p) [
            | inl end ↦ rw (eq-eqb (run.0 + run.1) p end, ne_eqb run.0 (suc q) other, eq-eqb (run.0 + run.1) p end) refl
            | inr far ↦ rw (ne_eqb (run.0 + run.1) p far, ne_eqb run.0 (suc q) other, ne_eqb (run.0 + run.1) p far) refl
          ]
    ]
joined_extended q p (run ∷ (next ∷ runs)) =
    elim (cases_Bool (eqb run.0 (suc q))) [
      | inl e ↦ rw e refl
      | inr e ↦ rw e refl
    ]

runs_more : (places : List ℕ) (p : ℕ) → runs_of (places ++ p ∷ []) ≡ extended (runs_of places) p
runs_more [] p = refl
runs_more (q ∷ places) p = ap (joined q) (runs_more places p) ∙ joined_extended q p (runs_of places)

-- ---- the step

pub extended_behind : (runs : List (ℕ × ℕ)) (first count p : ℕ) → first + suc count ≡ p
    → runs ++ (first, suc (suc count)) ∷ [] ≡ extended (runs ++ (first, suc count) ∷ []) p
extended_behind [] first count p end = rw (eq-eqb (first + suc count) p end) refl
extended_behind (run ∷ []) first count p end = rw (eq-eqb (first + suc count) p end) refl
extended_behind (run ∷ (next ∷ runs)) first count p end = ap (λ (l : List (ℕ × ℕ)). run ∷ l) (extended_behind (next ∷ runs) first count p end)

pub extended_apart : (runs : List (ℕ × ℕ)) (first count p : ℕ) → (first + suc count ≡ p → ⊥)
    → (runs ++ (first, suc count) ∷ []) ++ (p, 1) ∷ [] ≡ extended (runs ++ (first, suc count) ∷ []) p
extended_apart [] first count p far = rw (ne_eqb (first + suc count) p far) refl
extended_apart (run ∷ []) first count p far = rw (ne_eqb (first + suc count) p far) refl
extended_apart (run ∷ (next ∷ runs)) first count p far = ap (λ (l : List (ℕ × ℕ)). run ∷ l) (extended_apart (next ∷ runs) first count p far)

-- ---- one more word

take_next : {A : Type 0} (xs : List A) (i : ℕ) (d : A) → i < length xs → take (suc i) xs ≡ take i xs ++ get_or xs i d ∷ []
take_next [] i d h = absurd (omega arith)
take_next (x ∷ xs) zero d h = refl
take_next (x ∷ xs) (suc i) d h = ap (λ (l : List _). x ∷ l) (take_next xs i d (omega arith))

pub take_one : {A : Type 0} (xs : List A) (i : ℕ) (d : A) → i < length xs → take (i + 1) xs ≡ take i xs ++ get_or xs i d ∷ []
take_one xs i d h = rw add-one (take_next xs i d h)

filter_push : (test : ℕ × ℕ → Bool) (ws : List (ℕ × ℕ)) (w : ℕ × ℕ) → filter test (ws ++ w ∷ []) ≡ filter test ws ++ cond (test w) (w ∷ []) []
filter_push test [] w = refl
filter_push test (v ∷ ws) w =
    elim (cases_Bool (test v)) [
      | inl e ↦ rw e (ap (λ (l : List (ℕ × ℕ)). v ∷ l) (filter_push test ws w))
      | inr e ↦ rw e (filter_push test ws w)
    ]

places_push : (table ws : List (ℕ × ℕ)) (w : ℕ × ℕ)
    → filter_map (place_in table) (ws ++ w ∷ []) ≡ filter_map (place_in table) ws ++ cons_option (place_in table w) []
places_push table [] w = refl
places_push table (v ∷ ws) w = go (place_in table v) refl (places_push table ws w)
  where
    go : (o : Option ℕ) → place_in table v ≡ o
        → filter_map (place_in table) (ws ++ w ∷ []) ≡ filter_map (place_in table) ws ++ cons_option (place_in table w) []
        → cons_option (place_in table v) (filter_map (place_in table) (ws ++ w ∷ []))
        ≡ cons_option (place_in table v) (filter_map (place_in table) ws) ++ cons_option (place_in table w) []
    go None e later = rw e later
    go (Some p) e later = rw e (ap (λ (l : List ℕ). p ∷ l) later)

module _ (table ws : List (ℕ × ℕ)) (i : ℕ) (below : i < length ws) where
  -- the word stands in no run
  pub own_more : place_in table (get_or ws i (0, 0)) ≡ None
      → filter (λ w. is_none (place_in table w)) (take (i + 1) ws) ≡ filter (λ w. is_none (place_in table w)) (take i ws) ++ get_or ws i (0, 0) ∷ []
  own_more e =
      ap (filter (λ w. is_none (place_in table w))) (take_one ws i (0, 0) below)
      ∙ filter_push (λ w. is_none (place_in table w)) (take i ws) (get_or ws i (0, 0))
      ∙ rw e refl

  pub runs_stay : place_in table (get_or ws i (0, 0)) ≡ None
      → runs_of (filter_map (place_in table) (take (i + 1) ws)) ≡ runs_of (filter_map (place_in table) (take i ws))
  runs_stay e =
      let same : filter_map (place_in table) (take i ws ++ get_or ws i (0, 0) ∷ []) ≡ filter_map (place_in table) (take i ws) =
      places_push table (take i ws) (get_or ws i (0, 0)) ∙ rw e (append-nil (filter_map (place_in table) (take i ws))) in
      ap (λ (l : List (ℕ × ℕ)). runs_of (filter_map (place_in table) l)) (take_one ws i (0, 0) below)
      ∙ ap runs_of same

  -- or in one
  pub own_stay : (p : ℕ) → place_in table (get_or ws i (0, 0)) ≡ Some p
      → filter (λ w. is_none (place_in table w)) (take (i + 1) ws) ≡ filter (λ w. is_none (place_in table w)) (take i ws)
  own_stay p e =
      ap (filter (λ w. is_none (place_in table w))) (take_one ws i (0, 0) below)
      ∙ filter_push (λ w. is_none (place_in table w)) (take i ws) (get_or ws i (0, 0))
      ∙ rw e (append-nil (filter (λ w. is_none (place_in table w)) (take i ws)))

  pub run_more : (p : ℕ) → place_in table (get_or ws i (0, 0)) ≡ Some p
      → runs_of (filter_map (place_in table) (take (i + 1) ws)) ≡ extended (runs_of (filter_map (place_in table) (take i ws))) p
  run_more p e =
      let more : filter_map (place_in table) (take i ws ++ get_or ws i (0, 0) ∷ []) ≡ filter_map (place_in table) (take i ws) ++ p ∷ [] =
      places_push table (take i ws) (get_or ws i (0, 0)) ∙ rw e refl in
      ap (λ (l : List (ℕ × ℕ)). runs_of (filter_map (place_in table) l)) (take_one ws i (0, 0) below)
      ∙ ap runs_of more
      ∙ runs_more (filter_map (place_in table) (take i ws)) p

-- ---- the parts of words are few

pub few_parts : (shared ws : List (ℕ × ℕ)) (p : Parts) → Follow (IsPair ranks) [] shared → length shared < 2 ^ 32 → AreWords ws → length ws ≤ 2 ^ 30
    → p ≡ parts_of shared ws → (length p.own < 2 ^ 32) × (length p.runs < 2 ^ 32)
few_parts shared ws p ranked short words few is =
    let are : AreParts (2 ^ 30) shared (parts_of shared ws) = parts_are shared ranked (2 ^ 30) ws short words few in
    rw is (omega (arith, are.few_own), omega (arith, are.few_runs))
