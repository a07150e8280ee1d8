-- Segments of one length in a row: the places of each set.
use Rattle.std.proofs.Common.{◌≡◌, ℕ, zero, suc, ◌+◌, ◌*◌, ◌<◌, ◌≤◌, List, [], ◌∷◌, ◌++◌, length, map, take, drop, set, refl, sym, ap, ◌∙◌, arith, inl, inr, mul-le-mul, suc-mul}
use Rattle.std.specs.List.{range_with_len}
use Rattle.std.proofs.lemmas.Bool.{cases_lt}
use Rattle.std.proofs.lemmas.List.{length-take-le, length-drop, take_at, drop_at, drop-take, length-append, take-set-le, drop-set-lt, drop-set-add}
use Rattle.std.proofs.lemmas.Slice.{take-put_mid_below, drop-put_mid}

-- lists made by two functions of the place that differ at one place alone
module _ {X : Type 0} (f g : ℕ → X) where
  same_in_range : (a n : ℕ) → ((j : ℕ) → a ≤ j → j < a + n → g j ≡ f j) → map f (range_with_len a n) ≡ map g (range_with_len a n)
  same_in_range a zero h = refl
  same_in_range a (suc n) h =
      rw (h a (omega arith) (omega arith), same_in_range (a + 1) n (λ j low below. h j (omega (arith, low)) (omega (arith, below)))) refl

  set_in_range :
      (a n k : ℕ) (x : X) → g (a + k) ≡ x → ((j : ℕ) → (j ≡ a + k → ⊥) → j < a + n → g j ≡ f j)
      → set (map f (range_with_len a n)) k x ≡ map g (range_with_len a n)
  set_in_range a zero k x here rest = refl
  set_in_range a (suc n) zero x here rest =
      let first : a ≡ a + 0 = omega arith in
      let at : g a ≡ x = ap g first ∙ here in
      rw (at, same_in_range (a + 1) n (λ j low below. rest j (λ e. omega (arith, e, low)) (omega (arith, below)))) refl
  set_in_range a (suc n) (suc k) x here rest =
      let along : (a + 1) + k ≡ a + suc k = omega arith in
      rw (
        rest a (λ e. omega (arith, e)) (omega arith),
        set_in_range (a + 1) n k x (ap g along ∙ here)
            (λ j other below. rest j (λ e. other (omega (arith, e))) (omega (arith, below))),
      ) refl

  pub set_in_places :
      (n k : ℕ) (x : X) → g k ≡ x → ((j : ℕ) → (j ≡ k → ⊥) → j < n → g j ≡ f j)
      → set (map f (range_with_len 0 n)) k x ≡ map g (range_with_len 0 n)
  set_in_places n k x here rest =
      let same : 0 + k ≡ k = omega arith in
      set_in_range 0 n k x (ap g same ∙ here) (λ j other below. rest j (λ e. other (e ∙ sym same)) (omega (arith, below)))

-- a segment ends before the next begins
pub segment_below : (j k ways : ℕ) → j < k → j * ways + ways ≤ k * ways
segment_below j k ways h =
    let low : suc j ≤ k = omega (arith, h) in
    let same : ways ≤ ways = omega arith in
    let next : suc j * ways ≤ k * ways = mul-le-mul low same in
    omega (arith, next, suc-mul j ways)

pub segment_within : (j n ways long : ℕ) → j < n → long ≡ n * ways → j * ways + ways ≤ long
segment_within j n ways long h is = omega (arith, segment_below j n ways h, is)

module _ {X : Type 0} where
  pub segment_length : (ways k : ℕ) (row : List X) → k * ways + ways ≤ length row → length (take ways (drop (k * ways) row)) ≡ ways
  segment_length ways k row h = length-take-le ways (drop (k * ways) row) (omega (arith, length-drop (k * ways) row, h))

  -- a segment after it was written, and the others
  module _ (ways k : ℕ) (row new : List X) (long : length new ≡ ways) (within : k * ways + ways ≤ length row) where
    abbrev pub written_row : List X
    written_row = take (k * ways) row ++ (new ++ drop ways (drop (k * ways) row))

    front : length (take (k * ways) row) ≡ k * ways
    front = length-take-le (k * ways) row (omega (arith, within))

    pub written_here : take ways (drop (k * ways) written_row) ≡ new
    written_here =
        rw (drop_at (take (k * ways) row) (new ++ drop ways (drop (k * ways) row)) (k * ways) front)
        (take_at new (drop ways (drop (k * ways) row)) ways long)

    pub written_elsewhere : (j : ℕ) → (j ≡ k → ⊥) → take ways (drop (j * ways) written_row) ≡ take ways (drop (j * ways) row)
    written_elsewhere j other =
        elim (cases_lt j k) [
          | inl below ↦
              let apart : j * ways + ways ≤ k * ways = segment_below j k ways below in
              let cut : take (j * ways + ways) written_row ≡ take (j * ways + ways) row =
              take-put_mid_below (k * ways) ways row new (j * ways + ways) apart (omega (arith, within)) in
              sym (drop-take (j * ways) ways written_row) ∙ ap (drop (j * ways)) cut ∙ drop-take (j * ways) ways row
          | inr above ↦
              let apart : k * ways + ways ≤ j * ways = segment_below k j ways (omega (arith, above, other)) in
              ap (take ways) (drop-put_mid (k * ways) ways row new (j * ways) apart (omega (arith, within)) long)
        ]

    pub written_length : length written_row ≡ length row
    written_length =
        omega (
          arith,
          length-append (take (k * ways) row) (new ++ drop ways (drop (k * ways) row)),
          length-append new (drop ways (drop (k * ways) row)),
          length-drop ways (drop (k * ways) row),
          length-drop (k * ways) row,
          front,
          long,
          within,
        )

  -- one place of a segment is written
  pub take_set : (n : ℕ) (xs : List X) (i : ℕ) (x : X) → take n (set xs i x) ≡ set (take n xs) i x
  take_set zero xs i x = refl
  take_set (suc n) [] i x = refl
  take_set (suc n) (y ∷ ys) zero x = refl
  take_set (suc n) (y ∷ ys) (suc i) x = ap (λ (l : List X). y ∷ l) (take_set n ys i x)

  module _ (ways k w : ℕ) (row : List X) (x : X) (below : w < ways) where
    pub set_here : take ways (drop (k * ways) (set row (k * ways + w) x)) ≡ set (take ways (drop (k * ways) row)) w x
    set_here = ap (take ways) (drop-set-add (k * ways) row w x) ∙ take_set ways (drop (k * ways) row) w x

    pub set_elsewhere : (j : ℕ) → (j ≡ k → ⊥) → take ways (drop (j * ways) (set row (k * ways + w) x)) ≡ take ways (drop (j * ways) row)
    set_elsewhere j other =
        elim (cases_lt j k) [
          | inl before ↦
              let apart : j * ways + ways ≤ k * ways = segment_below j k ways before in
              sym (drop-take (j * ways) ways (set row (k * ways + w) x))
              ∙ ap (drop (j * ways)) (take-set-le (j * ways + ways) row (k * ways + w) x (omega (arith, apart)))
              ∙ drop-take (j * ways) ways row
          | inr behind ↦
              let apart : k * ways + ways ≤ j * ways = segment_below k j ways (omega (arith, behind, other)) in
              ap (take ways) (drop-set-lt (j * ways) row (k * ways + w) x (omega (arith, apart, below)))
        ]
