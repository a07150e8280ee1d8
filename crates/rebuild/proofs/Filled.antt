-- The sets of a cache of which so many are filled.
use Rattle.std.proofs.Common.{◌≡◌, ℕ, suc, ◌+◌, ◌-◌, ◌<◌, ◌≤◌, List, [], ◌∷◌, ◌++◌, length, map, get_or, set, replicate, sym, ◌∙◌, arith, append_assoc, append-nil}
use Rattle.std.specs.List.{range_with_len}
use Rattle.std.proofs.lemmas.List.{length-append, length-replicate, get_or-append_right, get_or-replicate, set_at}
use Rattle.std.proofs.lemmas.List.FromFn.{length-map-range_with_len, map-range_with_len_more}

module _ (f : ℕ → List ℕ) (n : ℕ) where
  abbrev pub filled : ℕ → List (List ℕ)
  filled i = map f (range_with_len 0 i) ++ replicate (n - i) []

  pub filled_length : (i : ℕ) → i ≤ n → length (filled i) ≡ n
  filled_length i h =
      omega (
        arith,
        length-append (map f (range_with_len 0 i)) (replicate (n - i) []),
        length-map-range_with_len f 0 i,
        length-replicate {A = List ℕ} (n - i) [],
      )

  pub still_empty : (i : ℕ) → i < n → get_or (filled i) i [] ≡ []
  still_empty i h =
      get_or-append_right (map f (range_with_len 0 i)) (replicate (n - i) []) i i [] (length-map-range_with_len f 0 i) (omega arith)
      ∙ get_or-replicate {A = List ℕ} (n - i) (i - i) [] [] (omega (arith, h))

  pub filled_more : (i : ℕ) → i < n → set (filled i) i (f i) ≡ filled (i + 1)
  filled_more i h =
      let left : n - i ≡ suc (n - (i + 1)) = omega (arith, h) in
      let all : i ≡ 0 + i = omega arith in
      rw (left, map-range_with_len_more f 0 i i (omega arith))
      (set_at (map f (range_with_len 0 i)) [] (replicate (n - (i + 1)) []) (f i) i (length-map-range_with_len f 0 i)
      ∙ sym (append_assoc (map f (range_with_len 0 i)) (f i ∷ []) (replicate (n - (i + 1)) [])))

  pub all_filled : (i : ℕ) → n ≤ i → i ≤ n → filled i ≡ map f (range_with_len 0 n)
  all_filled i h k =
      let same : i ≡ n = omega (arith, h, k) in
      let none : n - n ≡ 0 = omega arith in
      rw (same, none) (append-nil (map f (range_with_len 0 n)))
