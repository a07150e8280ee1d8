-- Segments that share no address, in any order and by rising addresses.
use Rattle.std.proofs.Common.{◌≡◌, ℕ, ◌+◌, ◌<◌, ◌≤◌, ◌==◌, Bool, true, false, List, [], ◌∷◌, length, get_or, zero, suc, refl, arith, ◌-◌, inl, inr, if◌then◌else◌, eq-eqb, sym}
use Rattle.std.specs.List.{range_with_len, list_any, swap, All, AllAdjacentBelow}
use Rattle.std.specs.List.Sorted.{IsPermutation, IsNonDecreasingBy}
use Rattle.std.proofs.lemmas.Bool.{cases_eq, cases_lt, or_left, or_right, or_from, or_parts, both_ways, false_from_ne_true, true_from_ne_false, ne_eqb}
use Rattle.std.proofs.lemmas.Bool.Decides.{nat_tests}
use Rattle.std.proofs.lemmas.List.Folds.{list_any_at, list_any_none}
use Rattle.std.proofs.lemmas.List.Edits.{swapped_from_swap, length-swap}
use Rattle.std.proofs.lemmas.List.Sorted.{IsPermutation-keeps, IsPermutation-sym, All-permutation}
use Rattle.elf_image.specs.declared.program_header.ProgramHeader.{ProgramHeader}
use Rattle.elf_image.specs.Segments.{memory_end, holds, shares_address, overlap}

-- a test of the numbers of a range
any_within :
    (p : ℕ → Bool) (start n x : ℕ) → start ≤ x → x < start + n → p x ≡ true
    → list_any p (range_with_len start n) ≡ true
any_within p start zero x low high e = absurd (omega arith)
any_within p start (suc n) x low high e =
    elim (cases_eq start x) [
      | inl same ↦ or_left (p start) _ (rw same e)
      | inr other ↦ or_right (p start) _ (any_within p (start + 1) n x (omega arith) (omega arith) e)
    ]

none_within :
    (p : ℕ → Bool) (start n : ℕ)
    → ((x : ℕ) → start ≤ x → x < start + n → p x ≡ false) → list_any p (range_with_len start n) ≡ false
none_within p start zero h = refl
none_within p start (suc n) h =
    or_from (p start) _ (h start (omega arith) (omega arith))
    (none_within p (start + 1) n (λ x low high. h x (omega arith) (omega arith)))

-- an address of a segment, as numbers
pub holds_from :
    (s : ProgramHeader) (x : ℕ) → s.address ≤ x → x < memory_end s → holds s x ≡ true
holds_from s x low high = grind (arith, nat_tests)

pub holds_low : (s : ProgramHeader) (x : ℕ) → holds s x ≡ true → s.address ≤ x
holds_low s x h = grind (arith, nat_tests)

pub holds_high : (s : ProgramHeader) (x : ℕ) → holds s x ≡ true → x < memory_end s
holds_high s x h = grind (arith, nat_tests)

pub shares_from :
    (a b : ProgramHeader) (x : ℕ) → holds a x ≡ true → holds b x ≡ true → shares_address a b ≡ true
shares_from a b x one other =
    any_within (holds b) a.address a.memory_size x (holds_low a x one) (holds_high a x one) other

pub shares_none :
    (a b : ProgramHeader) → ((x : ℕ) → holds a x ≡ true → holds b x ≡ true → ⊥)
    → shares_address a b ≡ false
shares_none a b never =
    none_within (holds b) a.address a.memory_size
    (λ x low high. false_from_ne_true (holds b x) (never x (holds_from a x low high)))

shares_none_back : (a b : ProgramHeader) → shares_address a b ≡ false → shares_address b a ≡ false
shares_none_back a b none =
    shares_none b a (λ x one other. both_ways (shares_address a b) none (shares_from a b x other one))

-- a segment that ends where another begins, or before, shares nothing with it
shares_none_before : (a b : ProgramHeader) → memory_end a ≤ b.address → shares_address a b ≡ false
shares_none_before a b before =
    shares_none a b
    (λ x one other. let high : x < memory_end a = holds_high a x one in
    let low : b.address ≤ x = holds_low b x other in omega arith)

-- no two of the segments share an address
pub record Apart (xs : List ProgramHeader) : Type 0 where
  pub pairs :
      (i j : ℕ) (d : ProgramHeader) → i < length xs → j < length xs → (i ≡ j → ⊥)
      → shares_address (get_or xs i d) (get_or xs j d) ≡ false

pub none_at :
    (p : ProgramHeader → Bool) (xs : List ProgramHeader) (i : ℕ) (d : ProgramHeader)
    → list_any p xs ≡ false → i < length xs → p (get_or xs i d) ≡ false
none_at p xs i d none h =
    false_from_ne_true (p (get_or xs i d)) (λ e. both_ways (list_any p xs) none (list_any_at p xs i d h e))

apart_cons :
    (x : ProgramHeader) (xs : List ProgramHeader) → list_any (shares_address x) xs ≡ false → Apart xs
    → (i j : ℕ) (d : ProgramHeader) → i < length (x ∷ xs) → j < length (x ∷ xs) → (i ≡ j → ⊥)
    → shares_address (get_or (x ∷ xs) i d) (get_or (x ∷ xs) j d) ≡ false
apart_cons x xs none apart zero zero d hi hj ne = absurd (ne refl)
apart_cons x xs none apart zero (suc j) d hi hj ne = none_at (shares_address x) xs j d none (omega arith)
apart_cons x xs none apart (suc i) zero d hi hj ne =
    shares_none_back x (get_or xs i d) (none_at (shares_address x) xs i d none (omega arith))
apart_cons x xs none apart (suc i) (suc j) d hi hj ne =
    apart.pairs i j d (omega arith) (omega arith) (λ e. ne (omega arith))

pub apart_from : (xs : List ProgramHeader) → overlap xs ≡ false → Apart xs
unfolding overlap
apart_from [] none = record { pairs = λ i j d hi hj ne. absurd (omega arith) }
apart_from (x ∷ xs) none =
    let parts = or_parts (list_any (shares_address x) xs) (overlap xs) none in
    record { pairs = apart_cons x xs parts.0 (apart_from xs parts.1) }

pub none_from : (xs : List ProgramHeader) → Apart xs → overlap xs ≡ false
unfolding overlap
none_from [] apart = refl
none_from (x ∷ xs) apart =
    or_from (list_any (shares_address x) xs) (overlap xs)
    (list_any_none (shares_address x) xs
    (λ k d h. apart.pairs 0 (suc k) d (omega arith) (omega arith) (λ e. omega arith)))
    (none_from xs
    (record { pairs = λ i j d hi hj ne. apart.pairs (suc i) (suc j) d (omega arith) (omega arith) (λ e. ne (omega arith)) }))

-- the place that holds, after a swap, what a place held before it
moved : ℕ → ℕ → ℕ → ℕ
moved a b i = if i == a then b else (if i == b then a else i)

moved_below :
    (a b i n : ℕ) → a < n → b < n → i < n → moved a b i < n
unfolding moved
moved_below a b i n ha hb hi = grind (arith, nat_tests)

moved_differs :
    (a b i j : ℕ) → (i ≡ j → ⊥) → moved a b i ≡ moved a b j → ⊥
unfolding moved
moved_differs a b i j ne e = grind (arith, nat_tests)

at_swap :
    (l : List ProgramHeader) (a b : ℕ) (d : ProgramHeader) (i : ℕ) → a < length l → b < length l
    → get_or (swap l a b) i d ≡ get_or l (moved a b i) d
unfolding moved
at_swap l a b d i ha hb =
    let at = swapped_from_swap l (swap l a b) a b d ha hb refl in
    elim (cases_eq i a) [
      | inl same ↦ rw (eq-eqb i a same) (rw same (at.0))
      | inr other ↦ rw (ne_eqb i a other) (elim (cases_eq i b) [
        | inl same ↦ rw (eq-eqb i b same) (rw same (at.1))
        | inr another ↦ rw (ne_eqb i b another) (at.2 i other another)
      ])
    ]

apart_swap :
    (l : List ProgramHeader) (a b : ℕ) → a < length l → b < length l → Apart l → Apart (swap l a b)
apart_swap l a b ha hb apart =
    let same : length (swap l a b) ≡ length l = length-swap l a b in
    record {
      pairs = λ i j d hi hj ne.
          rw (at_swap l a b d i ha hb, at_swap l a b d j ha hb)
          (apart.pairs (moved a b i) (moved a b j) d
          (moved_below a b i (length l) ha hb (omega arith))
          (moved_below a b j (length l) ha hb (omega arith))
          (moved_differs a b i j ne));
    }

pub apart_moved :
    (xs ys : List ProgramHeader) → IsPermutation xs ys → Apart xs → Apart ys
apart_moved xs ys moves apart = IsPermutation-keeps xs Apart apart apart_swap ys moves

-- by rising addresses, segments that end where the next begins are apart
apart_later :
    (xs : List ProgramHeader) → IsNonDecreasingBy (λ s. s.address) xs
    → AllAdjacentBelow (λ a b. memory_end a ≤ b.address) xs (length xs)
    → (i j : ℕ) (d : ProgramHeader) → j < length xs → i < j
    → shares_address (get_or xs i d) (get_or xs j d) ≡ false
apart_later xs rises ends i j d hj lt =
    let next : memory_end (get_or xs i d) ≤ (get_or xs (i + 1) d).address = ends i d (omega arith) in
    let later : (get_or xs (i + 1) d).address ≤ (get_or xs j d).address =
    rises (i + 1) j d (omega arith) hj in
    shares_none_before (get_or xs i d) (get_or xs j d) (omega (arith, next, later))

pub apart_rising :
    (xs : List ProgramHeader) → IsNonDecreasingBy (λ s. s.address) xs
    → AllAdjacentBelow (λ a b. memory_end a ≤ b.address) xs (length xs) → Apart xs
apart_rising xs rises ends = record {
  pairs = λ i j d hi hj ne. elim (cases_lt i j) [
    | inl lt ↦ apart_later xs rises ends i j d hj lt
    | inr ge ↦
        shares_none_back (get_or xs j d) (get_or xs i d)
        (apart_later xs rises ends j i d hi (omega arith))
  ];
}

-- a segment that begins before the one below it ends shares its first address with that one
pub meets_apart :
    (xs : List ProgramHeader) (k : ℕ) (d : ProgramHeader) → IsNonDecreasingBy (λ s. s.address) xs
    → All (λ s. 0 < s.memory_size) xs → 0 < k → k < length xs
    → (get_or xs k d).address < memory_end (get_or xs (k - 1) d) → Apart xs → ⊥
meets_apart xs k d rises sizes positive h meets apart =
    let one : ProgramHeader = get_or xs (k - 1) d in
    let other : ProgramHeader = get_or xs k d in
    let low : one.address ≤ other.address = rises (k - 1) k d (omega arith) h in
    let size : 0 < other.memory_size = sizes k d h in
    both_ways (shares_address one other)
    (apart.pairs (k - 1) k d (omega arith) h (λ e. omega arith))
    (shares_from one other other.address (holds_from one other.address low meets)
    (holds_from other other.address (omega arith) (omega arith)))

-- what a look at neighbours finds in the segments by rising addresses is what all pairs give
pub overlap_by_neighbours :
    (xs ys : List ProgramHeader) (found : Bool) → IsPermutation xs ys
    → IsNonDecreasingBy (λ s. s.address) ys → All (λ s. 0 < s.memory_size) xs
    → (found ≡ false → AllAdjacentBelow (λ a b. memory_end a ≤ b.address) ys (length ys))
    → (found ≡ true → (k : ℕ) × (0 < k) × (k < length ys) × ((d : ProgramHeader)
    → (get_or ys k d).address < memory_end (get_or ys (k - 1) d)))
    → found ≡ overlap xs
overlap_by_neighbours xs ys false moves rises sizes none some =
    sym (none_from xs (apart_moved ys xs (IsPermutation-sym xs ys moves) (apart_rising ys rises (none refl))))
overlap_by_neighbours xs ys true moves rises sizes none some =
    let (k, positive, below, meets) = some refl in
    let d : ProgramHeader = record { kind = 0; offset = 0; address = 0; file_size = 0; memory_size = 0 } in
    sym (true_from_ne_false (overlap xs)
    (λ none. meets_apart ys k d rises (All-permutation (λ s. 0 < s.memory_size) xs ys moves sizes)
    positive below (meets d) (apart_moved xs ys moves (apart_from xs none))))
