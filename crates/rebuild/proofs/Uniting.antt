-- The sets of one class, united, when a list of falling times was dealt out to the sets and cut.
use Rattle.std.proofs.Common.{◌≡◌, ◌≢◌, ℕ, zero, suc, ◌+◌, ◌-◌, ◌%◌, ◌<◌, ◌≤◌, true, eqb, List, [], ◌∷◌, ◌++◌, map, take, filter, refl, sym, ap, ◌∙◌, inl, inr, arith, eq-eqb, eqb-true, if◌then◌else◌}
use Rattle.std.specs.List.{range_with_len}
use Rattle.std.proofs.lemmas.Bool.{cases_Bool, cases_eq, ne_eqb}
use Rattle.recency_record.specs.declared.entry.Entry.{Entry}
use Rattle.std.specs.List.{AllByRecursion}
use Rattle.recency_record.specs.Recency.{IsRanked}
use Rattle.recency_record.specs.Slots.{by_time}
use Rattle.recency_record.proofs.Eachs.{each_weaker, each_append, each_take, each_filter}
use Rattle.rebuild.specs.Merge.{united}
use Rattle.rebuild.proofs.Placing.{first_behind, first_of_all}

module _ (count class : ℕ) where
  -- the united sets, each given by its number
  abbrev pub gathered : (ℕ → List Entry) → ℕ → ℕ → List Entry
  gathered sets first m = united count class first (map sets (range_with_len first m))

  pub gathered_same : (f g : ℕ → List Entry) (first m : ℕ)
      → ((k : ℕ) → first ≤ k → k % count ≡ class → f k ≡ g k)
      → gathered f first m ≡ gathered g first m
  gathered_same f g first zero h = refl
  gathered_same f g first (suc m) h =
      let rest : gathered f (first + 1) m ≡ gathered g (first + 1) m =
      gathered_same f g (first + 1) m (λ k low own. h k (omega arith) own) in
      elim (cases_Bool (eqb (first % count) class)) [
        | inl q ↦ rw (q, rest, h first (omega arith) (eqb-true _ _ q)) refl
        | inr q ↦ rw (q, rest) refl
      ]

  each_gathered : (P : Entry → Type 0) (f : ℕ → List Entry) (first m : ℕ) → ((k : ℕ) → AllByRecursion P (f k)) → AllByRecursion P (gathered f first m)
  each_gathered P f first zero h = tt
  each_gathered P f first (suc m) h =
      elim (cases_Bool (eqb (first % count) class)) [
        | inl q ↦ rw q (each_append P (f first) (gathered f (first + 1) m) (h first) (each_gathered P f (first + 1) m h))
        | inr q ↦ rw q (each_gathered P f (first + 1) m h)
      ]

  -- the latest entry of all, in front of one set
  pub gathered_first : (x : Entry) (c : ℕ) (f g : ℕ → List Entry) (first m : ℕ)
      → f c ≡ x ∷ g c → ((k : ℕ) → (k ≡ c → ⊥) → f k ≡ g k) → c % count ≡ class
      → ((k : ℕ) → AllByRecursion (λ e. e.time < x.time) (g k)) → first ≤ c → c < first + m
      → by_time (gathered f first m) ≡ x ∷ by_time (gathered g first m)
  gathered_first x c f g first zero here other own early low high = absurd (omega (arith, low, high))
  gathered_first x c f g first (suc m) here other own early low high =
      elim (cases_eq first c) [
        | inl same ↦
            let rest : gathered f (first + 1) m ≡ gathered g (first + 1) m =
            gathered_same f g (first + 1) m (λ k more is. other k (λ e. omega (arith, e, same, more))) in
            let test : eqb (first % count) class ≡ true = eq-eqb _ _ (ap (λ (n : ℕ). n % count) same ∙ own) in
            let at : f first ≡ x ∷ g first = ap f same ∙ here ∙ ap (λ (n : ℕ). x ∷ g n) (sym same) in
            rw (test, at, rest)
            (first_of_all x (g first ++ gathered g (first + 1) m)
            (each_append (λ e. e.time < x.time) (g first) (gathered g (first + 1) m) (early first)
            (each_gathered (λ e. e.time < x.time) g (first + 1) m early)))
        | inr differs ↦
            let rest : by_time (gathered f (first + 1) m) ≡ x ∷ by_time (gathered g (first + 1) m) =
            gathered_first x c f g (first + 1) m here other own early (omega (arith, low, differs)) (omega (arith, high)) in
            elim (cases_Bool (eqb (first % count) class)) [
              | inl q ↦ rw (q, other first differs) (first_behind x (g first) (gathered f (first + 1) m) (gathered g (first + 1) m) rest (early first))
              | inr q ↦ rw q rest
            ]
      ]

  -- entries dealt out to sets by number, each set cut at its own bound
  abbrev pub dealt_out : (Entry → ℕ) → (ℕ → ℕ) → List Entry → ℕ → List Entry
  dealt_out number bound es k = take (bound k) (filter (λ e. eqb (number e) k) es)

  abbrev lowered : (ℕ → ℕ) → ℕ → ℕ → ℕ
  lowered bound c k = if eqb k c then bound k - 1 else bound k

  gathered_none : (f : ℕ → List Entry) (first m : ℕ) → ((k : ℕ) → f k ≡ []) → gathered f first m ≡ []
  gathered_none f first zero h = refl
  gathered_none f first (suc m) h =
      elim (cases_Bool (eqb (first % count) class)) [
        | inl q ↦ rw (q, h first) (gathered_none f (first + 1) m h)
        | inr q ↦ rw q (gathered_none f (first + 1) m h)
      ]

  take_nothing : (n : ℕ) → take {A = Entry} n [] ≡ []
  take_nothing zero = refl
  take_nothing (suc n) = refl

  take_one : (n : ℕ) (x : Entry) (es : List Entry) → 1 ≤ n → take n (x ∷ es) ≡ x ∷ take (n - 1) es
  take_one zero x es h = absurd (omega (arith, h))
  take_one (suc n) x es h = let less : suc n - 1 ≡ n = omega arith in rw less refl

  pub gathered_dealt : (number : Entry → ℕ) (all n : ℕ) (bound : ℕ → ℕ) (es : List Entry) → IsRanked es
      → AllByRecursion (λ e. number e < all) es → ((k : ℕ) → n ≤ bound k)
      → take n (by_time (gathered (dealt_out number bound es) 0 all))
      ≡ take n (filter (λ e. eqb (number e % count) class) es)
  gathered_dealt number all n bound [] ranked within enough =
      rw (gathered_none (dealt_out number bound []) 0 all (λ k. take_nothing (bound k))) refl
  gathered_dealt number all zero bound (x ∷ xs) ranked within enough = refl
  gathered_dealt number all (suc n) bound (x ∷ xs) ranked within enough =
      let early : AllByRecursion (λ e. e.time < x.time) xs =
      each_weaker (λ e. (e.time < x.time) × (e.block ≢ x.block)) (λ e. e.time < x.time) xs (λ e h. h.0) ranked.0 in
      elim (cases_eq (number x % count) class) [
        | inl own ↦
            let some : 1 ≤ bound (number x) = omega (arith, enough (number x)) in
            let here : dealt_out number bound (x ∷ xs) (number x) ≡ x ∷ dealt_out number (lowered bound (number x)) xs (number x) =
            rw (eq-eqb (number x) (number x) refl, take_one (bound (number x)) x (filter (λ e. eqb (number e) (number x)) xs) some) refl in
            let first : by_time (gathered (dealt_out number bound (x ∷ xs)) 0 all) ≡ x ∷ by_time (gathered (dealt_out number (lowered bound (number x)) xs) 0 all) =
            gathered_first x (number x) (dealt_out number bound (x ∷ xs)) (dealt_out number (lowered bound (number x)) xs) 0 all
            here
            (λ k other. rw (ne_eqb (number x) k (λ e. other (sym e)), ne_eqb k (number x) other) refl)
            own
            (λ k. each_take (λ e. e.time < x.time) (lowered bound (number x) k) (filter (λ e. eqb (number e) k) xs)
            (each_filter (λ e. e.time < x.time) (λ e. eqb (number e) k) xs early))
            (omega arith) (omega (arith, within.0)) in
            let left : (k : ℕ) → n ≤ lowered bound (number x) k =
            (λ k. elim (cases_eq k (number x)) [
              | inl e ↦ rw (eq-eqb k (number x) e) (omega (arith, enough k))
              | inr e ↦ rw (ne_eqb k (number x) e) (omega (arith, enough k))
            ]) in
            rw (first, eq-eqb (number x % count) class own)
            (ap (λ (l : List Entry). x ∷ l)
            (gathered_dealt number all n (lowered bound (number x)) xs ranked.1 within.1 left))
        | inr differs ↦
            let same : gathered (dealt_out number bound (x ∷ xs)) 0 all ≡ gathered (dealt_out number bound xs) 0 all =
            gathered_same (dealt_out number bound (x ∷ xs)) (dealt_out number bound xs) 0 all
            (λ k low is. rw (ne_eqb (number x) k (λ e. differs (ap (λ (m : ℕ). m % count) e ∙ is))) refl) in
            rw (same, ne_eqb (number x % count) class differs)
            (gathered_dealt number all (suc n) bound xs ranked.1 within.1 enough)
      ]
