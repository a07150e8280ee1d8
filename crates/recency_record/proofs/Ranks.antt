-- Entries with times that strictly fall, and no block twice.
use Rattle.std.proofs.Common.{◌≡◌, ◌≢◌, ℕ, zero, suc, ◌<◌, Bool, true, false, not, eqb, List, [], ◌∷◌, ◌++◌, take, filter, refl, sym, ap, ◌∙◌, inl, inr, eq-eqb}
use Rattle.std.proofs.lemmas.Bool.{cases_eq, cases_Bool, ne_eqb}
use Rattle.recency_record.specs.declared.entry.Entry.{Entry}
use Rattle.std.specs.List.{AllByRecursion}
use Rattle.recency_record.specs.Recency.{others, IsRanked}
use Rattle.recency_record.proofs.Eachs.{each_weaker, each_filter, each_take, each_append, filter_all}

pub ranked_filter : (test : Entry → Bool) (es : List Entry) → IsRanked es → IsRanked (filter test es)
ranked_filter test [] h = tt
ranked_filter test (e ∷ es) h =
    elim (cases_Bool (test e)) [
      | inl q ↦ rw q (each_filter (λ x. (x.time < e.time) × (x.block ≢ e.block)) test es h.0, ranked_filter test es h.1)
      | inr q ↦ rw q (ranked_filter test es h.1)
    ]

pub ranked_take : (n : ℕ) (es : List Entry) → IsRanked es → IsRanked (take n es)
ranked_take zero es h = tt
ranked_take (suc n) [] h = tt
ranked_take (suc n) (e ∷ es) h =
    (each_take (λ x. (x.time < e.time) × (x.block ≢ e.block)) n es h.0, ranked_take n es h.1)

-- the entry is none of the others
pub other_test : (block : ℕ) (e : Entry) → e.block ≢ block → not (eqb e.block block) ≡ true
other_test block e h = rw (ne_eqb e.block block h) refl

pub same_test : (block : ℕ) (e : Entry) → e.block ≡ block → not (eqb e.block block) ≡ false
same_test block e h = rw (eq-eqb e.block block h) refl

pub others_differ : (block : ℕ) (es : List Entry) → AllByRecursion (λ e. e.block ≢ block) (others block es)
others_differ block [] = tt
others_differ block (e ∷ es) =
    elim (cases_eq e.block block) [
      | inl same ↦ rw (same_test block e same) (others_differ block es)
      | inr other ↦ rw (other_test block e other) (other, others_differ block es)
    ]

-- where the block is in none, they are all others
pub others_all : (block : ℕ) (es : List Entry) → AllByRecursion (λ e. e.block ≢ block) es → others block es ≡ es
others_all block es h =
    filter_all (λ e. not (eqb e.block block)) es
    (each_weaker (λ e. e.block ≢ block) (λ e. not (eqb e.block block) ≡ true) es (other_test block) h)

pub others_head : (e : Entry) (es : List Entry) (block : ℕ) → e.block ≡ block → IsRanked (e ∷ es) → others block (e ∷ es) ≡ es
others_head e es block same h =
    rw (same_test block e same)
    (others_all block es
    (each_weaker (λ x. (x.time < e.time) × (x.block ≢ e.block)) (λ x. x.block ≢ block) es
    (λ x p q. p.1 (q ∙ sym same)) h.0))

-- one entry is taken out at most
pub others_of_more :
    (block n : ℕ) (es : List Entry) → IsRanked es
    → take n (others block (take (suc n) es)) ≡ take n (others block es)
others_of_more block zero es h = refl
others_of_more block (suc n) [] h = refl
others_of_more block (suc n) (e ∷ es) h =
    elim (cases_eq e.block block) [
      | inl same ↦
          rw (others_head e (take (suc n) es) block same (ranked_take (suc (suc n)) (e ∷ es) h), others_head e es block same h)
          (take_both n es)
      | inr other ↦
          rw (other_test block e other) (ap (λ (l : List Entry). e ∷ l) (others_of_more block n es h.1))
    ]
  where
    take_both : (m : ℕ) (xs : List Entry) → take (suc m) (take (suc m) xs) ≡ take (suc m) xs
    take_both m [] = refl
    take_both zero (x ∷ xs) = refl
    take_both (suc m) (x ∷ xs) = ap (λ (l : List Entry). x ∷ l) (take_both m xs)

-- a set that is cut, and then used, is as one that was not cut
pub used_of_cut :
    (ways : ℕ) (e : Entry) (es : List Entry) → IsRanked es
    → take ways (e ∷ others e.block (take ways es)) ≡ take ways (e ∷ others e.block es)
used_of_cut zero e es h = refl
used_of_cut (suc n) e es h = ap (λ (l : List Entry). e ∷ l) (others_of_more e.block n es h)

-- an entry later than all, in front of the others
pub ranked_more :
    (e : Entry) (es : List Entry) → AllByRecursion (λ x. x.time < e.time) es → IsRanked es
    → IsRanked (e ∷ others e.block es)
ranked_more e es late h = (
  both (others e.block es) (each_filter (λ x. x.time < e.time) (λ x. not (eqb x.block e.block)) es late)
      (others_differ e.block es),
  ranked_filter (λ x. not (eqb x.block e.block)) es h,
)
  where
    both : (xs : List Entry) → AllByRecursion (λ x. x.time < e.time) xs → AllByRecursion (λ x. x.block ≢ e.block) xs
        → AllByRecursion (λ x. (x.time < e.time) × (x.block ≢ e.block)) xs
    both [] a b = tt
    both (x ∷ xs) a b = ((a.0, b.0), both xs a.1 b.1)

-- an entry behind the others
pub ranked_push :
    (es : List Entry) (e : Entry) → AllByRecursion (λ x. (e.time < x.time) × (x.block ≢ e.block)) es → IsRanked es
    → IsRanked (es ++ e ∷ [])
ranked_push [] e h r = (tt, tt)
ranked_push (x ∷ xs) e h r = (
  each_append (λ y. (y.time < x.time) × (y.block ≢ x.block)) xs (e ∷ []) r.0
      ((h.0.0, λ same. h.0.1 (sym same)), tt),
  ranked_push xs e h.1 r.1,
)
