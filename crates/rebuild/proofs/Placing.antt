-- Entries put into a sorted list that is cut.
use Rattle.std.proofs.Common.{◌≡◌, ℕ, zero, suc, ◌<◌, leb, List, [], ◌∷◌, ◌++◌, take, refl, ap, inl, inr, ◌≤◌, le_of_lt}
use Rattle.std.proofs.lemmas.Bool.{cases_Bool, lt-leb}
use Rattle.recency_record.specs.declared.entry.Entry.{Entry}
use Rattle.std.specs.List.{AllByRecursion}
use Rattle.recency_record.specs.Slots.{placed, by_time}
use Rattle.recency_record.proofs.Eachs.{each_weaker}
use Rattle.recency_record.proofs.SlotsLemmas.{placed_first, each_by_time}
use Rattle.rebuild.specs.Pouring.{poured}

take_less : (n : ℕ) (xs : List Entry) → take n (take (suc n) xs) ≡ take n xs
take_less zero xs = refl
take_less (suc n) [] = refl
take_less (suc n) (x ∷ xs) = ap (λ (l : List Entry). x ∷ l) (take_less n xs)

take_behind : (n : ℕ) (x : Entry) (xs : List Entry) → take n (x ∷ take n xs) ≡ take n (x ∷ xs)
take_behind zero x xs = refl
take_behind (suc n) x xs = ap (λ (l : List Entry). x ∷ l) (take_less n xs)

-- what was cut off is not missed
pub placed_of_cut : (n : ℕ) (e : Entry) (es : List Entry) → take n (placed e (take n es)) ≡ take n (placed e es)
placed_of_cut zero e es = refl
placed_of_cut (suc n) e [] = refl
placed_of_cut (suc n) e (x ∷ xs) =
    elim (cases_Bool (leb x.time e.time)) [
      | inl q ↦ rw q (ap (λ (l : List Entry). e ∷ l) (take_behind n x xs))
      | inr q ↦ rw q (ap (λ (l : List Entry). x ∷ l) (placed_of_cut n e xs))
    ]

-- a set poured into a sorted list
pub poured_sorted : (n : ℕ) (es rest : List Entry) → poured n es (take n (by_time rest)) ≡ take n (by_time (es ++ rest))
poured_sorted n [] rest = refl
poured_sorted n (e ∷ es) rest = rw (poured_sorted n es rest) (placed_of_cut n e (by_time (es ++ rest)))

-- an entry behind earlier ones is still the first
pub first_behind : (x : Entry) (es rest less : List Entry) → by_time rest ≡ x ∷ by_time less
    → AllByRecursion (λ e. e.time < x.time) es → by_time (es ++ rest) ≡ x ∷ by_time (es ++ less)
first_behind x [] rest less h early = h
first_behind x (e ∷ es) rest less h early =
    rw (first_behind x es rest less h early.1, lt-leb x.time e.time early.0) refl

pub first_of_all : (x : Entry) (es : List Entry) → AllByRecursion (λ e. e.time < x.time) es → by_time (x ∷ es) ≡ x ∷ by_time es
first_of_all x es early =
    placed_first x (by_time es)
    (each_by_time (λ e. e.time ≤ x.time) es (each_weaker (λ e. e.time < x.time) (λ e. e.time ≤ x.time) es (λ e h. le_of_lt h) early))
