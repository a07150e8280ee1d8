-- What holds of each element of a list, and the elements of lists.
use Rattle.std.proofs.Common.{All, Bool, Bor, List, None, Option, Some, arith, cond, false, filter, length, option_copied, refl, subst, suc, sym, take, true, zero, ℕ, ◌≡◌, ◌≤◌, [], ◌∷◌}
use Rattle.std.specs.List.{find, slice_get}
use Rattle.std.specs.Option.{IfSome}
use Rattle.std.specs.List.{AllByRecursion}

-- what holds of each holds of those that are found, picked or left
pub each_get : {X : Type 0} (P : X → Type 0) (xs : List X) (i : ℕ) → AllByRecursion P xs → IfSome (slice_get xs i) P
each_get P [] i each = tt
each_get P (x ∷ xs) zero each = each.0
each_get P (x ∷ xs) (suc i) each = each_get P xs i each.1

pub each_filter : {X : Type 0} (P : X → Type 0) (test : X → Bool) (xs : List X) → AllByRecursion P xs → AllByRecursion P (filter test xs)
each_filter P test [] each = tt
each_filter P test (x ∷ xs) each =
    elim (test x) as (λ b. AllByRecursion P (cond b (x ∷ filter test xs) (filter test xs))) [
      | true ↦ (each.0, each_filter P test xs each.1)
      | false ↦ each_filter P test xs each.1
    ]

pub each_find : {X : Type 0} (P : X → Type 0) (test : X → Bool) (xs : List X) → AllByRecursion P xs → IfSome (find test xs) P
each_find P test [] each = tt
each_find P test (x ∷ xs) each =
    elim (test x) as (λ b. IfSome (cond b (Some x) (find test xs)) P) [
      | true ↦ each.0
      | false ↦ each_find P test xs each.1
    ]

pub each_more : {X : Type 0} (P Q : X → Type 0) → ((x : X) → P x → Q x) → (xs : List X) → AllByRecursion P xs → AllByRecursion Q xs
each_more P Q more [] each = tt
each_more P Q more (x ∷ xs) each = (more x each.0, each_more P Q more xs each.1)

-- of those that are taken
pub each_take : {X : Type 0} (P : X → Type 0) (n : ℕ) (xs : List X) → AllByRecursion P xs → AllByRecursion P (take n xs)
each_take P zero [] each = tt
each_take P zero (x ∷ xs) each = tt
each_take P (suc n) [] each = tt
each_take P (suc n) (x ∷ xs) each = (each.0, each_take P n xs each.1)

-- in the two forms
pub each_of : {X : Type 0} (P : X → Type 0) (xs : List X) → All P xs → AllByRecursion P xs
each_of P [] all = tt
each_of P (x ∷ xs) all =
    (all 0 x (omega arith), each_of P xs (λ k d below. all (suc k) d (omega arith)))

-- none passes a test
pub filter_none : {X : Type 0} (test : X → Bool) (xs : List X) → AllByRecursion (λ x. test x ≡ false) xs → filter test xs ≡ []
filter_none test [] each = refl
filter_none test (x ∷ xs) each = rw each.0 (filter_none test xs each.1)

-- no more pass a test than there are
pub filter_short : {X : Type 0} (test : X → Bool) (xs : List X) → length (filter test xs) ≤ length xs
filter_short test [] = omega arith
filter_short test (x ∷ xs) =
    elim (test x) as (λ b. length (cond b (x ∷ filter test xs) (filter test xs)) ≤ length (x ∷ xs)) [
      | true ↦ omega (arith, filter_short test xs)
      | false ↦ omega (arith, filter_short test xs)
    ]

-- the same of one that is lent
pub lent :
    {X : Type 0} (P : X → Type 0) (r : Option (Bor X)) (o : Option X) → option_copied r ≡ o → IfSome o P
    → IfSome r (λ x. P x.now)
lent P None o e there = tt
lent {X = X} P (Some x) o e there = let Q : Option X → Type 0 = λ q. IfSome q P in subst Q (sym e) there

-- where a list has no element it ends
pub ends_by : {X : Type 0} (xs : List X) (i : ℕ) → slice_get xs i ≡ None → length xs ≤ i
ends_by [] i none = omega arith
ends_by (x ∷ xs) zero none = absurd (cc)
ends_by (x ∷ xs) (suc i) none = omega (arith, ends_by xs i none)
