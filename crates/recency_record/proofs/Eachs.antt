-- What holds of each element of a list.
use Rattle.std.proofs.Common.{◌≡◌, ℕ, zero, suc, Bool, true, false, List, [], ◌∷◌, ◌++◌, take, filter, refl, sym, ◌∙◌, true≢false, inl, inr}
use Rattle.std.proofs.lemmas.Bool.{cases_Bool}
use Rattle.std.specs.List.{AllByRecursion}

module _ {X : Type 0} where
  pub each_weaker : (P Q : X → Type 0) (xs : List X) → ((x : X) → P x → Q x) → AllByRecursion P xs → AllByRecursion Q xs
  each_weaker P Q [] f h = tt
  each_weaker P Q (x ∷ xs) f h = (f x h.0, each_weaker P Q xs f h.1)

  pub each_all : (P : X → Type 0) (xs : List X) → ((x : X) → P x) → AllByRecursion P xs
  each_all P [] f = tt
  each_all P (x ∷ xs) f = (f x, each_all P xs f)

  pub each_filter : (P : X → Type 0) (test : X → Bool) (xs : List X) → AllByRecursion P xs → AllByRecursion P (filter test xs)
  each_filter P test [] h = tt
  each_filter P test (x ∷ xs) h =
      elim (cases_Bool (test x)) [
        | inl e ↦ rw e (h.0, each_filter P test xs h.1)
        | inr e ↦ rw e (each_filter P test xs h.1)
      ]

  pub each_take : (P : X → Type 0) (n : ℕ) (xs : List X) → AllByRecursion P xs → AllByRecursion P (take n xs)
  each_take P zero xs h = tt
  each_take P (suc n) [] h = tt
  each_take P (suc n) (x ∷ xs) h = (h.0, each_take P n xs h.1)

  pub each_append : (P : X → Type 0) (xs ys : List X) → AllByRecursion P xs → AllByRecursion P ys → AllByRecursion P (xs ++ ys)
  each_append P [] ys h k = k
  each_append P (x ∷ xs) ys h k = (h.0, each_append P xs ys h.1 k)

  pub each_both : (P Q : X → Type 0) (xs : List X) → AllByRecursion P xs → AllByRecursion Q xs → AllByRecursion (λ x. P x × Q x) xs
  each_both P Q [] h k = tt
  each_both P Q (x ∷ xs) h k = ((h.0, k.0), each_both P Q xs h.1 k.1)

  -- a filter keeps all where all pass, and none where none does
  pub filter_all : (test : X → Bool) (xs : List X) → AllByRecursion (λ x. test x ≡ true) xs → filter test xs ≡ xs
  filter_all test [] h = refl
  filter_all test (x ∷ xs) h = rw (h.0, filter_all test xs h.1) refl

  pub filter_none : (test : X → Bool) (xs : List X) → AllByRecursion (λ x. test x ≡ false) xs → filter test xs ≡ []
  filter_none test [] h = refl
  filter_none test (x ∷ xs) h = rw h.0 (filter_none test xs h.1)

  -- the order of two filters says nothing
  pub filter_swap : (p q : X → Bool) (xs : List X) → filter p (filter q xs) ≡ filter q (filter p xs)
  filter_swap p q [] = refl
  filter_swap p q (x ∷ xs) = go (p x) (q x) refl refl (filter_swap p q xs)
    where
      go : (b c : Bool) → p x ≡ b → q x ≡ c → filter p (filter q xs) ≡ filter q (filter p xs)
          → filter p (filter q (x ∷ xs)) ≡ filter q (filter p (x ∷ xs))
      go true true e f rest = rw (e, f, e, rest) refl
      go true false e f rest = rw (e, f) rest
      go false true e f rest = rw (e, f, e) rest
      go false false e f rest = rw (e, f) rest

  -- a filter that all pass which pass another
  pub filter_weaker : (p q : X → Bool) (xs : List X) → ((x : X) → q x ≡ true → p x ≡ true) → filter q (filter p xs) ≡ filter q xs
  filter_weaker p q [] h = refl
  filter_weaker p q (x ∷ xs) h = go (p x) (q x) refl refl (filter_weaker p q xs h)
    where
      go : (b c : Bool) → p x ≡ b → q x ≡ c → filter q (filter p xs) ≡ filter q xs
          → filter q (filter p (x ∷ xs)) ≡ filter q (x ∷ xs)
      go true true e f rest = rw (e, f, rest) refl
      go true false e f rest = rw (e, f) rest
      go false true e f rest = absurd (true≢false (sym (h x f) ∙ e))
      go false false e f rest = rw (e, f) rest
