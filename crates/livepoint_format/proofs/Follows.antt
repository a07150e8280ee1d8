-- What each element of a list is by itself, and behind those before it.
use Rattle.std.proofs.Common.{◌≡◌, ℕ, zero, suc, ◌+◌, ◌<◌, List, [], ◌∷◌, ◌++◌, length, get_or, All, refl, arith, ◌-◌, ◌∙◌, slice_get}
use Rattle.std.proofs.Common.{Some, take, drop, set, add-one}
use Rattle.std.proofs.Math.Seq.{take-suc-set}
use Rattle.std.proofs.lemmas.List.Elements.{All-from_get_or, All-get_or}
use Rattle.live_words.specs.Follow.{Follow, last_of}
use Rattle.live_words.proofs.FollowLemmas.{follow_at, follow_by}

pub follow_weaker : {A : Type 0} (May Might : List A → A → Type 0) → ((before : List A) (x : A) → May before x → Might before x)
    → (before xs : List A) → Follow May before xs → Follow Might before xs
follow_weaker May Might to before [] follow = tt
follow_weaker May Might to before (x ∷ xs) follow = (to before x follow.0, follow_weaker May Might to (before ++ x ∷ []) xs follow.1)

pub all_of_follow : {A : Type 0} (P : A → Type 0) (before xs : List A) (d : A) → Follow (λ before x. P x) before xs → All P xs
all_of_follow P before xs d follow = All-from_get_or P xs d (λ i h. follow_at (λ before x. P x) before xs i d follow h)

pub follow_of_all : {A : Type 0} (P : A → Type 0) (before xs : List A) (d : A) → All P xs → Follow (λ before x. P x) before xs
follow_of_all P before xs d all = follow_by (λ before x. P x) before xs d (λ i h. All-get_or P xs i d h all)

pub last_is : {A : Type 0} (xs : List A) → last_of xs ≡ slice_get xs (length xs - 1)
last_is [] = refl
last_is (x ∷ []) = refl
last_is (x ∷ y ∷ xs) =
    let step : suc (suc (length xs)) - 1 ≡ suc (suc (length xs) - 1) = omega arith in
    rw step (later x y xs ∙ last_is (y ∷ xs))
  where
    later : {A : Type 0} (x y : A) (xs : List A) → last_of (x ∷ y ∷ xs) ≡ last_of (y ∷ xs)
    later x y xs = refl

pub some_at : {A : Type 0} (xs : List A) (i : ℕ) (x d : A) → slice_get xs i ≡ Some x → get_or xs i d ≡ x
some_at [] i x d e = absurd cc
some_at (y ∷ ys) zero x d e = cc
some_at (y ∷ ys) (suc i) x d e = some_at ys i x d e

-- numbers behind the first, one by one
pub rest_more : (ns : List ℕ) (i x : ℕ) → i + 1 < length ns → take (i + 1) (drop 1 (set ns (i + 1) x)) ≡ take i (drop 1 ns) ++ x ∷ []
rest_more [] i x h = absurd (omega arith)
rest_more (n ∷ ns) i x h = rw add-one (take-suc-set ns i x (omega arith))

pub first_stays : (ns : List ℕ) (i x : ℕ) → ns ≡ 0 ∷ drop 1 ns → set ns (i + 1) x ≡ 0 ∷ drop 1 (set ns (i + 1) x)
first_stays [] i x e = absurd cc
first_stays (n ∷ ns) i x e =
    let zero_ : n ≡ 0 = cc in
    rw (add-one, zero_) refl
