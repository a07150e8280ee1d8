-- Lists whose elements follow each other, by their places.
use Rattle.std.proofs.Common.{◌≡◌, ◌<◌, ℕ, zero, suc, List, [], ◌∷◌, ◌++◌, length, take, Option, Some, refl, arith, append_assoc}
use Rattle.std.specs.Prelude.{slice_index_or}
use Rattle.std.specs.List.{last_or}
use Rattle.std.proofs.lemmas.List.{append-nil}
use Rattle.live_words.specs.Follow.{Follow}

-- an element is behind those before it
pub follow_at :
    {A : Type 0} (MayStand : List A → A → Type 0) (before xs : List A) (i : ℕ) (d : A)
    → Follow MayStand before xs → i < length xs → MayStand (before ++ take i xs) (slice_index_or xs i d)
follow_at MayStand before [] i d follow h = absurd (omega arith)
follow_at MayStand before (x ∷ xs) zero d follow h = rw (append-nil before) follow.0
follow_at MayStand before (x ∷ xs) (suc i) d follow h =
    rw (append_assoc before (x ∷ []) (take i xs)) at
    (follow_at MayStand (before ++ x ∷ []) xs i d follow.1 (omega arith))

-- a list whose elements all are
pub follow_by :
    {A : Type 0} (MayStand : List A → A → Type 0) (before xs : List A) (d : A)
    → ((i : ℕ) → i < length xs → MayStand (before ++ take i xs) (slice_index_or xs i d))
    → Follow MayStand before xs
follow_by MayStand before [] d each = tt
follow_by MayStand before (x ∷ xs) d each =
    let first : MayStand (before ++ []) x = each 0 (omega arith) in (
      rw (append-nil before) at first,
      follow_by MayStand (before ++ x ∷ []) xs d
          (λ i h. rw (append_assoc before (x ∷ []) (take i xs)) (each (suc i) (omega arith))),
    )

-- one more behind them
pub follow_more :
    {A : Type 0} (MayStand : List A → A → Type 0) (before xs : List A) (x : A)
    → Follow MayStand before xs → MayStand (before ++ xs) x → Follow MayStand before (xs ++ x ∷ [])
follow_more MayStand before [] x follow may = (rw (append-nil before) at may, tt)
follow_more MayStand before (y ∷ xs) x follow may = (
  follow.0,
  follow_more MayStand (before ++ y ∷ []) xs x follow.1 (rw (append_assoc before (y ∷ []) xs) may),
)

pub last_or-push : {A : Type 0} (xs : List A) (x : A) (o : Option A) → last_or o (xs ++ x ∷ []) ≡ Some x
last_or-push [] x o = refl
last_or-push (y ∷ xs) x o = last_or-push xs x (Some y)
