-- The last uses of a list of references, and of the list with one more.
use Rattle.std.proofs.Common.{◌≡◌, ℕ, zero, suc, ◌+◌, ◌<◌, ◌≤◌, Bool, true, false, not, ◌&&◌, ◌||◌, eqb, cond, List, [], ◌∷◌, ◌++◌, length, drop, get_or, refl, sym, subst, inl, inr, arith, eq-eqb, append-nil, append_assoc, add-one}
use Rattle.std.specs.List.{list_any}
use Rattle.std.proofs.lemmas.Bool.{cases_eq, cases_Bool, ne_eqb}
use Rattle.std.proofs.lemmas.List.{get_or_append_left, get_or_push, length_push, drop_all}
use Rattle.recency_record.specs.declared.entry.Entry.{Entry}
use Rattle.std.specs.List.{AllByRecursion}
use Rattle.recency_record.specs.Uses.{is_last_place, uses_before, last_uses}
use Rattle.recency_record.specs.Recency.{others, IsRanked}
use Rattle.recency_record.proofs.Ranks.{ranked_more}

any_push : (block b : ℕ) (xs : List ℕ) → list_any (λ x. eqb x block) (xs ++ b ∷ []) ≡ (list_any (λ x. eqb x block) xs || eqb b block)
any_push block b [] = go (eqb b block)
  where
    go : (t : Bool) → (t || false) ≡ t
    go true = refl
    go false = refl
any_push block b (x ∷ xs) = go (eqb x block) (any_push block b xs)
  where
    go : (t : Bool) → list_any (λ x. eqb x block) (xs ++ b ∷ []) ≡ (list_any (λ x. eqb x block) xs || eqb b block)
        → (t || list_any (λ x. eqb x block) (xs ++ b ∷ [])) ≡ ((t || list_any (λ x. eqb x block) xs) || eqb b block)
    go true rest = refl
    go false rest = rest

drop_push : (t b : ℕ) (xs : List ℕ) → t ≤ length xs → drop t (xs ++ b ∷ []) ≡ drop t xs ++ b ∷ []
drop_push zero b xs h = refl
drop_push (suc t) b [] h = absurd (omega arith)
drop_push (suc t) b (x ∷ xs) h = drop_push t b xs (omega arith)

read_push : (xs : List ℕ) (b t : ℕ) → t < length xs → get_or (xs ++ b ∷ []) t 0 ≡ get_or xs t 0
read_push xs b t h = get_or_append_left xs (b ∷ []) 0 t h

-- a place stays the last one of its block unless the block comes once more
last_push : (xs : List ℕ) (b t : ℕ) → t < length xs
    → is_last_place (xs ++ b ∷ []) t ≡ (is_last_place xs t && not (eqb (get_or xs t 0) b))
last_push xs b t h =
    rw (read_push xs b t h, drop_push (t + 1) b xs (omega arith), any_push (get_or xs t 0) b (drop (t + 1) xs), sides (get_or xs t 0) b)
    (go (list_any (λ x. eqb x (get_or xs t 0)) (drop (t + 1) xs)) (eqb (get_or xs t 0) b))
  where
    sides : (m n : ℕ) → eqb n m ≡ eqb m n
    sides m n =
        elim (cases_eq m n) [
          | inl same ↦ rw (eq-eqb m n same, eq-eqb n m (sym same)) refl
          | inr other ↦ rw (ne_eqb m n other, ne_eqb n m (λ e. other (sym e))) refl
        ]

    go : (p q : Bool) → not (p || q) ≡ (not p && not q)
    go true q = refl
    go false q = refl

-- the last uses before a place, once one more block comes after it
pub uses_push : (xs : List ℕ) (b t : ℕ) → t ≤ length xs
    → uses_before (xs ++ b ∷ []) t ≡ others b (uses_before xs t)
uses_push xs b zero h = refl
uses_push xs b (suc t) h =
    rw (last_push xs b t (omega arith), read_push xs b t (omega arith), uses_push xs b t (omega arith))
    (go (is_last_place xs t) refl)
  where
    here : Entry
    here = record { block = get_or xs t 0; time = t }

    go : (p : Bool) → is_last_place xs t ≡ p
        → cond (p && not (eqb (get_or xs t 0) b)) (here ∷ others b (uses_before xs t)) (others b (uses_before xs t))
        ≡ others b (cond p (here ∷ uses_before xs t) (uses_before xs t))
    go true e = refl
    go false e = refl

-- a place that no other follows is a last one
last_at_end : (xs : List ℕ) (b : ℕ) → is_last_place (xs ++ b ∷ []) (length xs) ≡ true
last_at_end xs b = rw (drop_all (length xs + 1) (xs ++ b ∷ []) (omega (arith, length_push xs b))) refl

-- one more use comes first, and the others stay behind it
pub last_uses_more : (xs : List ℕ) (b : ℕ) (new : Entry) → new.block ≡ b → new.time ≡ length xs
    → last_uses (xs ++ b ∷ []) ≡ new ∷ others b (last_uses xs)
unfolding last_uses
last_uses_more xs b new block time =
    let here : get_or (xs ++ b ∷ []) (length xs) 0 ≡ b = get_or_push xs b 0 (length xs) refl in
    rw (length_push xs b, add-one, last_at_end xs b, here, uses_push xs b (length xs) (omega arith), ← block, ← time) refl

-- all are before the place
uses_early : (xs : List ℕ) (t n : ℕ) → t ≤ n → AllByRecursion (λ e. e.time < n) (uses_before xs t)
uses_early xs zero n h = tt
uses_early xs (suc t) n h =
    elim (cases_Bool (is_last_place xs t)) [
      | inl q ↦ rw q (omega arith, uses_early xs t n (omega arith))
      | inr q ↦ rw q (uses_early xs t n (omega arith))
    ]

pub last_uses_early : (xs : List ℕ) → AllByRecursion (λ e. e.time < length xs) (last_uses xs)
unfolding last_uses
last_uses_early xs = uses_early xs (length xs) (length xs) (omega arith)

pub last_uses_none : last_uses [] ≡ []
unfolding last_uses
last_uses_none = refl

-- every list is made from its front by one more at the end
module _ {X : Type 0} (P : List X → Type 0) (more : (xs : List X) (x : X) → P xs → P (xs ++ x ∷ [])) where
  from_front : (ys xs : List X) → P xs → P (xs ++ ys)
  from_front [] xs h = subst P (sym (append-nil xs)) h
  from_front (y ∷ ys) xs h = subst P (append_assoc xs (y ∷ []) ys) (from_front ys (xs ++ y ∷ []) (more xs y h))

  pub by_push : P [] → (xs : List X) → P xs
  by_push none xs = from_front xs [] none

ranked_push_use : (xs : List ℕ) (b : ℕ) → IsRanked (last_uses xs) → IsRanked (last_uses (xs ++ b ∷ []))
ranked_push_use xs b h =
    let new : Entry = record { block = b; time = length xs } in
    rw (last_uses_more xs b new refl refl) (ranked_more new (last_uses xs) (last_uses_early xs) h)

pub last_uses_ranked : (xs : List ℕ) → IsRanked (last_uses xs)
last_uses_ranked = by_push (λ xs. IsRanked (last_uses xs)) ranked_push_use (rw last_uses_none tt)
