-- Seats and cells of the machine: what one changed seat leaves of the others.
use Rattle.std.proofs.Common.{◌≡◌, ◌≢◌, ◌⊎◌, ◌+◌, ◌<◌, ◌≤◌, ℕ, Bool, true, false, not, ◌&&◌, cond, Option, Some, None, is_none, List, length, set, inl, inr, refl, arith, sym, ap, subst, ◌∙◌}
use Rattle.std.specs.List.{count_by}
use Rattle.std.proofs.lemmas.Bool.{and_parts, cases_eq, cases_lt}
use Rattle.std.proofs.lemmas.List.{get_or-set_same, get_or-set_other, get_or_past}
use Rattle.std.proofs.lemmas.List.Sums.{sum_by-set}
use Rattle.ordered_fold.specs.declared.seat.Seat.{Seat}
use Rattle.ordered_fold.specs.Machine.{unmade, seat_at, is_idle}
use Rattle.ordered_fold.specs.Invariant.{HasHand, is_done}
use Rattle.ordered_fold.proofs.Fronts.{not_both}

-- a live seat is none beyond the last
pub live_within : (seats : List Seat) (j : ℕ) → (seat_at seats j).live ≡ true → j < length seats
live_within seats j live = by_order (cases_lt j (length seats))
  where
    by_order : (j < length seats) ⊎ (length seats ≤ j) → j < length seats
    by_order (inl within) = within
    by_order (inr past) =
        let none : seat_at seats j ≡ unmade = get_or_past seats j unmade past in
        absurd (not_both true refl (sym live ∙ ap (λ (s : Seat). s.live) none))

-- what holds of every seat but j, and of the new seat j
pub every_seat :
    (P : ℕ → Seat → Type 0) (seats : List Seat) (j : ℕ) (new : Seat) → j < length seats → P j new
    → ((i : ℕ) → i ≢ j → P i (seat_at seats i))
    → (i : ℕ) → P i (seat_at (set seats j new) i)
every_seat P seats j new within here others i = by_place (cases_eq i j)
  where
    by_place : (i ≡ j) ⊎ (i ≢ j) → P i (seat_at (set seats j new) i)
    by_place (inl e) =
        subst (λ k. P k (seat_at (set seats j new) k)) (sym e)
        (subst (P j) (sym (get_or-set_same seats j new unmade within)) here)
    by_place (inr differ) =
        subst (P i) (sym (get_or-set_other seats j i new unmade differ)) (others i differ)

-- a seat of whom this holds still is one of whom it holds
pub some_seat :
    (P : Seat → Type 0) (seats : List Seat) (j : ℕ) (new : Seat) → j < length seats
    → (P (seat_at seats j) → P new)
    → ((i : ℕ) × P (seat_at seats i)) → (i : ℕ) × P (seat_at (set seats j new) i)
some_seat P seats j new within keeps (i, holds) = by_place (cases_eq i j)
  where
    by_place : (i ≡ j) ⊎ (i ≢ j) → (k : ℕ) × P (seat_at (set seats j new) k)
    by_place (inl e) =
        (j, subst P (sym (get_or-set_same seats j new unmade within)) (keeps (subst (λ k. P (seat_at seats k)) e holds)))
    by_place (inr differ) =
        (i, subst P (sym (get_or-set_other seats j i new unmade differ)) holds)

-- the new seat is such a one
pub this_seat :
    (P : Seat → Type 0) (seats : List Seat) (j : ℕ) (new : Seat) → j < length seats → P new
    → (i : ℕ) × P (seat_at (set seats j new) i)
this_seat P seats j new within holds =
    (j, subst P (sym (get_or-set_same seats j new unmade within)) holds)

-- where this holds of a seat after the change, it did before, or the seat is the one that changed
pub had_before :
    (P : Seat → Type 0) (seats : List Seat) (j : ℕ) (new : Seat) → j < length seats
    → (i : ℕ) → P (seat_at (set seats j new) i)
    → ((i ≡ j) × P new) ⊎ ((i ≢ j) × P (seat_at seats i))
had_before P seats j new within i holds = by_place (cases_eq i j)
  where
    by_place :
        (i ≡ j) ⊎ (i ≢ j) → ((i ≡ j) × P new) ⊎ ((i ≢ j) × P (seat_at seats i))
    by_place (inl e) =
        inl (e, subst P (get_or-set_same seats j new unmade within) (subst (λ k. P (seat_at (set seats j new) k)) e holds))
    by_place (inr differ) =
        inr (differ, subst P (get_or-set_other seats j i new unmade differ) holds)

-- where the new seat is so only if the old one was, each that is so was so before
pub was_before :
    (P : Seat → Type 0) (seats : List Seat) (j : ℕ) (new : Seat) → j < length seats
    → (P new → P (seat_at seats j))
    → (i : ℕ) → P (seat_at (set seats j new) i) → P (seat_at seats i)
was_before P seats j new within was i holds = by_place (had_before P seats j new within i holds)
  where
    by_place : ((i ≡ j) × P new) ⊎ ((i ≢ j) × P (seat_at seats i)) → P (seat_at seats i)
    by_place (inl (e, h)) = subst (λ k. P (seat_at seats k)) (sym e) (was h)
    by_place (inr (differ, h)) = h

-- at most one seat is so, where the new one is so only if the old one was
pub still_one :
    (P : Seat → Type 0) (seats : List Seat) (j : ℕ) (new : Seat) → j < length seats
    → (P new → P (seat_at seats j))
    → ((i k : ℕ) → P (seat_at seats i) → P (seat_at seats k) → i ≡ k)
    → (i k : ℕ) → P (seat_at (set seats j new) i) → P (seat_at (set seats j new) k) → i ≡ k
still_one P seats j new within was one i k first second =
    one i k (was_before P seats j new within was i first) (was_before P seats j new within was k second)

-- at most one seat is so, where none was and the new one is
pub only_one :
    (P : Seat → Type 0) (seats : List Seat) (j : ℕ) (new : Seat) → j < length seats
    → ((i : ℕ) → P (seat_at seats i) → ⊥)
    → (i k : ℕ) → P (seat_at (set seats j new) i) → P (seat_at (set seats j new) k) → i ≡ k
only_one P seats j new within none i k first second = here i first ∙ sym (here k second)
  where
    here : (i : ℕ) → P (seat_at (set seats j new) i) → i ≡ j
    here i holds = by_place (had_before P seats j new within i holds)
      where
        by_place : ((i ≡ j) × P new) ⊎ ((i ≢ j) × P (seat_at seats i)) → i ≡ j
        by_place (inl (e, h)) = e
        by_place (inr (differ, h)) = absurd (none i h)

-- the parts of an idle seat
pub record IsIdle (seat : Seat) : Type 0 where
  pub live : seat.live ≡ true
  pub hand : seat.hand ≡ None
  pub holder : seat.holder ≡ false

is_none-none : (hand : Option ℕ) → is_none hand ≡ true → hand ≡ None
is_none-none None e = refl
is_none-none (Some k) e = cc

pub not_true : (b : Bool) → not b ≡ true → b ≡ false
not_true false e = refl
not_true true e = cc

pub idle_parts : (seat : Seat) → is_idle seat ≡ true → IsIdle seat
idle_parts seat idle =
    let first = and_parts (seat.live && is_none seat.hand) (not seat.holder) idle in
    let second = and_parts seat.live (is_none seat.hand) first.0 in
    record {
      live = second.0;
      hand = is_none-none seat.hand second.1;
      holder = not_true seat.holder first.1;
    }

-- a seat with nothing in its hand has no number there
pub no_hand : {k : ℕ} (seat : Seat) → seat.hand ≡ None → HasHand k seat → ⊥
no_hand seat none has = cc

-- the count of seats that draw no more, after one changed
pub count-set :
    (seats : List Seat) (j : ℕ) (new : Seat) → j < length seats
    → count_by is_done (set seats j new) + cond {A = ℕ} (is_done (seat_at seats j)) 1 0
    ≡ count_by is_done seats + cond {A = ℕ} (is_done new) 1 0
count-set seats j new within =
    sum_by-set (λ s. cond (is_done s) 1 0) seats j new unmade within

pub done_rises :
    (seats : List Seat) (j : ℕ) (new : Seat) → j < length seats
    → (is_done (seat_at seats j) ≡ true → is_done new ≡ true)
    → count_by is_done seats ≤ count_by is_done (set seats j new)
done_rises seats j new within keeps =
    omega (arith, count-set seats j new within, rises (is_done (seat_at seats j)) (is_done new) keeps)
  where
    rises : (b c : Bool) → (b ≡ true → c ≡ true) → cond {A = ℕ} b 1 0 ≤ cond {A = ℕ} c 1 0
    rises false c f = omega arith
    rises true true f = omega arith
    rises true false f = absurd (not_both false (f refl) refl)

pub done_rises_by_one :
    (seats : List Seat) (j : ℕ) (new : Seat) → j < length seats
    → is_done (seat_at seats j) ≡ false → is_done new ≡ true
    → count_by is_done (set seats j new) ≡ count_by is_done seats + 1
done_rises_by_one seats j new within before after =
    let old : cond {A = ℕ} (is_done (seat_at seats j)) 1 0 ≡ 0 = rw before refl in
    let next : cond {A = ℕ} (is_done new) 1 0 ≡ 1 = rw after refl in
    omega (arith, count-set seats j new within, old, next)

pub some_is : (m n : ℕ) → Some m ≡ Some n → m ≡ n
some_is m n e = cc

pub not_some : {o : Option ℕ} {n : ℕ} → o ≡ None → o ≡ Some n → ⊥
not_some none some = cc
