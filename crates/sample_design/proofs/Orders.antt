-- One step of the exchange rule, and what holds of an order as a permutation.
use Rattle.std.proofs.Common.{◌≡◌, ◌+◌, ◌-◌, ◌%◌, ◌<◌, ℕ, zero, suc, List, length, swap, slice_index, All, ◌∙◌, refl, arith}
use Rattle.std.specs.List.{range_with_len}
use Rattle.std.specs.List.Sorted.{IsPermutation}
use Rattle.std.proofs.lemmas.List.Elements.{All-from_get_or, All-get_or}
use Rattle.std.proofs.lemmas.List.FromFn.{length-range_with_len, get_or-range_with_len}
use Rattle.std.proofs.lemmas.List.Sorted.{IsPermutation-refl, IsPermutation-swap, IsPermutation-trans, length_permutation, All-permutation}
use Rattle.smarts_base.specs.Draws.{next_state, drawn}
use Rattle.sample_design.specs.Order.{exchanged, order_of}

pub exchange_more :
    (i state : ℕ) (places : List ℕ) → 0 < i
    → exchanged (i - 1) (next_state state) (swap places i (drawn state % (i + 1))) ≡ exchanged i state places
unfolding exchanged
exchange_more zero state places positive = absurd (omega arith)
exchange_more (suc i) state places positive =
    let one_less : suc i - 1 ≡ i = omega arith in
    rw one_less refl

pub exchange_none : (state : ℕ) (places : List ℕ) → exchanged 0 state places ≡ places
unfolding exchanged
exchange_none state places = refl

pub order_starts : (n seed : ℕ) → exchanged (n - 1) seed (range_with_len 0 n) ≡ order_of n seed
unfolding order_of
order_starts n seed = refl

pub length_of_order :
    (n : ℕ) (order : List ℕ) → IsPermutation (range_with_len 0 n) order → length order ≡ n
length_of_order n order same = length_permutation _ order same ∙ length-range_with_len 0 n

numbers_below : (n : ℕ) → All (λ p. p < n) (range_with_len 0 n)
numbers_below n =
    All-from_get_or (λ p. p < n) (range_with_len 0 n) 0
    (λ i within.
    let below : i < n = omega (arith, length-range_with_len 0 n) in
    rw (get_or-range_with_len 0 n i 0 below) (omega arith))

pub places_below :
    (n : ℕ) (order : List ℕ) → IsPermutation (range_with_len 0 n) order
    → (k : ℕ) → k < n → slice_index order k < n
places_below n order same k below =
    let all : All (λ p. p < n) order = All-permutation (λ p. p < n) (range_with_len 0 n) order same (numbers_below n) in
    All-get_or (λ p. p < n) order k 0 (omega (arith, length_of_order n order same)) all

-- the exchanges make a permutation
exchanged_is :
    (i state : ℕ) (places : List ℕ) → i < length places → IsPermutation places (exchanged i state places)
unfolding exchanged
exchanged_is zero state places h = IsPermutation-refl places
exchanged_is (suc i) state places h =
    let other : ℕ = drawn state % (suc i + 1) in
    let within : other < length places = omega arith in
    let once : IsPermutation places (swap places (suc i) other) =
    IsPermutation-swap places (swap places (suc i) other) (suc i) other h within refl in
    let long : length (swap places (suc i) other) ≡ length places = length_permutation places _ once in
    IsPermutation-trans places (swap places (suc i) other) _ once
    (exchanged_is i (next_state state) (swap places (suc i) other) (omega arith))

-- so all of them are below their number
pub order_below : (count seed : ℕ) → All (λ p. p < count) (order_of count seed)
unfolding order_of exchanged
order_below zero seed = λ k d h. absurd (omega arith)
order_below (suc n) seed =
    let long : length (range_with_len 0 (suc n)) ≡ suc n = length-range_with_len 0 (suc n) in
    let less : suc n - 1 ≡ n = omega arith in
    All-permutation (λ p. p < suc n) (range_with_len 0 (suc n)) _
    (exchanged_is (suc n - 1) seed (range_with_len 0 (suc n)) (omega arith)) (numbers_below (suc n))
