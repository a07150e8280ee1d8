-- The next cycle in which something happens, over the times of all instructions.
use Rattle.std.proofs.Common.{Bool, List, arith, false, inl, inr, length, map, min, refl, suc, take, drop, true, zero, ℕ, ◌≡◌, ◌⊎◌, ◌+◌, ◌-◌, ◌^◌, ◌<◌, ◌≤◌, ◌==◌, ◌||◌, [], ◌∷◌}
use Rattle.std.proofs.lemmas.Bool.{cases_lt, eq-eqb, le-leb, lt-leb, ne_eqb}
use Rattle.std.specs.List.{AllByRecursion, slice_get}
use Rattle.ruu_timing.specs.Events.{happens, happens_to, least_next, next_in, next_of, not_before}
use Rattle.ruu_timing.specs.Lookahead.{cycles_in}
use Rattle.ruu_timing.specs.declared.flight.Cycles.{Cycles}
use Rattle.ruu_timing.specs.declared.timed.Timed.{Timed}

pub least_small : (from : ℕ) (cs : List Cycles) → least_next from cs ≤ 2 ^ 32 - 1
least_small from [] = omega arith
least_small from (c ∷ cs) = omega (arith, least_small from cs)

-- a cycle before the next time is none of the times
not_then : (from time k : ℕ) → from ≤ k → k < not_before from time → (time == k) ≡ false
not_then from time k after before =
    elim (cases_lt time from) [
      | inl lt ↦ ne_eqb time k (λ e. omega arith)
      | inr ge ↦ ne_eqb time k (λ e. let h : k < time = rw (le-leb from time ge) at before in omega arith)
    ]

not_this : (from k : ℕ) (x : Timed) → from ≤ k → k < next_of from (cycles_in x) → happens_to k x ≡ false
not_this from k x after before =
    rw (
      not_then from x.fetch k after (omega arith),
      not_then from x.dispatch k after (omega arith),
      not_then from x.issue k after (omega arith),
      not_then from x.retirement k after (omega arith),
    ) refl

pub none_before : (from k : ℕ) (xs : List Timed) → from ≤ k → k < least_next from (map cycles_in xs) → happens xs k ≡ false
none_before from k [] after before = refl
none_before from k (x ∷ xs) after before =
    rw (not_this from k x after (omega arith), none_before from k xs after (omega arith)) refl

-- the next time is a time, or there is none
then_one : (from time t : ℕ) → not_before from time ≡ t → t < 2 ^ 32 - 1 → (from ≤ t) × (time ≡ t)
then_one from time t is some =
    elim (cases_lt time from) [
      | inl lt ↦ absurd (let h : 2 ^ 32 - 1 ≡ t = rw (lt-leb from time lt) at is in omega arith)
      | inr ge ↦ let h : time ≡ t = rw (le-leb from time ge) at is in (omega arith, h)
    ]

least_of_two : (a b t : ℕ) → min a b ≡ t → (a ≡ t) ⊎ (b ≡ t)
least_of_two a b t is =
    elim (cases_lt a b) [
      | inl lt ↦ inl (omega arith)
      | inr ge ↦ inr (omega arith)
    ]

or_true : (a b : Bool) → b ≡ true → (a || b) ≡ true
or_true true b is = refl
or_true false b is = is

first_true : (a b : Bool) → a ≡ true → (a || b) ≡ true
first_true true b is = refl
first_true false b is = absurd (cc)

this_one : (from t : ℕ) (x : Timed) → next_of from (cycles_in x) ≡ t → t < 2 ^ 32 - 1 → (from ≤ t) × (happens_to t x ≡ true)
this_one from t x is some =
    elim (least_of_two (min (not_before from x.fetch) (not_before from x.dispatch)) (min (not_before from x.issue) (not_before from x.retirement)) t is) [
      | inl front ↦
          elim (least_of_two (not_before from x.fetch) (not_before from x.dispatch) t front) [
            | inl one ↦
                let at = then_one from x.fetch t one some in
                (at.0, first_true _ _ (eq-eqb x.fetch t at.1))
            | inr one ↦
                let at = then_one from x.dispatch t one some in
                (at.0, or_true (x.fetch == t) _ (first_true _ _ (eq-eqb x.dispatch t at.1)))
          ]
      | inr rest ↦
          elim (least_of_two (not_before from x.issue) (not_before from x.retirement) t rest) [
            | inl one ↦
                let at = then_one from x.issue t one some in
                (at.0, or_true (x.fetch == t) _ (or_true (x.dispatch == t) _ (first_true _ _ (eq-eqb x.issue t at.1))))
            | inr one ↦
                let at = then_one from x.retirement t one some in
                (at.0, or_true (x.fetch == t) _ (or_true (x.dispatch == t) _ (or_true (x.issue == t) _ (eq-eqb x.retirement t at.1))))
          ]
    ]

pub one_at :
    (from t : ℕ) (xs : List Timed) → least_next from (map cycles_in xs) ≡ t → t < 2 ^ 32 - 1
    → (from ≤ t) × (happens xs t ≡ true)
one_at from t [] is some = absurd (omega arith)
one_at from t (x ∷ xs) is some =
    elim (least_of_two (next_of from (cycles_in x)) (least_next from (map cycles_in xs)) t is) [
      | inl here ↦ let at = this_one from t x here some in (at.0, first_true _ _ at.1)
      | inr there ↦ let at = one_at from t xs there some in (at.0, or_true (happens_to t x) _ at.1)
    ]

-- what the first of a list show, and the others can't
pub taken_happens : (n k : ℕ) (xs : List Timed) → happens (take n xs) k ≡ true → happens xs k ≡ true
taken_happens zero k [] is = is
taken_happens zero k (x ∷ xs) is = absurd (cc)
taken_happens (suc n) k [] is = is
taken_happens (suc n) k (x ∷ xs) is =
    elim (happens_to k x) as (λ b. (b || happens (take n xs) k) ≡ true → (b || happens xs k) ≡ true) [
      | true ↦ λ h. refl
      | false ↦ λ h. taken_happens n k xs h
    ] is

-- each time of an instruction is before a cycle
abbrev pub AreBefore : ℕ → Timed → Type 0
AreBefore past x = ((x.fetch < past) × (x.dispatch < past)) × ((x.issue < past) × (x.retirement < past))

pub not_to : (k past : ℕ) (x : Timed) → past ≤ k → AreBefore past x → happens_to k x ≡ false
not_to k past x le are =
    rw (
      ne_eqb x.fetch k (λ e. omega (arith, are.0.0)),
      ne_eqb x.dispatch k (λ e. omega (arith, are.0.1)),
      ne_eqb x.issue k (λ e. omega (arith, are.1.0)),
      ne_eqb x.retirement k (λ e. omega (arith, are.1.1)),
    ) refl

pub none_of : (k past : ℕ) (xs : List Timed) → past ≤ k → AllByRecursion (AreBefore past) xs → happens xs k ≡ false
none_of k past [] le each = refl
none_of k past (x ∷ xs) le each = rw (not_to k past x le each.0, none_of k past xs le each.1) refl

pub rest_none :
    (n k past : ℕ) (xs : List Timed) → past ≤ k → AllByRecursion (AreBefore past) (drop n xs) → happens (take n xs) k ≡ false
    → happens xs k ≡ false
rest_none zero k past [] le each is = refl
rest_none zero k past (x ∷ xs) le each is = none_of k past (x ∷ xs) le each
rest_none (suc n) k past [] le each is = refl
rest_none (suc n) k past (x ∷ xs) le each is =
    elim (happens_to k x) as (λ b. (b || happens (take n xs) k) ≡ false → (b || happens xs k) ≡ false) [
      | true ↦ λ h. absurd (cc)
      | false ↦ λ h. rest_none n k past xs le each h
    ] is

-- where nothing is to come, each has been retired
pub none_left : (from : ℕ) (xs : List Timed) → least_next from (map cycles_in xs) ≡ 2 ^ 32 - 1 → AllByRecursion (λ x. x.retirement < 2 ^ 32 - 1) xs → AllByRecursion (λ x. x.retirement < from) xs
none_left from [] is small = tt
none_left from (x ∷ xs) is small =
    let rest : least_next from (map cycles_in xs) ≡ 2 ^ 32 - 1 = omega (arith, least_small from (map cycles_in xs)) in
    let here : 2 ^ 32 - 1 ≤ not_before from x.retirement = omega arith in (
      elim (cases_lt x.retirement from) [
        | inl lt ↦ lt
        | inr ge ↦ absurd (let h : 2 ^ 32 - 1 ≤ x.retirement = rw (le-leb from x.retirement ge) at here in omega (arith, small.0))
      ],
      none_left from xs rest small.1,
    )

-- the latest is fetched in the next cycle or later
pub next_le_fetch : (from : ℕ) (x : Timed) (cs : List Cycles) → from ≤ x.fetch → least_next from (cycles_in x ∷ cs) ≤ x.fetch
next_le_fetch from x cs le =
    let here : not_before from x.fetch ≡ x.fetch = rw (le-leb from x.fetch le) refl in
    omega (arith, here)

-- the first of the rest
pub least_rest : (from i : ℕ) (cs : List Cycles) → i < length cs → least_next from (drop i cs) ≡ min (next_in from (slice_get cs i)) (least_next from (drop (i + 1) cs))
least_rest from i [] below = absurd (omega arith)
least_rest from zero (c ∷ cs) below = refl
least_rest from (suc i) (c ∷ cs) below =
    let e : suc i + 1 ≡ suc (i + 1) = omega arith in
    rw e (least_rest from i cs (omega arith))
