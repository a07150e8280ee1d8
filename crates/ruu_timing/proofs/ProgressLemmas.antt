-- Counts of the instructions whose times have come.
use Rattle.std.proofs.Common.{Bool, List, arith, cond, drop, false, filter, inl, inr, length, map, nat_lt, refl, suc, take, true, zero, ℕ, ◌≡◌, ◌+◌, ◌-◌, ◌*◌, ◌<◌, ◌≤◌, ◌==◌, ◌||◌, if◌then◌else◌, [], ◌∷◌}
use Rattle.std.proofs.lemmas.Bool.{cases_eq, cases_lt, false≢true, le-ltb, lt-ltb, ne_eqb}
use Rattle.std.specs.List.{AllByRecursion}
use Rattle.ruu_timing.specs.Events.{happens, happens_to}
use Rattle.ruu_timing.specs.Lookahead.{cycles_in}
use Rattle.ruu_timing.specs.Progress.{count_before, no_progress, progress_before, sum_of}
use Rattle.ruu_timing.specs.declared.flight.Cycles.{Cycles}
use Rattle.ruu_timing.specs.declared.timed.Timed.{Timed}

-- one that has come, or none
abbrev pub one_before : ℕ → ℕ → ℕ
one_before past time = if nat_lt time past then 1 else 0

pub count_cons : (time : Timed → ℕ) (past : ℕ) (x : Timed) (xs : List Timed) → count_before time past (x ∷ xs) ≡ one_before past (time x) + count_before time past xs
count_cons time past x xs =
    elim (nat_lt (time x) past) as (λ b. length (cond b (x ∷ filter (λ y. nat_lt (time y) past) xs) (filter (λ y. nat_lt (time y) past) xs)) ≡ (if b then 1 else 0) + count_before time past xs) [
      | true ↦ omega arith
      | false ↦ omega arith
    ]

one_le : (past time : ℕ) → one_before past time ≤ 1
one_le past time = elim (nat_lt time past) as (λ b. (if b then 1 else 0) ≤ 1) [ true ↦ omega arith | false ↦ omega arith ]

pub one_there : (past time : ℕ) → time < past → one_before past time ≡ 1
one_there past time lt = rw (lt-ltb time past lt) refl

pub one_not : (past time : ℕ) → past ≤ time → one_before past time ≡ 0
one_not past time le = rw (le-ltb time past le) refl

one_rises : (past later time : ℕ) → past ≤ later → one_before past time ≤ one_before later time
one_rises past later time le =
    elim (cases_lt time past) [
      | inl lt ↦ omega (arith, one_le past time, one_there later time (omega arith))
      | inr ge ↦ omega (arith, one_not past time ge)
    ]

pub count_le : (time : Timed → ℕ) (past : ℕ) (xs : List Timed) → count_before time past xs ≤ length xs
count_le time past [] = omega arith
count_le time past (x ∷ xs) = omega (arith, count_cons time past x xs, count_le time past xs, one_le past (time x))

none_yet : (time : Timed → ℕ) (xs : List Timed) → count_before time 0 xs ≡ 0
none_yet time [] = refl
none_yet time (x ∷ xs) = omega (arith, count_cons time 0 x xs, one_not 0 (time x) (omega arith), none_yet time xs)

pub no_progress_yet : (xs : List Timed) → no_progress ≡ progress_before xs 0
no_progress_yet xs = rw (none_yet (λ x. x.fetch) xs, none_yet (λ x. x.dispatch) xs, none_yet (λ x. x.issue) xs, none_yet (λ x. x.retirement) xs) refl

pub sum_most : (past : ℕ) (xs : List Timed) → sum_of (progress_before xs past) ≤ 4 * length xs
sum_most past xs =
    omega (arith, count_le (λ x. x.fetch) past xs, count_le (λ x. x.dispatch) past xs, count_le (λ x. x.issue) past xs, count_le (λ x. x.retirement) past xs)

-- those of one instruction
abbrev ones : ℕ → Timed → ℕ
ones past x = one_before past x.fetch + one_before past x.dispatch + one_before past x.issue + one_before past x.retirement

sum_cons : (past : ℕ) (x : Timed) (xs : List Timed) → sum_of (progress_before (x ∷ xs) past) ≡ ones past x + sum_of (progress_before xs past)
sum_cons past x xs =
    omega (
      arith,
      count_cons (λ y. y.fetch) past x xs,
      count_cons (λ y. y.dispatch) past x xs,
      count_cons (λ y. y.issue) past x xs,
      count_cons (λ y. y.retirement) past x xs,
    )

ones_rise : (past later : ℕ) (x : Timed) → past ≤ later → ones past x ≤ ones later x
ones_rise past later x le =
    omega (
      arith,
      one_rises past later x.fetch le,
      one_rises past later x.dispatch le,
      one_rises past later x.issue le,
      one_rises past later x.retirement le,
    )

sum_rises : (past later : ℕ) (xs : List Timed) → past ≤ later → sum_of (progress_before xs past) ≤ sum_of (progress_before xs later)
sum_rises past later [] le = omega arith
sum_rises past later (x ∷ xs) le =
    omega (arith, sum_cons past x xs, sum_cons later x xs, ones_rise past later x le, sum_rises past later xs le)

one_gains : (from t time : ℕ) → from ≤ t → (time == t) ≡ true → one_before from time < one_before (t + 1) time
one_gains from t time le is =
    elim (cases_eq time t) [
      | inl e ↦ omega (arith, one_not from time (omega arith), one_there (t + 1) time (omega arith))
      | inr other ↦ absurd (false≢true (rw (ne_eqb time t other) at is))
    ]

-- the one to which something happens
ones_gain : (from t : ℕ) (x : Timed) → from ≤ t → happens_to t x ≡ true → ones from x < ones (t + 1) x
ones_gain from t x le is = go (x.fetch == t) (x.dispatch == t) (x.issue == t) refl refl refl is
  where
    fetches : one_before from x.fetch ≤ one_before (t + 1) x.fetch
    fetches = one_rises from (t + 1) x.fetch (omega arith)

    dispatches : one_before from x.dispatch ≤ one_before (t + 1) x.dispatch
    dispatches = one_rises from (t + 1) x.dispatch (omega arith)

    issues : one_before from x.issue ≤ one_before (t + 1) x.issue
    issues = one_rises from (t + 1) x.issue (omega arith)

    retires : one_before from x.retirement ≤ one_before (t + 1) x.retirement
    retires = one_rises from (t + 1) x.retirement (omega arith)

    go :
        (a b c : Bool) → (x.fetch == t) ≡ a → (x.dispatch == t) ≡ b → (x.issue == t) ≡ c
        → (a || (b || (c || (x.retirement == t)))) ≡ true → ones from x < ones (t + 1) x
    go true b c e f g is = omega (arith, one_gains from t x.fetch le e, dispatches, issues, retires)
    go false true c e f g is = omega (arith, one_gains from t x.dispatch le f, fetches, issues, retires)
    go false false true e f g is = omega (arith, one_gains from t x.issue le g, fetches, dispatches, retires)
    go false false false e f g is = omega (arith, one_gains from t x.retirement le is, fetches, dispatches, issues)

pub sum_gains : (from t : ℕ) (xs : List Timed) → from ≤ t → happens xs t ≡ true → sum_of (progress_before xs from) < sum_of (progress_before xs (t + 1))
sum_gains from t [] le is = absurd (false≢true is)
sum_gains from t (x ∷ xs) le is = go (happens_to t x) refl is (λ h. sum_gains from t xs le h)
  where
    go :
        (b : Bool) → happens_to t x ≡ b → (b || happens xs t) ≡ true
        → (happens xs t ≡ true → sum_of (progress_before xs from) < sum_of (progress_before xs (t + 1)))
        → sum_of (progress_before (x ∷ xs) from) < sum_of (progress_before (x ∷ xs) (t + 1))
    go true e is rest =
        omega (arith, sum_cons from x xs, sum_cons (t + 1) x xs, ones_gain from t x le e, sum_rises from (t + 1) xs (omega arith))
    go false e is rest =
        omega (arith, sum_cons from x xs, sum_cons (t + 1) x xs, ones_rise from (t + 1) x (omega arith), rest is)

-- where something is yet to happen, not all are retired
pub some_left :
    (from t : ℕ) (xs : List Timed) → from ≤ t → happens xs t ≡ true
    → AllByRecursion (λ x. (x.fetch ≤ x.retirement) × ((x.dispatch ≤ x.retirement) × (x.issue ≤ x.retirement))) xs
    → count_before (λ x. x.retirement) from xs < length xs
some_left from t [] le is order = absurd (false≢true is)
some_left from t (x ∷ xs) le is order = go (happens_to t x) refl is (λ h. some_left from t xs le h order.1)
  where
    late : (a b c : Bool) → (x.fetch == t) ≡ a → (x.dispatch == t) ≡ b → (x.issue == t) ≡ c
        → (a || (b || (c || (x.retirement == t)))) ≡ true → from ≤ x.retirement
    late true b c e f g is = elim (cases_eq x.fetch t) [
      | inl same ↦ omega (arith, order.0.0)
      | inr other ↦ absurd (false≢true (rw (ne_eqb x.fetch t other) at e))
    ]
    late false true c e f g is = elim (cases_eq x.dispatch t) [
      | inl same ↦ omega (arith, order.0.1.0)
      | inr other ↦ absurd (false≢true (rw (ne_eqb x.dispatch t other) at f))
    ]
    late false false true e f g is = elim (cases_eq x.issue t) [
      | inl same ↦ omega (arith, order.0.1.1)
      | inr other ↦ absurd (false≢true (rw (ne_eqb x.issue t other) at g))
    ]
    late false false false e f g is = elim (cases_eq x.retirement t) [
      | inl same ↦ omega arith
      | inr other ↦ absurd (false≢true (rw (ne_eqb x.retirement t other) at is))
    ]

    go :
        (b : Bool) → happens_to t x ≡ b → (b || happens xs t) ≡ true
        → (happens xs t ≡ true → count_before (λ y. y.retirement) from xs < length xs)
        → count_before (λ y. y.retirement) from (x ∷ xs) < length (x ∷ xs)
    go true e is rest =
        let not_yet : from ≤ x.retirement = late (x.fetch == t) (x.dispatch == t) (x.issue == t) refl refl refl e in
        omega (arith, count_cons (λ y. y.retirement) from x xs, one_not from x.retirement not_yet, count_le (λ y. y.retirement) from xs)
    go false e is rest =
        omega (arith, count_cons (λ y. y.retirement) from x xs, one_le from x.retirement, rest is)

pub all_gone : (from : ℕ) (xs : List Timed) → AllByRecursion (λ x. x.retirement < from) xs → count_before (λ x. x.retirement) from xs ≡ length xs
all_gone from [] each = refl
all_gone from (x ∷ xs) each =
    omega (arith, count_cons (λ y. y.retirement) from x xs, one_there from x.retirement each.0, all_gone from xs each.1)

-- all but those of the first few whose time is later
come : (time : Cycles → ℕ) (t : ℕ) (xs : List Timed) → AllByRecursion (λ x. time (cycles_in x) ≤ t) xs → count_before (λ x. time (cycles_in x)) (t + 1) xs ≡ length xs
come time t [] each = refl
come time t (x ∷ xs) each =
    omega (arith, count_cons (λ y. time (cycles_in y)) (t + 1) x xs, one_there (t + 1) (time (cycles_in x)) (omega (arith, each.0)), come time t xs each.1)

abbrev later_of : (Cycles → ℕ) → ℕ → List Cycles → List Cycles
later_of time t cs = filter (λ c. nat_lt t (time c)) cs

both_counts : (time : Cycles → ℕ) (t n : ℕ) (xs : List Timed) → AllByRecursion (λ x. time (cycles_in x) ≤ t) (drop n xs)
    → count_before (λ x. time (cycles_in x)) (t + 1) xs + length (later_of time t (map cycles_in (take n xs))) ≡ length xs
both_counts time t zero [] each = refl
both_counts time t zero (x ∷ xs) each = omega (arith, come time t (x ∷ xs) each)
both_counts time t (suc n) [] each = refl
both_counts time t (suc n) (x ∷ xs) each =
    let rest = both_counts time t n xs each in
    elim (cases_lt t (time (cycles_in x))) [
      | inl lt ↦
          rw (lt-ltb t (time (cycles_in x)) lt)
          (omega (arith, count_cons (λ y. time (cycles_in y)) (t + 1) x xs, one_not (t + 1) (time (cycles_in x)) (omega arith), rest))
      | inr ge ↦
          rw (le-ltb t (time (cycles_in x)) ge)
          (omega (arith, count_cons (λ y. time (cycles_in y)) (t + 1) x xs, one_there (t + 1) (time (cycles_in x)) (omega arith), rest))
    ]

pub count_is : (time : Cycles → ℕ) (t n : ℕ) (xs : List Timed) → AllByRecursion (λ x. time (cycles_in x) ≤ t) (drop n xs)
    → length xs - length (later_of time t (map cycles_in (take n xs))) ≡ count_before (λ x. time (cycles_in x)) (t + 1) xs
count_is time t n xs each = omega (arith, both_counts time t n xs each)
