-- An issue time is the least cycle with a slot: from the last retirement on each cycle has one.
use Rattle.std.proofs.Common.{Bool, List, None, Option, Some, arith, false, filter, inl, inr, max, nat_le, nat_lt, refl, sym, true, ℕ, ◌≡◌, ◌+◌, ◌<◌, ◌≤◌, ◌==◌, ◌&&◌, [], ◌∷◌, ◌∙◌}
use Rattle.std.proofs.lemmas.Bool.{and_parts, cases_lt, false≢true, le-leb, leb-true, lt-leb, lt-ltb, ne_eqb}
use Rattle.std.specs.Option.{unwrap_or}
use Rattle.hierarchy.specs.Widths.{AreWidths}
use Rattle.hierarchy.specs.declared.widths.Widths.{Widths}
use Rattle.rv_isa.specs.declared.roles.Class.{Class}
use Rattle.rv_isa.specs.declared.roles.Class.TheVariants.{Alu, Control, Div, Ecall, Load, Mul, Store}
use Rattle.smarts_base.proofs.Leasts.{least_below_is, least_below_some}
use Rattle.smarts_base.specs.Least.{IsLeast, IsLeastIfAny, least_below}
use Rattle.ruu_timing.specs.Class.{limit_of}
use Rattle.ruu_timing.specs.Laws.{IsFirst}
use Rattle.ruu_timing.specs.Timed.{AreTimed, IsWithin, last_of}
use Rattle.std.specs.List.{AllByRecursion}
use Rattle.ruu_timing.specs.Times.{has_slot, issue_of, issues_alike, issues_at}
use Rattle.ruu_timing.specs.declared.timed.Timed.{Timed}
use Rattle.ruu_timing.proofs.ListLemmas.{filter_none}

not_at : (t last : ℕ) → last ≤ t → (earlier : List Timed) → AllByRecursion (IsWithin last) earlier → AllByRecursion (λ x. issues_at t x ≡ false) earlier
not_at t last le [] each = tt
not_at t last le (x ∷ xs) each =
    (ne_eqb x.issue t (λ e. let h : x.issue < last = each.0.issue in omega arith), not_at t last le xs each.1)

not_alike : (class : Class) (t last : ℕ) → last ≤ t → (earlier : List Timed) → AllByRecursion (IsWithin last) earlier → AllByRecursion (λ x. issues_alike class t x ≡ false) earlier
not_alike class t last le [] each = tt
not_alike class t last le (x ∷ xs) each =
    let e : (x.issue == t) ≡ false = ne_eqb x.issue t (λ e. let h : x.issue < last = each.0.issue in omega arith) in
    (rw e refl, not_alike class t last le xs each.1)

-- at least one of a class may issue, and few
pub limit_range : (w : Widths) (class : Class) → AreWidths w → (0 < limit_of w class) × (limit_of w class ≤ 8)
limit_range w Alu widths = (omega (arith, widths.alus.0), widths.alus.1)
limit_range w Mul widths = (omega (arith, widths.muls.0), widths.muls.1)
limit_range w Div widths = (omega (arith, widths.divs.0), widths.divs.1)
limit_range w Load widths = (omega (arith, widths.loads.0), widths.loads.1)
limit_range w Store widths = (omega (arith, widths.stores.0), widths.stores.1)
limit_range w Control widths = (omega (arith, widths.branches.0), widths.branches.1)
limit_range w Ecall widths = (omega arith, omega arith)

pub free_slot :
    (w : Widths) (earlier : List Timed) (class : Class) (t : ℕ) → AreWidths w → AreTimed earlier → last_of earlier ≤ t
    → has_slot w earlier class t ≡ true
unfolding has_slot
free_slot w earlier class t widths timed le =
    let none : filter (λ x. issues_at t x) earlier ≡ [] =
    filter_none (issues_at t) earlier (not_at t (last_of earlier) le earlier timed.each) in
    let alike : filter (λ x. issues_alike class t x) earlier ≡ [] =
    filter_none (issues_alike class t) earlier (not_alike class t (last_of earlier) le earlier timed.each) in
    let wide : nat_lt 0 w.issue ≡ true = lt-ltb 0 w.issue (omega (arith, widths.issue.0)) in
    let limited : nat_lt 0 (limit_of w class) ≡ true = lt-ltb 0 (limit_of w class) (limit_range w class widths).0 in
    rw (none, alike) (rw (wide, limited) refl)

-- the test of `issue_of`, and the cycle by which it holds
abbrev pub may_issue : Widths → List Timed → Class → ℕ → ℕ → Bool
may_issue w earlier class ready t = nat_le ready t && has_slot w earlier class t

abbrev pub free_of : List Timed → ℕ → ℕ
free_of earlier ready = max ready (last_of earlier)

least_or :
    (n : ℕ) (test : ℕ → Bool) (found : Option ℕ) → IsLeastIfAny (n + 1) test found → test n ≡ true
    → IsLeast (n + 1) test (unwrap_or found n)
least_or n test (Some m) least passes = least
least_or n test None none passes = absurd (false≢true (sym (none n (omega arith)) ∙ passes))

free_passes :
    (w : Widths) (earlier : List Timed) (class : Class) (ready : ℕ) → AreWidths w → AreTimed earlier
    → may_issue w earlier class ready (free_of earlier ready) ≡ true
free_passes w earlier class ready widths timed =
    let late : nat_le ready (free_of earlier ready) ≡ true = le-leb _ _ (omega arith) in
    let free : has_slot w earlier class (free_of earlier ready) ≡ true =
    free_slot w earlier class (free_of earlier ready) widths timed (omega arith) in
    rw (late, free) refl

pub issue_is_least :
    (w : Widths) (earlier : List Timed) (class : Class) (ready : ℕ) → AreWidths w → AreTimed earlier
    → IsLeast (free_of earlier ready + 1) (may_issue w earlier class ready) (issue_of w earlier class ready)
unfolding issue_of
issue_is_least w earlier class ready widths timed =
    least_or (free_of earlier ready) (may_issue w earlier class ready)
    (least_below (free_of earlier ready + 1) (may_issue w earlier class ready))
    (least_below_is (free_of earlier ready + 1) (may_issue w earlier class ready))
    (free_passes w earlier class ready widths timed)

-- a cycle that has a slot, where none before it has
pub issue_found :
    (w : Widths) (earlier : List Timed) (class : Class) (ready t : ℕ) → ready ≤ t → t ≤ free_of earlier ready
    → ((k : ℕ) → k < t → may_issue w earlier class ready k ≡ false) → has_slot w earlier class t ≡ true
    → issue_of w earlier class ready ≡ t
unfolding issue_of
issue_found w earlier class ready t start end none slot =
    let late : nat_le ready t ≡ true = le-leb ready t start in
    let passes : may_issue w earlier class ready t ≡ true = rw (late, slot) refl in
    rw (least_below_some (free_of earlier ready + 1) t (may_issue w earlier class ready) (omega arith) passes none) refl

-- one more cycle without a slot
pub none_more :
    (w : Widths) (earlier : List Timed) (class : Class) (ready t : ℕ)
    → ((k : ℕ) → k < t → may_issue w earlier class ready k ≡ false) → has_slot w earlier class t ≡ false
    → (k : ℕ) → k < t + 1 → may_issue w earlier class ready k ≡ false
none_more w earlier class ready t none slot k below =
    elim (cases_lt k t) [
      | inl lt ↦ none k lt
      | inr ge ↦
          let same : k ≡ t = omega arith in
          let here : has_slot w earlier class k ≡ false = rw same slot in
          rw here (elim (nat_le ready k) as (λ b. (b && false) ≡ false) [ true ↦ refl | false ↦ refl ])
    ]

-- none before it can issue later
pub before_free :
    (w : Widths) (earlier : List Timed) (class : Class) (ready t : ℕ) → AreWidths w → AreTimed earlier → ready ≤ t → t ≤ free_of earlier ready
    → has_slot w earlier class t ≡ false → t + 1 ≤ free_of earlier ready
before_free w earlier class ready t widths timed start end slot =
    elim (cases_lt t (last_of earlier)) [
      | inl lt ↦ omega arith
      | inr ge ↦ absurd (false≢true (sym slot ∙ free_slot w earlier class t widths timed ge))
    ]

-- the same with no bound on the cycle
pub first_slot_is :
    (w : Widths) (earlier : List Timed) (class : Class) (ready t : ℕ)
    → IsLeast (free_of earlier ready + 1) (may_issue w earlier class ready) t → IsFirst (has_slot w earlier class) ready t
first_slot_is w earlier class ready t least =
    let parts = and_parts (nat_le ready t) (has_slot w earlier class t) least.passes in
    record {
      start = leb-true ready t parts.0;
      passes = parts.1;
      first = λ k from below.
          let late : nat_le ready k ≡ true = le-leb ready k from in
          rw late at (least.first k below);
    }

not_before :
    (w : Widths) (earlier : List Timed) (class : Class) (ready t k : ℕ) → IsFirst (has_slot w earlier class) ready t
    → k < t → may_issue w earlier class ready k ≡ false
not_before w earlier class ready t k is below =
    elim (cases_lt k ready) [
      | inl lt ↦ rw (lt-leb ready k lt) refl
      | inr ge ↦ rw (le-leb ready k ge, is.first k ge below) refl
    ]

-- the first cycle with a slot is the issue time
pub first_is_issue :
    (w : Widths) (earlier : List Timed) (class : Class) (ready t : ℕ) → AreWidths w → AreTimed earlier
    → IsFirst (has_slot w earlier class) ready t → issue_of w earlier class ready ≡ t
first_is_issue w earlier class ready t widths timed is =
    let free : has_slot w earlier class (free_of earlier ready) ≡ true =
    free_slot w earlier class (free_of earlier ready) widths timed (omega arith) in
    let end : t ≤ free_of earlier ready =
    elim (cases_lt (free_of earlier ready) t) [
      | inl lt ↦ absurd (false≢true (sym (is.first (free_of earlier ready) (omega arith) lt) ∙ free))
      | inr ge ↦ ge
    ] in
    issue_found w earlier class ready t is.start end (λ k below. not_before w earlier class ready t k is below) is.passes
