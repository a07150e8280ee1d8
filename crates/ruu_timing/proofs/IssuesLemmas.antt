-- The table of issues says how many earlier instructions issue in each cycle that can still be asked for.
use Rattle.std.proofs.Common.{◌≡◌, ◌≢◌, ◌+◌, ◌-◌, ◌*◌, ◌/◌, ◌%◌, ◌<◌, ◌≤◌, ◌==◌, ℕ, zero, suc, Bool, true, false, cond, if◌then◌else◌, List, [], ◌∷◌, length, get_or, set, filter, nat_lt, refl, sym, ◌∙◌, ap, arith, inl, inr}
use Rattle.std.specs.Int.Bits.{bit_and}
use Rattle.std.proofs.Math.Nat.{div-add-mod, mul-le-mul_left, mul-suc}
use Rattle.std.proofs.lemmas.Bool.{ltb-true, and_parts, cases_eq, cases_lt, false≢true, lt-ltb, eq-eqb, ne_eqb}
use Rattle.std.proofs.lemmas.Nat.{mod_below, and_mask, pow_pos}
use Rattle.std.proofs.lemmas.List.{get_or-set_same, get_or-set_other, get_or-replicate, get_or_default, length-set}
use Rattle.rv_isa.specs.declared.roles.Class.{Class}
use Rattle.rv_isa.specs.declared.roles.Class.TheVariants.{Alu, Mul, Div, Load, Store, Control, Ecall}
use Rattle.hierarchy.specs.declared.widths.Widths.{Widths}
use Rattle.hierarchy.specs.Widths.{AreWidths}
use Rattle.ruu_timing.specs.declared.issues.Slot.{Slot}
use Rattle.ruu_timing.specs.declared.timed.Timed.{Timed}
use Rattle.ruu_timing.specs.Class.{number_of, is_same, limit_of}
use Rattle.ruu_timing.specs.Issues.{IsPower, idle, place_of, slot_at, alike_in, has_room, one_more, issued_in, dispatched, HasIssued}
use Rattle.ruu_timing.proofs.ListLemmas.{each_more}
use Rattle.ruu_timing.proofs.LawsLemmas.{limit_range}
use Rattle.ruu_timing.specs.Times.{issues_at, issues_alike, has_slot}
use Rattle.ruu_timing.specs.Timed.{last_of}
use Rattle.std.specs.List.{AllByRecursion}

pub power_some : (n : ℕ) → IsPower n → 0 < n
power_some n power = rw power.is (pow_pos power.exponent)

-- a mask in place of a division
pub masked : (t n : ℕ) → IsPower n → bit_and t (n - 1) ≡ t % n
masked t n power = rw power.is (and_mask t power.exponent)

-- where there is room, the counters are far from their end
pub room_small :
    (w : Widths) (slots : List Slot) (start : ℕ) (class : Class) (t : ℕ) → AreWidths w → has_room w slots start class t ≡ true
    → ((slot_at slots start t).issued < 8) × (alike_in (slot_at slots start t) class < 8)
unfolding has_room
room_small w slots start class t widths room =
    let parts = and_parts (nat_lt (slot_at slots start t).issued w.issue) (nat_lt (alike_in (slot_at slots start t) class) (limit_of w class)) room in
    let wide : (slot_at slots start t).issued < w.issue = ltb-true _ _ parts.0 in
    let limited : alike_in (slot_at slots start t) class < limit_of w class = ltb-true _ _ parts.1 in
    (omega (arith, widths.issue.1), omega (arith, (limit_range w class widths).1))

number_below : (class : Class) → number_of class < 7
number_below Alu = omega arith
number_below Mul = omega arith
number_below Div = omega arith
number_below Load = omega arith
number_below Store = omega arith
number_below Control = omega arith
number_below Ecall = omega arith

-- two numbers with one rest are equal or at least the divisor apart
apart :
    (n a b : ℕ) → a ≤ b → b < a + n → a % n ≡ b % n → a ≡ b
apart n a b le near same =
    let first : n * (a / n) + a % n ≡ a = div-add-mod a n in
    let second : n * (b / n) + b % n ≡ b = div-add-mod b n in
    elim (cases_eq (a / n) (b / n)) [
      | inl e ↦ let f : n * (a / n) ≡ n * (b / n) = ap (λ q. n * q) e in omega (arith, first, second)
      | inr other ↦
          elim (cases_lt (a / n) (b / n)) [
            | inl below ↦
                let gap : n * suc (a / n) ≤ n * (b / n) = mul-le-mul_left n (omega arith) in
                absurd (omega (arith, gap, mul-suc n (a / n), first, second))
            | inr above ↦
                let less : b / n < a / n = omega arith in
                let gap : n * suc (b / n) ≤ n * (a / n) = mul-le-mul_left n (omega arith) in
                absurd (omega (arith, gap, mul-suc n (b / n), first, second))
          ]
    ]

pub apart_both :
    (n from a b : ℕ) → from < a → a < from + n → from < b → b < from + n → a % n ≡ b % n → a ≡ b
apart_both n from a b after near beyond close same =
    elim (cases_lt a b) [
      | inl lt ↦ apart n a b (omega arith) (omega arith) same
      | inr ge ↦ sym (apart n b a ge (omega arith) (sym same))
    ]

chosen_cycle : (slot : Slot) (t : ℕ) → (if slot.cycle == t then slot else idle t).cycle ≡ t
chosen_cycle slot t =
    elim (cases_eq slot.cycle t) [
      | inl e ↦ rw (eq-eqb slot.cycle t e) e
      | inr other ↦ rw (ne_eqb slot.cycle t other) refl
    ]

chosen_idle : (slot : Slot) (t : ℕ) → slot.cycle ≢ t → (if slot.cycle == t then slot else idle t) ≡ idle t
chosen_idle slot t differs = rw (ne_eqb slot.cycle t differs) refl

chosen_same : (slot : Slot) (t : ℕ) → slot.cycle ≡ t → (if slot.cycle == t then slot else idle t) ≡ slot
chosen_same slot t e = rw (eq-eqb slot.cycle t e) refl

cycle_at : (slots : List Slot) (start t : ℕ) → (slot_at slots start t).cycle ≡ start + t
cycle_at slots start t = chosen_cycle (get_or slots (place_of slots t) (idle (start + t))) (start + t)

-- the table with one more, at its cycle and at another one
pub at_same :
    (slots : List Slot) (start : ℕ) (class : Class) (t : ℕ) → 0 < length slots
    → slot_at (issued_in slots start class t) start t ≡ one_more class (slot_at slots start t)
at_same slots start class t some =
    let more : Slot = one_more class (slot_at slots start t) in
    let place : place_of (issued_in slots start class t) t ≡ place_of slots t =
    ap (λ n. t % n) (length-set slots (place_of slots t) more) in
    let found : get_or (issued_in slots start class t) (place_of slots t) (idle (start + t)) ≡ more =
    get_or-set_same slots (place_of slots t) more (idle (start + t)) (mod_below t (length slots) some) in
    rw (place, found) (chosen_same more (start + t) (cycle_at slots start t))

pub at_other :
    (slots : List Slot) (start : ℕ) (class : Class) (t u : ℕ) → 0 < length slots → u ≢ t
    → (place_of slots u ≡ place_of slots t → (get_or slots (place_of slots u) (idle (start + u))).cycle ≢ start + u)
    → slot_at (issued_in slots start class t) start u ≡ slot_at slots start u
at_other slots start class t u some differs taken =
    let more : Slot = one_more class (slot_at slots start t) in
    let place : place_of (issued_in slots start class t) u ≡ place_of slots u =
    ap (λ n. u % n) (length-set slots (place_of slots t) more) in
    elim (cases_eq (place_of slots u) (place_of slots t)) [
      | inl e ↦
          let found : get_or (issued_in slots start class t) (place_of slots u) (idle (start + u)) ≡ more =
          rw e (get_or-set_same slots (place_of slots t) more (idle (start + u)) (mod_below t (length slots) some)) in
          let gone : slot_at (issued_in slots start class t) start u ≡ idle (start + u) =
          rw (place, found) (chosen_idle more (start + u) (λ same. differs (omega (arith, same, cycle_at slots start t)))) in
          gone ∙ sym (chosen_idle (get_or slots (place_of slots u) (idle (start + u))) (start + u) (taken e))
      | inr other ↦
          rw (place, get_or-set_other slots (place_of slots t) (place_of slots u) more (idle (start + u)) other) refl
    ]

-- a place that is read is there, so nothing depends on what stands for a missing one
pub claimed :
    (slots : List Slot) (start t : ℕ) (d : Slot) → 0 < length slots
    → (if (get_or slots (place_of slots t) d).cycle == start + t then get_or slots (place_of slots t) d else idle (start + t))
    ≡ slot_at slots start t
claimed slots start t d some =
    rw (get_or_default slots (place_of slots t) d (idle (start + t)) (mod_below t (length slots) some)) refl

pub claimed_own :
    (slots : List Slot) (start t : ℕ) (d : Slot) → 0 < length slots → (get_or slots (place_of slots t) d).cycle ≡ start + t
    → get_or slots (place_of slots t) d ≡ slot_at slots start t
claimed_own slots start t d some own =
    sym (chosen_same (get_or slots (place_of slots t) d) (start + t) own) ∙ claimed slots start t d some

-- what holds of each holds of one that is read, and stays so where one is put
each_get_or : {X : Type 0} (P : X → Type 0) (xs : List X) (i : ℕ) (d : X) → i < length xs → AllByRecursion P xs → P (get_or xs i d)
each_get_or P [] i d below each = absurd (let h : i < 0 = below in omega arith)
each_get_or P (x ∷ xs) zero d below each = each.0
each_get_or P (x ∷ xs) (suc i) d below each =
    each_get_or P xs i d (let h : suc i < length (x ∷ xs) = below in omega arith) each.1

each_set : {X : Type 0} (P : X → Type 0) (xs : List X) (i : ℕ) (y : X) → AllByRecursion P xs → P y → AllByRecursion P (set xs i y)
each_set P [] i y each there = tt
each_set P (x ∷ xs) zero y each there = (there, each.1)
each_set P (x ∷ xs) (suc i) y each there = (each.0, each_set P xs i y each.1 there)

seven_at : (slots : List Slot) (start t : ℕ) → 0 < length slots → AllByRecursion (λ slot. length slot.alike ≡ 7) slots → length (slot_at slots start t).alike ≡ 7
seven_at slots start t some each =
    let slot : Slot = get_or slots (place_of slots t) (idle (start + t)) in
    let there : length slot.alike ≡ 7 = each_get_or (λ s. length s.alike ≡ 7) slots (place_of slots t) (idle (start + t)) (mod_below t (length slots) some) each in
    elim (cases_eq slot.cycle (start + t)) [
      | inl e ↦ rw (chosen_same slot (start + t) e) there
      | inr other ↦ rw (chosen_idle slot (start + t) other) refl
    ]

-- the counters of a cycle with one more
alike_more :
    (slot : Slot) (one class : Class) → length slot.alike ≡ 7
    → alike_in (one_more one slot) class ≡ (if is_same one class then alike_in slot class + 1 else alike_in slot class)
alike_more slot one class seven =
    elim (cases_eq (number_of one) (number_of class)) [
      | inl e ↦
          let found : get_or (set slot.alike (number_of one) (alike_in slot one + 1)) (number_of one) 0 ≡ alike_in slot one + 1 =
          get_or-set_same slot.alike (number_of one) (alike_in slot one + 1) 0 (omega (arith, number_below one, seven)) in
          rw (eq-eqb (number_of one) (number_of class) e, ← e) found
      | inr other ↦
          rw (ne_eqb (number_of one) (number_of class) other)
          (get_or-set_other slot.alike (number_of one) (number_of class) (alike_in slot one + 1) 0 (λ e. other (sym e)))
    ]

-- the instructions with one more
filter_more :
    {X : Type 0} (test : X → Bool) (x : X) (xs : List X)
    → length (filter test (x ∷ xs)) ≡ (if test x then length (filter test xs) + 1 else length (filter test xs))
filter_more test x xs =
    elim (test x) as (λ b. length (cond b (x ∷ filter test xs) (filter test xs)) ≡ (if b then length (filter test xs) + 1 else length (filter test xs))) [
      | true ↦ omega arith
      | false ↦ refl
    ]

-- what holds of the times of one more instruction and of those before it
pub record IsNext (earlier : List Timed) (x : Timed) (size : ℕ) : Type 0 where
  pub order : dispatched earlier ≤ x.dispatch
  pub after : x.dispatch < x.issue
  pub near : x.issue < x.dispatch + size
  pub close : last_of earlier < x.dispatch + size
  pub issued : x.issue ≤ x.retirement
  pub rises : last_of earlier ≤ x.retirement

-- no place of a cycle that can still be asked for is lost
other_kept :
    (earlier : List Timed) (x : Timed) (slots : List Slot) (start t : ℕ) → 0 < length slots
    → HasIssued earlier slots start → IsNext earlier x (length slots) → x.dispatch < t → t ≢ x.issue
    → slot_at (issued_in slots start x.mark.class x.issue) start t ≡ slot_at slots start t
other_kept earlier x slots start t some has next behind differs =
    at_other slots start x.mark.class x.issue t some differs
    (λ e same.
    let before : (get_or slots (place_of slots t) (idle (start + t))).cycle ≤ start + last_of earlier =
    each_get_or (λ s. s.cycle ≤ start + last_of earlier) slots (place_of slots t) (idle (start + t))
    (mod_below t (length slots) some) has.before in
    differs (apart_both (length slots) x.dispatch t x.issue
    behind (omega (arith, before, same, next.close)) next.after next.near e))

count_kept :
    (earlier : List Timed) (x : Timed) (slots : List Slot) (start t : ℕ) → 0 < length slots
    → HasIssued earlier slots start → IsNext earlier x (length slots) → x.dispatch < t
    → (slot_at (issued_in slots start x.mark.class x.issue) start t).issued
    ≡ length (filter (λ y. issues_at t y) (x ∷ earlier))
count_kept earlier x slots start t some has next behind =
    let old : (slot_at slots start t).issued ≡ length (filter (λ y. issues_at t y) earlier) =
    has.issued t (omega (arith, next.order)) in
    let more = filter_more (λ y. issues_at t y) x earlier in
    elim (cases_eq x.issue t) [
      | inl e ↦
          let here : slot_at (issued_in slots start x.mark.class x.issue) start t ≡ one_more x.mark.class (slot_at slots start t) =
          rw (← e) (at_same slots start x.mark.class x.issue some) in
          rw (here, more, eq-eqb x.issue t e) (omega (arith, old))
      | inr other ↦
          rw (other_kept earlier x slots start t some has next behind (λ e. other (sym e)), more, ne_eqb x.issue t other) old
    ]

alike_kept :
    (earlier : List Timed) (x : Timed) (slots : List Slot) (start t : ℕ) (class : Class) → 0 < length slots
    → HasIssued earlier slots start → IsNext earlier x (length slots) → x.dispatch < t
    → alike_in (slot_at (issued_in slots start x.mark.class x.issue) start t) class
    ≡ length (filter (λ y. issues_alike class t y) (x ∷ earlier))
alike_kept earlier x slots start t class some has next behind =
    let old : alike_in (slot_at slots start t) class ≡ length (filter (λ y. issues_alike class t y) earlier) =
    has.alike t class (omega (arith, next.order)) in
    let more = filter_more (λ y. issues_alike class t y) x earlier in
    elim (cases_eq x.issue t) [
      | inl e ↦
          let here : slot_at (issued_in slots start x.mark.class x.issue) start t ≡ one_more x.mark.class (slot_at slots start t) =
          rw (← e) (at_same slots start x.mark.class x.issue some) in
          let seven = seven_at slots start t some has.sevens in
          rw (here, more, eq-eqb x.issue t e, alike_more (slot_at slots start t) x.mark.class class seven, ← old) refl
      | inr other ↦
          rw (other_kept earlier x slots start t some has next behind (λ e. other (sym e)), more, ne_eqb x.issue t other) old
    ]

pub issued_kept :
    (earlier : List Timed) (x : Timed) (slots : List Slot) (start : ℕ) → 0 < length slots
    → HasIssued earlier slots start → IsNext earlier x (length slots)
    → HasIssued (x ∷ earlier) (issued_in slots start x.mark.class x.issue) start
issued_kept earlier x slots start some has next =
    let t : ℕ = x.issue in
    let more : Slot = one_more x.mark.class (slot_at slots start t) in
    record {
      issued = λ u behind. count_kept earlier x slots start u some has next behind;
      alike = λ u class behind. alike_kept earlier x slots start u class some has next behind;
      before = each_set (λ s. s.cycle ≤ start + x.retirement) slots (place_of slots t) more
          (each_more (λ s. s.cycle ≤ start + last_of earlier) (λ s. s.cycle ≤ start + x.retirement)
          (λ s le. omega (arith, le, next.rises)) slots has.before)
          (omega (arith, cycle_at slots start t, next.issued));
      sevens = each_set (λ s. length s.alike ≡ 7) slots (place_of slots t) more has.sevens
          (length-set (slot_at slots start t).alike (number_of x.mark.class) (alike_in (slot_at slots start t) x.mark.class + 1)
          ∙ seven_at slots start t some has.sevens);
    }

-- at the start of a trace no cycle is taken
pub none_issued :
    (slots : List Slot) (start : ℕ) → 0 < length slots → AllByRecursion (λ s. s.cycle ≤ start) slots → AllByRecursion (λ s. length s.alike ≡ 7) slots
    → HasIssued [] slots start
none_issued slots start some before sevens =
    let gone : (t : ℕ) → 0 < t → slot_at slots start t ≡ idle (start + t) =
    λ t late.
    chosen_idle (get_or slots (place_of slots t) (idle (start + t))) (start + t)
    (λ e.
    let old : (get_or slots (place_of slots t) (idle (start + t))).cycle ≤ start =
    each_get_or (λ s. s.cycle ≤ start) slots (place_of slots t) (idle (start + t)) (mod_below t (length slots) some) before in
    omega (arith, old, e, late)) in
    record {
      issued = λ t late. rw (gone t late) refl;
      alike = λ t class late. rw (gone t late) (get_or-replicate 7 (number_of class) 0 0 (number_below class));
      before = each_more (λ s. s.cycle ≤ start) (λ s. s.cycle ≤ start + 0) (λ s le. omega (arith, le)) slots before;
      sevens = sevens;
    }

-- the instructions' own rule
pub same_slot :
    (w : Widths) (earlier : List Timed) (slots : List Slot) (start : ℕ) (class : Class) (t : ℕ)
    → HasIssued earlier slots start → dispatched earlier < t
    → has_room w slots start class t ≡ has_slot w earlier class t
unfolding has_room has_slot
same_slot w earlier slots start class t has late = rw (has.issued t late, has.alike t class late) refl

-- behind the last cycle of the table each has room
pub room_behind :
    (w : Widths) (slots : List Slot) (start : ℕ) (class : Class) (last t : ℕ) → AreWidths w → 0 < length slots
    → AllByRecursion (λ s. s.cycle ≤ start + last) slots → last < t → has_room w slots start class t ≡ true
unfolding has_room
room_behind w slots start class last t widths some before late =
    let gone : slot_at slots start t ≡ idle (start + t) =
    chosen_idle (get_or slots (place_of slots t) (idle (start + t))) (start + t)
    (λ e.
    let old : (get_or slots (place_of slots t) (idle (start + t))).cycle ≤ start + last =
    each_get_or (λ s. s.cycle ≤ start + last) slots (place_of slots t) (idle (start + t)) (mod_below t (length slots) some) before in
    omega (arith, old, e, late)) in
    let wide : nat_lt 0 w.issue ≡ true = lt-ltb 0 w.issue (omega (arith, widths.issue.0)) in
    let limited : nat_lt 0 (limit_of w class) ≡ true = lt-ltb 0 (limit_of w class) ((limit_range w class widths).0) in
    rw (gone, get_or-replicate {A = ℕ} 7 (number_of class) 0 0 (number_below class), wide, limited) refl

-- so one without room is none behind it
pub no_room_within :
    (w : Widths) (slots : List Slot) (start : ℕ) (class : Class) (last t : ℕ) → AreWidths w → 0 < length slots
    → AllByRecursion (λ s. s.cycle ≤ start + last) slots → has_room w slots start class t ≡ false → t ≤ last
no_room_within w slots start class last t widths some before none =
    elim (cases_lt last t) [
      | inl lt ↦ absurd (false≢true (sym none ∙ room_behind w slots start class last t widths some before lt))
      | inr ge ↦ ge
    ]

-- one more cycle without room
pub none_more :
    (w : Widths) (slots : List Slot) (start : ℕ) (class : Class) (ready t : ℕ)
    → ((k : ℕ) → ready ≤ k → k < t → has_room w slots start class k ≡ false) → has_room w slots start class t ≡ false
    → (k : ℕ) → ready ≤ k → k < t + 1 → has_room w slots start class k ≡ false
none_more w slots start class ready t none here k from below =
    elim (cases_lt k t) [
      | inl lt ↦ none k from lt
      | inr ge ↦ let same : k ≡ t = omega arith in rw same here
    ]
