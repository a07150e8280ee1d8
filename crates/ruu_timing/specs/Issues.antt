-- How many instructions issue in each cycle, in a table with fewer places than there are cycles.
use Rattle.std.specs.Prelude.{◌≡◌, ◌<◌, ◌≤◌, ℕ, ◌+◌, ◌%◌, ◌^◌, ◌==◌, ◌&&◌, nat_lt, if◌then◌else◌, Bool, List, length, get_or, replicate, slice_set}
use Rattle.rv_isa.specs.declared.roles.Class.{Class}
use Rattle.hierarchy.specs.declared.widths.Widths.{Widths}
use Rattle.ruu_timing.specs.declared.issues.Slot.{Slot}
use Rattle.std.specs.List.{AllByRecursion, filter}
use Rattle.ruu_timing.specs.declared.timed.Timed.{Timed}
use Rattle.ruu_timing.specs.Class.{number_of, limit_of}
use Rattle.ruu_timing.specs.Times.{back, time_of, issues_at, issues_alike}
use Rattle.ruu_timing.specs.Timed.{last_of}

-- a cycle in which nothing issues
abbrev pub idle : ℕ → Slot
idle t = record { cycle = t; issued = 0; alike = replicate 7 0 }

-- a power of two
pub record IsPower (n : ℕ) : Type 0 where
  pub exponent : ℕ
  pub is : n ≡ 2 ^ exponent

abbrev pub place_of : List Slot → ℕ → ℕ
place_of slots t = t % length slots

-- the cycles of a trace are numbered from `start` on, so that what a place tells of an earlier trace
-- is known as such. A place that is taken by another cycle says nothing of this one.
abbrev pub slot_at : List Slot → ℕ → ℕ → Slot
slot_at slots start t =
    let slot = get_or slots (place_of slots t) (idle (start + t)) in
    if slot.cycle == start + t then slot else idle (start + t)

-- how many of the class issue in the cycle
abbrev pub alike_in : Slot → Class → ℕ
alike_in slot class = get_or slot.alike (number_of class) 0

unfoldable pub has_room : Widths → List Slot → ℕ → Class → ℕ → Bool
has_room w slots start class t =
    nat_lt (slot_at slots start t).issued w.issue && nat_lt (alike_in (slot_at slots start t) class) (limit_of w class)

-- one more
abbrev pub one_more : Class → Slot → Slot
one_more class slot = record {
  cycle = slot.cycle;
  issued = slot.issued + 1;
  alike = slice_set slot.alike (number_of class) (alike_in slot class + 1);
}

abbrev pub issued_in : List Slot → ℕ → Class → ℕ → List Slot
issued_in slots start class t = slice_set slots (place_of slots t) (one_more class (slot_at slots start t))

-- when the latest instruction was dispatched
abbrev pub dispatched : List Timed → ℕ
dispatched earlier = time_of (λ x. x.dispatch) (back earlier 1)

-- for each cycle behind that the table tells what the instructions issue
pub record HasIssued (earlier : List Timed) (slots : List Slot) (start : ℕ) : Type 0 where
  pub issued : (t : ℕ) → dispatched earlier < t
      → (slot_at slots start t).issued ≡ length (filter (λ x. issues_at t x) earlier)
  pub alike : (t : ℕ) (class : Class) → dispatched earlier < t
      → alike_in (slot_at slots start t) class ≡ length (filter (λ x. issues_alike class t x) earlier)
  pub before : AllByRecursion (λ slot. slot.cycle ≤ start + last_of earlier) slots
  pub sevens : AllByRecursion (λ slot. length slot.alike ≡ 7) slots
