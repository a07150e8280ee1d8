-- What is kept of the instructions before one, and what it says of them.
use Rattle.std.specs.Prelude.{◌≡◌, ◌<◌, ◌≤◌, ℕ, ◌+◌, ◌*◌, ◌%◌, ◌^◌, nat_le, if◌then◌else◌, List, [], ◌∷◌, length, get_or, replicate, slice_set, Option, Some, None}
use Rattle.std.specs.Option.{IfSome}
use Rattle.std.specs.List.{AllByRecursion, filter}
use Rattle.hierarchy.specs.declared.marked.Marked.{Marked}
use Rattle.hierarchy.specs.declared.widths.Widths.{Widths}
use Rattle.hierarchy.specs.Marked.{accesses_memory}
use Rattle.ruu_timing.specs.declared.timed.Timed.{Timed}
use Rattle.ruu_timing.specs.declared.flight.StoreRow.{StoreRow}
use Rattle.ruu_timing.specs.declared.flight.Flight.{Flight}
use Rattle.ruu_timing.specs.declared.flight.Cycles.{Cycles}
use Rattle.ruu_timing.specs.Class.{is_store}
use Rattle.ruu_timing.specs.Ring.{IsRing}
use Rattle.ruu_timing.specs.Issues.{HasIssued, IsPower, dispatched, issued_in}
use Rattle.ruu_timing.specs.Timed.{AreTimed, last_of}
use Rattle.ruu_timing.specs.Times.{back, time_of, next_fetch, memory_ones, register_time}

-- an instruction with its times
abbrev pub timed_with : Marked → Cycles → Timed
timed_with m c = record {
  mark = m;
  fetch = c.fetch;
  dispatch = c.dispatch;
  issue = c.issue;
  completion = c.completion;
  retirement = c.retirement;
}

-- what is kept of an instruction, and zeros where there is none
abbrev pub next_or : Option Timed → ℕ
next_or found = time_of (λ x. x.fetch + 1) found

abbrev pub dispatch_or : Option Timed → ℕ
dispatch_or found = time_of (λ x. x.dispatch) found

abbrev pub retirement_or : Option Timed → ℕ
retirement_or found = time_of (λ x. x.retirement) found

-- and of a store
abbrev pub store_row_of : Option Timed → StoreRow
store_row_of None = record { word = None; completion = 0; retirement = 0 }
store_row_of (Some x) = record { word = x.mark.word; completion = x.completion; retirement = x.retirement }

-- the stores among the instructions
abbrev pub store_ones : List Timed → List Timed
store_ones earlier = filter (λ x. is_store x.mark.class) earlier

-- each register's last writer has completed by the time in the table
abbrev pub HasWritten : List Timed → List ℕ → Type 0
HasWritten earlier registers = (r : ℕ) → r < 256 → get_or registers r 0 ≡ register_time earlier (Some r)

-- by the table
abbrev pub written_in : List ℕ → Option ℕ → ℕ
written_in registers None = 0
written_in registers (Some register) = get_or registers register 0

-- the table after one more instruction
abbrev pub written_by : List ℕ → Option ℕ → ℕ → List ℕ
written_by registers None completion = registers
written_by registers (Some register) completion = slice_set registers register completion

-- a register's number
abbrev pub IsRegister : Option ℕ → Type 0
IsRegister register = IfSome register (λ r. r < 256)

-- an instruction that isn't retired by a cycle
abbrev pub late : ℕ → Option Timed → Option Timed
late t None = None
late t (Some x) = if nat_le x.retirement t then None else Some x

abbrev pub completion_in : Option Timed → Option ℕ
completion_in None = None
completion_in (Some x) = Some x.completion

-- each is retired no later than those before it in the list
abbrev pub Falls : List Timed → Type 0
Falls [] = Unit {0}
Falls (x ∷ xs) = AllByRecursion (λ y. y.retirement ≤ x.retirement) xs × Falls xs

-- the cycles that the table of issues tells apart: more than all instructions of the register
-- update unit take one after another
abbrev pub span : Widths → ℕ
span w = 1280 * w.ruu

-- times within their bound
abbrev pub AreSmall : List ℕ → Type 0
AreSmall ring = (k : ℕ) → get_or ring k 0 ≤ 2 ^ 29 + 1

pub record IsSmallStore (r : StoreRow) : Type 0 where
  pub completion : r.completion ≤ 2 ^ 29
  pub retirement : r.retirement ≤ 2 ^ 29

-- sizes and bounds of the parts, whatever they hold
pub record IsFlight (w : Widths) (f : Flight) : Type 0 where
  pub fetches : length f.fetches ≡ 256
  pub dispatches : length f.dispatches ≡ 256
  pub retirements : length f.retirements ≡ 256
  pub accesses : length f.accesses ≡ 256
  pub stores : length f.stores ≡ 256
  pub registers : length f.registers ≡ 256
  pub power : IsPower (length f.slots.items)
  pub wide : span w ≤ length f.slots.items
  pub size : length f.slots.items ≤ 2 ^ 31
  pub small_fetches : AreSmall f.fetches
  pub small_dispatches : AreSmall f.dispatches
  pub small_retirements : AreSmall f.retirements
  pub small_accesses : AreSmall f.accesses
  pub small_stores : (k : ℕ) → IsSmallStore (get_or f.stores k (store_row_of None))
  pub small_registers : AreSmall f.registers
  pub counts : (f.count ≤ 110000) × (f.accessed ≤ f.count) × (f.stored ≤ f.count)
  pub next : f.next ≤ 2 ^ 29 + 64
  pub dispatched : f.dispatched ≤ 2 ^ 29
  pub retired : f.retired ≤ 2 ^ 29
  pub before : AllByRecursion (λ slot. slot.cycle ≤ f.start + f.retired) f.slots.items
  pub sevens : AllByRecursion (λ slot. length slot.alike ≡ 7) f.slots.items
  pub start : f.start ≤ 2 ^ 30

-- the parts hold what the instructions of a list left
pub record IsKept (w : Widths) (earlier : List Timed) (f : Flight) : Type 0 where
  pub flight : IsFlight w f
  pub timed : AreTimed earlier
  pub count : f.count ≡ length earlier
  pub accessed : f.accessed ≡ length (memory_ones earlier)
  pub stored : f.stored ≡ length (store_ones earlier)
  pub fetches : IsRing next_or earlier f.fetches
  pub dispatches : IsRing dispatch_or earlier f.dispatches
  pub retirements : IsRing retirement_or earlier f.retirements
  pub accesses : IsRing retirement_or (memory_ones earlier) f.accesses
  pub stores : IsRing store_row_of (store_ones earlier) f.stores
  pub next : f.next ≡ time_of (next_fetch w) (back earlier 1)
  pub dispatched : f.dispatched ≡ dispatched earlier
  pub retired : f.retired ≡ last_of earlier
  pub registers : HasWritten earlier f.registers
  pub slots : HasIssued earlier f.slots.items f.start

-- no instruction has come
pub record IsCleared (f : Flight) : Type 0 where
  pub fetches : f.fetches ≡ replicate 256 0
  pub dispatches : f.dispatches ≡ replicate 256 0
  pub retirements : f.retirements ≡ replicate 256 0
  pub accesses : f.accesses ≡ replicate 256 0
  pub stores : f.stores ≡ replicate 256 (store_row_of None)
  pub registers : f.registers ≡ replicate 256 0
  pub count : f.count ≡ 0
  pub accessed : f.accessed ≡ 0
  pub stored : f.stored ≡ 0
  pub next : f.next ≡ 0
  pub dispatched : f.dispatched ≡ 0
  pub retired : f.retired ≡ 0

-- one more instruction stands in all parts
pub record IsNoted (w : Widths) (old new : Flight) (x : Timed) : Type 0 where
  pub count : new.count ≡ old.count + 1
  pub accessed : new.accessed ≡ (if accesses_memory x.mark.class then old.accessed + 1 else old.accessed)
  pub stored : new.stored ≡ (if is_store x.mark.class then old.stored + 1 else old.stored)
  pub fetches : new.fetches ≡ slice_set old.fetches (old.count % 256) (x.fetch + 1)
  pub dispatches : new.dispatches ≡ slice_set old.dispatches (old.count % 256) x.dispatch
  pub retirements : new.retirements ≡ slice_set old.retirements (old.count % 256) x.retirement
  pub accesses : new.accesses ≡
      (if accesses_memory x.mark.class then slice_set old.accesses (old.accessed % 256) x.retirement else old.accesses)
  pub stores : new.stores ≡
      (if is_store x.mark.class then slice_set old.stores (old.stored % 256) (store_row_of (Some x)) else old.stores)
  pub next : new.next ≡ next_fetch w x
  pub dispatched : new.dispatched ≡ x.dispatch
  pub retired : new.retired ≡ x.retirement
  pub registers : new.registers ≡ written_by old.registers x.mark.dest x.completion
  pub slots : new.slots.items ≡ issued_in old.slots.items old.start x.mark.class x.issue
  pub start : new.start ≡ old.start
