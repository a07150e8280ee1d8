-- One more instruction in all parts of what is kept.
use Rattle.std.proofs.Common.{Bool, List, None, Option, Some, ap, arith, cond, false, get_or, inl, inr, length, max, refl, replicate, set, subst, suc, sym, take, true, zero, ℕ, ◌≡◌, ◌+◌, ◌-◌, ◌*◌, ◌%◌, ◌^◌, ◌<◌, ◌≤◌, if◌then◌else◌, [], ◌∷◌, ◌∙◌}
use Rattle.std.proofs.lemmas.Bool.{cases_eq, eq-eqb, ne_eqb}
use Rattle.std.proofs.lemmas.List.{get_or-set_other, get_or-set_same, length-replicate, length-set, take_all}
use Rattle.std.specs.List.{AllByRecursion, filter, find}
use Rattle.hierarchy.specs.Marked.{IsMarked, accesses_memory}
use Rattle.hierarchy.specs.Widths.{AreWidths}
use Rattle.hierarchy.specs.declared.marked.Marked.{Marked}
use Rattle.hierarchy.specs.declared.widths.Widths.{Widths}
use Rattle.rv_isa.specs.declared.roles.Class.{Class}
use Rattle.ruu_timing.specs.Class.{is_store}
use Rattle.ruu_timing.specs.Flight.{AreSmall, HasWritten, IsCleared, IsFlight, IsKept, IsNoted, IsSmallStore, dispatch_or, next_or, retirement_or, span, store_row_of, written_by}
use Rattle.ruu_timing.specs.Issues.{HasIssued, IsPower, dispatched, issued_in, one_more, place_of, slot_at}
use Rattle.ruu_timing.specs.Ring.{IsRing, ring_place}
use Rattle.ruu_timing.specs.Timed.{AreTimed, IsWithin, last_of}
use Rattle.ruu_timing.specs.Times.{back, dispatch_of, elapse_of, fetch_of, is_given, issue_of, ready_of, retirement_of, time_of, timed_of, times, writes}
use Rattle.ruu_timing.specs.declared.flight.Flight.{Flight}
use Rattle.ruu_timing.specs.declared.flight.StoreRow.{StoreRow}
use Rattle.ruu_timing.specs.declared.issues.Slot.{Slot}
use Rattle.ruu_timing.specs.declared.timed.Timed.{Timed}
use Rattle.ruu_timing.proofs.FlightLemmas.{unit_waits}
use Rattle.ruu_timing.proofs.IssuesLemmas.{IsNext, issued_kept, none_issued}
use Rattle.ruu_timing.proofs.ListLemmas.{filter_short}
use Rattle.ruu_timing.proofs.RingLemmas.{ring_more}
use Rattle.ruu_timing.proofs.TimedLemmas.{IsDispatch, dispatched_before, issue_is, last_small, next_fetch_le, next_timed, next_times, ready_soon, retired, retired_near}
use Rattle.ruu_timing.proofs.TimesLemmas.{AreCycles, cycles_between, last_before, retired_back, total_known}

written_next :
    (earlier : List Timed) (registers : List ℕ) (x : Timed) → length registers ≡ 256 → HasWritten earlier registers
    → HasWritten (x ∷ earlier) (written_by registers x.mark.dest x.completion)
written_next earlier registers x size has r below = go x.mark.dest
  where
    go :
        (dest : Option ℕ)
        → get_or (written_by registers dest x.completion) r 0
        ≡ time_of (λ y. y.completion) (cond (is_given dest r) (Some x) (find (λ y. writes r y) earlier))
    go None = has r below
    go (Some k) =
        elim (cases_eq k r) [
          | inl e ↦ rw (eq-eqb k r e, e) (get_or-set_same registers r x.completion 0 (omega (arith, size)))
          | inr other ↦
              rw (ne_eqb k r other) (get_or-set_other registers k r x.completion 0 (λ e. other (sym e)) ∙ has r below)
        ]

-- the times of the next instruction beside those of the others
is_next :
    (w : Widths) (earlier : List Timed) (m : Marked) (size : ℕ) → AreWidths w → IsMarked m → AreTimed earlier → span w ≤ size
    → IsNext earlier (timed_of w earlier m) size
unfolding timed_of
is_next w earlier m size widths marked timed wide =
    let fetch : ℕ = fetch_of w earlier m in
    let dispatch : ℕ = dispatch_of w earlier m fetch in
    let ready : ℕ = ready_of earlier m dispatch in
    let issue : ℕ = issue_of w earlier m.class ready in
    let waits : IsDispatch earlier dispatch ready = ready_soon earlier m dispatch timed in
    let issues : (ready ≤ issue) × (issue ≤ max ready (last_of earlier)) = issue_is w earlier m.class ready widths timed in
    let next = next_times w earlier m widths marked timed in
    let room : retired earlier (w.ruu - 1) ≤ dispatch = unit_waits w earlier m fetch in
    let before : dispatched earlier ≤ dispatch = dispatched_before w earlier m fetch in
    let soon : retired earlier 0 ≤ max (retired earlier (w.ruu - 1)) (dispatched earlier) + 1220 * (w.ruu - 1) =
    retired_near earlier (w.ruu - 1) timed.order in
    let close : last_of earlier < dispatch + size = omega (arith, room, before, soon, wide, widths.ruu.0) in
    record {
      order = before;
      after = omega (arith, waits.after, issues.0);
      near = omega (arith, waits.soon, issues.1, close, wide, widths.ruu.0);
      close = close;
      issued = let h : issue < retirement_of w earlier (issue + elapse_of w earlier m dispatch) = next.0.issue in omega arith;
      rises = next.1.rises;
    }

-- a ring of those that pass a test, with one more if it does
pub some_more :
    {Y : Type 0} (of : Option Timed → Y) (test : Timed → Bool) (earlier : List Timed) (x : Timed) (ring : List Y)
    → IsRing of (filter test earlier) ring
    → IsRing of (filter test (x ∷ earlier)) (if test x then set ring (length (filter test earlier) % 256) (of (Some x)) else ring)
some_more of test earlier x ring is =
    elim (test x) as (λ b. IsRing of (cond b (x ∷ filter test earlier) (filter test earlier)) (if b then set ring (length (filter test earlier) % 256) (of (Some x)) else ring)) [
      | true ↦ ring_more of (filter test earlier) ring x is
      | false ↦ is
    ]

count_more :
    (test : Timed → Bool) (earlier : List Timed) (x : Timed)
    → (if test x then length (filter test earlier) + 1 else length (filter test earlier)) ≡ length (filter test (x ∷ earlier))
count_more test earlier x =
    elim (test x) as (λ b. (if b then length (filter test earlier) + 1 else length (filter test earlier)) ≡ length (cond b (x ∷ filter test earlier) (filter test earlier))) [
      | true ↦ omega arith
      | false ↦ refl
    ]

slots_size : (slots : List Slot) (start : ℕ) (class : Class) (t : ℕ) → length (issued_in slots start class t) ≡ length slots
slots_size slots start class t = length-set slots (place_of slots t) (one_more class (slot_at slots start t))

-- what holds of each place of a ring, also where one is put
set_each : {Y : Type 0} (P : Y → Type 0) (ys : List Y) (i : ℕ) (y d : Y) → ((k : ℕ) → P (get_or ys k d)) → P y → (k : ℕ) → P (get_or (set ys i y) k d)
set_each P [] i y d each here k = each k
set_each P (z ∷ zs) zero y d each here zero = here
set_each P (z ∷ zs) zero y d each here (suc k) = each (suc k)
set_each P (z ∷ zs) (suc i) y d each here zero = each zero
set_each P (z ∷ zs) (suc i) y d each here (suc k) = set_each P zs i y d (λ j. each (suc j)) here k

small_more : (ring : List ℕ) (i t : ℕ) → AreSmall ring → t ≤ 2 ^ 29 + 1 → AreSmall (set ring i t)
small_more ring i t small le = set_each (λ r. r ≤ 2 ^ 29 + 1) ring i t 0 small le

if_each : {Y : Type 0} (P : Y → Type 0) (b : Bool) (ys zs : List Y) (d : Y) → ((k : ℕ) → P (get_or ys k d)) → ((k : ℕ) → P (get_or zs k d)) → (k : ℕ) → P (get_or (if b then ys else zs) k d)
if_each P true ys zs d first second = first
if_each P false ys zs d first second = second

if_length : {Y : Type 0} (b : Bool) (ys zs : List Y) (n : ℕ) → length ys ≡ n → length zs ≡ n → length (if b then ys else zs) ≡ n
if_length true ys zs n first second = first
if_length false ys zs n first second = second

written_each : (registers : List ℕ) (dest : Option ℕ) (completion n : ℕ) → ((k : ℕ) → get_or registers k 0 ≤ n) → completion ≤ n → (k : ℕ) → get_or (written_by registers dest completion) k 0 ≤ n
written_each registers None completion n each le = each
written_each registers (Some r) completion n each le = set_each (λ c. c ≤ n) registers r completion 0 each le

written_length : (registers : List ℕ) (dest : Option ℕ) (completion : ℕ) → length registers ≡ 256 → length (written_by registers dest completion) ≡ 256
written_length registers None completion size = size
written_length registers (Some r) completion size = length-set registers r completion ∙ size

flight_next :
    (w : Widths) (earlier : List Timed) (x : Timed) (f g : Flight) → AreWidths w → length earlier < 110000 → IsKept w earlier f
    → IsNoted w f g x → AreTimed (x ∷ earlier) → HasIssued (x ∷ earlier) g.slots.items g.start → IsFlight w g
flight_next w earlier x f g widths few kept noted timed issued =
    let old : IsFlight w f = kept.flight in
    let last : x.retirement ≤ 2 ^ 29 = last_small (x ∷ earlier) timed in
    let within : IsWithin x.retirement x = timed.each.0 in
    let size : length g.slots.items ≡ length f.slots.items = rw noted.slots (slots_size f.slots.items f.start x.mark.class x.issue) in
    let small : x.retirement ≤ 2 ^ 29 + 1 = omega (arith, last) in
    let store : IsSmallStore (store_row_of (Some x)) = record { completion = omega (arith, within.completion); retirement = omega arith } in
    record {
      fetches = rw noted.fetches (length-set f.fetches (f.count % 256) (x.fetch + 1) ∙ old.fetches);
      dispatches = rw noted.dispatches (length-set f.dispatches (f.count % 256) x.dispatch ∙ old.dispatches);
      retirements = rw noted.retirements (length-set f.retirements (f.count % 256) x.retirement ∙ old.retirements);
      accesses = rw noted.accesses (if_length (accesses_memory x.mark.class) (set f.accesses (f.accessed % 256) x.retirement) f.accesses 256
          (length-set f.accesses (f.accessed % 256) x.retirement ∙ old.accesses) old.accesses);
      stores = rw noted.stores (if_length (is_store x.mark.class) (set f.stores (f.stored % 256) (store_row_of (Some x))) f.stores 256
          (length-set f.stores (f.stored % 256) (store_row_of (Some x)) ∙ old.stores) old.stores);
      registers = rw noted.registers (written_length f.registers x.mark.dest x.completion old.registers);
      power = rw size old.power;
      wide = rw size old.wide;
      size = rw size old.size;
      small_fetches = rw noted.fetches (small_more f.fetches (f.count % 256) (x.fetch + 1) old.small_fetches (omega (arith, last, within.fetch)));
      small_dispatches = rw noted.dispatches (small_more f.dispatches (f.count % 256) x.dispatch old.small_dispatches (omega (arith, last, within.dispatch)));
      small_retirements = rw noted.retirements (small_more f.retirements (f.count % 256) x.retirement old.small_retirements small);
      small_accesses = rw noted.accesses (if_each (λ r. r ≤ 2 ^ 29 + 1) (accesses_memory x.mark.class) (set f.accesses (f.accessed % 256) x.retirement) f.accesses 0
          (small_more f.accesses (f.accessed % 256) x.retirement old.small_accesses small) old.small_accesses);
      small_stores = rw noted.stores (if_each IsSmallStore (is_store x.mark.class) (set f.stores (f.stored % 256) (store_row_of (Some x))) f.stores (store_row_of None)
          (set_each IsSmallStore f.stores (f.stored % 256) (store_row_of (Some x)) (store_row_of None) old.small_stores store) old.small_stores);
      small_registers = rw noted.registers (written_each f.registers x.mark.dest x.completion (2 ^ 29 + 1) old.small_registers (omega (arith, within.completion)));
      counts = (
        omega (arith, noted.count, kept.count),
        rw (noted.accessed, kept.accessed, count_more (λ y. accesses_memory y.mark.class) earlier x)
            (omega (arith, noted.count, kept.count, filter_short (λ y. accesses_memory y.mark.class) (x ∷ earlier))),
        rw (noted.stored, kept.stored, count_more (λ y. is_store y.mark.class) earlier x)
            (omega (arith, noted.count, kept.count, filter_short (λ y. is_store y.mark.class) (x ∷ earlier))),
      );
      next = rw noted.next (omega (arith, next_fetch_le w x.retirement widths x within));
      dispatched = rw noted.dispatched (omega (arith, within.dispatch));
      retired = rw noted.retired last;
      before = rw noted.retired issued.before;
      sevens = issued.sevens;
      start = rw noted.start old.start;
    }

pub kept_next :
    (w : Widths) (earlier : List Timed) (m : Marked) (f g : Flight) → AreWidths w → IsMarked m → length earlier < 110000
    → IsKept w earlier f → IsNoted w f g (timed_of w earlier m)
    → IsKept w (timed_of w earlier m ∷ earlier) g
kept_next w earlier m f g widths marked few kept noted =
    let x : Timed = timed_of w earlier m in
    let some : 0 < length f.slots.items = omega (arith, kept.flight.wide, widths.ruu.0) in
    let next : IsNext earlier x (length f.slots.items) = is_next w earlier m (length f.slots.items) widths marked kept.timed kept.flight.wide in
    let timed : AreTimed (x ∷ earlier) = next_timed w earlier m widths marked kept.timed few in
    let issued : HasIssued (x ∷ earlier) g.slots.items g.start =
    rw (noted.slots, noted.start) (issued_kept earlier x f.slots.items f.start some kept.slots next) in
    record {
      flight = flight_next w earlier x f g widths few kept noted timed issued;
      timed = timed;
      count = omega (arith, noted.count, kept.count);
      accessed = noted.accessed ∙ rw kept.accessed (count_more (λ y. accesses_memory y.mark.class) earlier x);
      stored = noted.stored ∙ rw kept.stored (count_more (λ y. is_store y.mark.class) earlier x);
      fetches = rw (noted.fetches, kept.count) (ring_more next_or earlier f.fetches x kept.fetches);
      dispatches = rw (noted.dispatches, kept.count) (ring_more dispatch_or earlier f.dispatches x kept.dispatches);
      retirements = rw (noted.retirements, kept.count) (ring_more retirement_or earlier f.retirements x kept.retirements);
      accesses = rw (noted.accesses, kept.accessed) (some_more retirement_or (λ y. accesses_memory y.mark.class) earlier x f.accesses kept.accesses);
      stores = rw (noted.stores, kept.stored) (some_more store_row_of (λ y. is_store y.mark.class) earlier x f.stores kept.stores);
      next = noted.next;
      dispatched = noted.dispatched;
      retired = noted.retired;
      registers = rw noted.registers (written_next earlier f.registers x kept.flight.registers kept.registers);
      slots = issued;
    }

replicated : {Y : Type 0} (n : ℕ) (y : Y) (k : ℕ) → get_or (replicate n y) k y ≡ y
replicated zero y k = refl
replicated (suc n) y zero = refl
replicated (suc n) y (suc k) = replicated n y k

ring_none : {Y : Type 0} (of : Option Timed → Y) (ring : List Y) → ring ≡ replicate 256 (of None) → IsRing of [] ring
ring_none {Y = Y} of ring is = record {
  size = ap (λ (l : List Y). length l) is ∙ length-replicate {A = Y} 256 (of None);
  each = λ k some le. rw is (replicated 256 (of None) (ring_place 0 k) ∙ none k);
}
  where
    none : (k : ℕ) → of None ≡ of (back [] k)
    none k = refl

-- where no instruction has come
pub kept_none :
    (w : Widths) (f : Flight) → AreWidths w → IsCleared f → IsPower (length f.slots.items) → span w ≤ length f.slots.items
    → length f.slots.items ≤ 2 ^ 31 → AllByRecursion (λ slot. slot.cycle ≤ f.start) f.slots.items
    → AllByRecursion (λ slot. length slot.alike ≡ 7) f.slots.items → f.start ≤ 2 ^ 30 → IsKept w [] f
kept_none w f widths is power wide size before sevens start =
    let registers : (k : ℕ) → get_or f.registers k 0 ≡ 0 = λ k. rw is.registers (replicated {Y = ℕ} 256 0 k) in
    let some : 0 < length f.slots.items = omega (arith, wide, widths.ruu.0) in
    let slots : HasIssued [] f.slots.items f.start = none_issued f.slots.items f.start some before sevens in
    let fetches : IsRing next_or [] f.fetches = ring_none next_or f.fetches is.fetches in
    let dispatches : IsRing dispatch_or [] f.dispatches = ring_none dispatch_or f.dispatches is.dispatches in
    let retirements : IsRing retirement_or [] f.retirements = ring_none retirement_or f.retirements is.retirements in
    let accesses : IsRing retirement_or [] f.accesses = ring_none retirement_or f.accesses is.accesses in
    let stores : IsRing store_row_of [] f.stores = ring_none store_row_of f.stores is.stores in
    record {
      flight = record {
        fetches = fetches.size;
        dispatches = dispatches.size;
        retirements = retirements.size;
        accesses = accesses.size;
        stores = stores.size;
        registers = ap (λ (l : List ℕ). length l) is.registers ∙ length-replicate {A = ℕ} 256 0;
        power = power;
        wide = wide;
        size = size;
        small_fetches = λ k. rw (is.fetches, replicated {Y = ℕ} 256 0 k) (omega arith);
        small_dispatches = λ k. rw (is.dispatches, replicated {Y = ℕ} 256 0 k) (omega arith);
        small_retirements = λ k. rw (is.retirements, replicated {Y = ℕ} 256 0 k) (omega arith);
        small_accesses = λ k. rw (is.accesses, replicated {Y = ℕ} 256 0 k) (omega arith);
        small_stores = λ k. rw (is.stores, replicated {Y = StoreRow} 256 (store_row_of None) k) (record { completion = omega arith; retirement = omega arith });
        small_registers = λ k. rw (registers k) (omega arith);
        counts = (omega (arith, is.count), omega (arith, is.accessed), omega (arith, is.stored));
        next = omega (arith, is.next);
        dispatched = omega (arith, is.dispatched);
        retired = omega (arith, is.retired);
        before = rw is.retired slots.before;
        sevens = sevens;
        start = start;
      };
      timed = record { each = tt; order = tt; few = omega arith };
      count = is.count;
      accessed = is.accessed;
      stored = is.stored;
      fetches = fetches;
      dispatches = dispatches;
      retirements = retirements;
      accesses = accesses;
      stores = stores;
      next = is.next;
      dispatched = is.dispatched;
      retired = is.retired;
      registers = λ r below. registers r;
      slots = slots;
    }

-- the cycles between two of them
pub kept_cycles :
    (w : Widths) (ms : List Marked) (skip n : ℕ) (f g : Flight) → skip < length ms → length ms ≤ n
    → IsKept w (times w (take skip ms)) f → IsKept w (times w (take n ms)) g
    → (f.retired ≤ g.retired) × AreCycles w ms skip (g.retired - f.retired)
kept_cycles w ms skip n f g within end first second =
    let whole : IsKept w (times w ms) g = subst (λ l. IsKept w (times w l) g) (take_all n ms end) second in
    let early : f.retired ≡ retired_back (times w ms) (length ms - skip + 1) = first.retired ∙ last_before w ms skip within in (
      rw (early, whole.retired) (total_known (times w ms) (length ms - skip + 1) whole.timed (omega arith)),
      cycles_between w ms skip f.retired g.retired within whole.timed first.retired whole.retired,
    )
