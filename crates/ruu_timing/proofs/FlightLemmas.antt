-- What is kept of the instructions before one is enough for its times.
use Rattle.std.proofs.Common.{Bool, List, None, Option, Some, ap, arith, cond, drop, false, filter, get_or, inl, inr, length, max, nat_lt, refl, subst, suc, sym, true, zero, ℕ, ◌≡◌, ◌+◌, ◌-◌, ◌<◌, ◌≤◌, ◌&&◌, if◌then◌else◌, [], ◌∷◌, ◌∙◌}
use Rattle.std.proofs.lemmas.Bool.{cases_lt, le-leb, le-ltb, lt-leb, lt-ltb}
use Rattle.std.specs.List.{AllByRecursion, find, slice_get}
use Rattle.std.specs.Option.{IfSome, is_some, unwrap_or}
use Rattle.hierarchy.specs.Marked.{accesses_memory}
use Rattle.hierarchy.specs.Widths.{AreWidths}
use Rattle.hierarchy.specs.declared.marked.Marked.{Marked}
use Rattle.hierarchy.specs.declared.widths.Widths.{Widths}
use Rattle.rv_isa.specs.declared.roles.Class.{Class}
use Rattle.ruu_timing.specs.Class.{is_ecall, is_load, is_store}
use Rattle.ruu_timing.specs.Flight.{Falls, HasWritten, IsKept, IsRegister, completion_in, late, dispatch_or, next_or, retirement_or, store_ones, store_row_of, timed_with, written_in}
use Rattle.ruu_timing.specs.Issues.{HasIssued, dispatched, has_room}
use Rattle.ruu_timing.specs.Laws.{IsFirst}
use Rattle.ruu_timing.specs.Ring.{IsRing, ring_place, time_back}
use Rattle.ruu_timing.specs.Timed.{AreInOrder, AreTimed, last_of}
use Rattle.ruu_timing.specs.Times.{back, dispatch_of, elapse_of, fetch_of, is_given, issue_of, memory_ones, ready_of, register_time, retirement_of, source_of, stores_to, time_of, timed_of}
use Rattle.ruu_timing.specs.declared.flight.Cycles.{Cycles}
use Rattle.ruu_timing.specs.declared.flight.Flight.{Flight}
use Rattle.ruu_timing.specs.declared.flight.StoreRow.{StoreRow}
use Rattle.ruu_timing.specs.declared.issues.Slot.{Slot}
use Rattle.ruu_timing.specs.declared.timed.Timed.{Timed}
use Rattle.ruu_timing.proofs.IssuesLemmas.{same_slot}
use Rattle.ruu_timing.proofs.LawsLemmas.{first_is_issue}
use Rattle.ruu_timing.proofs.ListLemmas.{each_filter, each_find}
use Rattle.ruu_timing.proofs.TimedLemmas.{IsDispatch, dispatched_before, ready_soon, retired, retired_in_order, source_each}

-- the times of the k-th instruction back
next_is :
    (w : Widths) (earlier : List Timed) (f : Flight) (k : ℕ) → IsKept w earlier f → 1 ≤ k → k ≤ 256
    → time_back f.fetches f.count k ≡ next_or (back earlier k)
next_is w earlier f k kept some le = rw kept.count (kept.fetches.each k some le)

dispatched_is :
    (w : Widths) (earlier : List Timed) (f : Flight) (k : ℕ) → IsKept w earlier f → 1 ≤ k → k ≤ 256
    → time_back f.dispatches f.count k ≡ dispatch_or (back earlier k)
dispatched_is w earlier f k kept some le = rw kept.count (kept.dispatches.each k some le)

retired_is :
    (w : Widths) (earlier : List Timed) (f : Flight) (k : ℕ) → IsKept w earlier f → 1 ≤ k → k ≤ 256
    → time_back f.retirements f.count k ≡ retirement_or (back earlier k)
retired_is w earlier f k kept some le = rw kept.count (kept.retirements.each k some le)

pub fetch_is :
    (w : Widths) (earlier : List Timed) (f : Flight) (m : Marked) → AreWidths w → IsKept w earlier f
    → max f.next (max (time_back f.dispatches f.count w.queue) (time_back f.fetches f.count w.fetch)) + m.stall ≡ fetch_of w earlier m
unfolding fetch_of
fetch_is w earlier f m widths kept =
    rw (
      kept.next,
      dispatched_is w earlier f w.queue kept widths.queue.0 (omega (arith, widths.queue.1)),
      next_is w earlier f w.fetch kept widths.fetch.0 (omega (arith, widths.fetch.1)),
    ) refl

-- one more where there is one makes no difference behind what is later anyway
one_later :
    (time : Timed → ℕ) (found : Option Timed) (n m k : ℕ) → 1 ≤ n
    → max n (max m (time_of time found + 1)) ≡ max n (max m (time_of (λ x. time x + 1) found))
one_later time None n m k some = omega arith
one_later time (Some x) n m k some = refl

pub dispatch_is :
    (w : Widths) (earlier : List Timed) (f : Flight) (m : Marked) (fetch : ℕ) → AreWidths w → IsKept w earlier f
    → max (max (fetch + 1) (max f.dispatched (time_back f.dispatches f.count w.dispatch + 1)))
    (max (time_back f.retirements f.count w.ruu)
    (max (if accesses_memory m.class then time_back f.accesses f.accessed w.lsq else 0)
    (if is_ecall m.class then f.retired else 0)))
    ≡ dispatch_of w earlier m fetch
unfolding dispatch_of
dispatch_is w earlier f m fetch widths kept =
    let memory : time_back f.accesses f.accessed w.lsq ≡ time_of (λ x. x.retirement) (back (memory_ones earlier) w.lsq) =
    rw kept.accessed (kept.accesses.each w.lsq (omega (arith, widths.lsq.0)) (omega (arith, widths.lsq.1))) in
    rw (
      kept.dispatched,
      kept.retired,
      memory,
      dispatched_is w earlier f w.dispatch kept widths.dispatch.0 (omega (arith, widths.dispatch.1)),
      retired_is w earlier f w.ruu kept (omega (arith, widths.ruu.0)) widths.ruu.1,
      one_later (λ x. x.dispatch) (back earlier w.dispatch) (fetch + 1) (dispatched earlier) 0 (omega arith),
    ) refl

pub retirement_is :
    (w : Widths) (earlier : List Timed) (f : Flight) (completion : ℕ) → AreWidths w → IsKept w earlier f
    → max (completion + 1) (max f.retired (time_back f.retirements f.count w.retire + 1)) ≡ retirement_of w earlier completion
unfolding retirement_of
retirement_is w earlier f completion widths kept =
    rw (
      kept.retired,
      retired_is w earlier f w.retire kept widths.retire.0 (omega (arith, widths.retire.1)),
      one_later (λ x. x.retirement) (back earlier w.retire) (completion + 1) (last_of earlier) 0 (omega arith),
    ) refl

pub unit_waits :
    (w : Widths) (earlier : List Timed) (m : Marked) (fetch : ℕ)
    → time_of (λ x. x.retirement) (back earlier w.ruu) ≤ dispatch_of w earlier m fetch
unfolding dispatch_of
unit_waits w earlier m fetch = omega arith

-- retirement in order
all_before : (earlier : List Timed) (t : ℕ) → AreInOrder earlier → last_of earlier ≤ t → AllByRecursion (λ y. y.retirement ≤ t) earlier
all_before [] t order le = tt
all_before (x ∷ xs) t order le = (le, all_before xs t order.1 (omega (arith, order.0.rises, le)))

falls_filter : (test : Timed → Bool) (earlier : List Timed) → AreInOrder earlier → Falls (filter test earlier)
falls_filter test [] order = tt
falls_filter test (x ∷ xs) order =
    elim (test x) as (λ b. Falls (cond b (x ∷ filter test xs) (filter test xs))) [
      | true ↦ (each_filter (λ y. y.retirement ≤ x.retirement) test xs (all_before xs x.retirement order.1 order.0.rises), falls_filter test xs order.1)
      | false ↦ falls_filter test xs order.1
    ]

pub falling : (earlier : List Timed) → AreTimed earlier → Falls (store_ones earlier)
falling earlier timed = falls_filter (λ x. is_store x.mark.class) earlier timed.order

-- the k-th of some is no later than the k-th of all
first_falls : (xs : List Timed) (t k : ℕ) → AllByRecursion (λ y. y.retirement ≤ t) xs → retired xs k ≤ t
first_falls [] t k each = omega arith
first_falls (x ∷ xs) t zero each = each.0
first_falls (x ∷ xs) t (suc k) each = first_falls xs t k each.1

some_retired : (test : Timed → Bool) (xs : List Timed) (k : ℕ) → AreInOrder xs → retired (filter test xs) k ≤ retired xs k
some_retired test [] k order = omega arith
some_retired test (x ∷ xs) zero order =
    elim (test x) as (λ b. retired (cond b (x ∷ filter test xs) (filter test xs)) zero ≤ x.retirement) [
      | true ↦ omega arith
      | false ↦
          first_falls (filter test xs) x.retirement zero
          (each_filter (λ y. y.retirement ≤ x.retirement) test xs (all_before xs x.retirement order.1 order.0.rises))
    ]
some_retired test (x ∷ xs) (suc k) order =
    let rest : retired (filter test xs) (suc k) ≤ retired xs (suc k) = some_retired test xs (suc k) order.1 in
    let next : retired xs (suc k) ≤ retired xs k = retired_in_order xs k (suc k) order.1 (omega arith) in
    let here : retired (filter test xs) k ≤ retired xs k = some_retired test xs k order.1 in
    elim (test x) as (λ b. retired (cond b (x ∷ filter test xs) (filter test xs)) (suc k) ≤ retired xs k) [
      | true ↦ here
      | false ↦ omega arith
    ]

-- the stores that the ring has lost are retired
pub lost_retired :
    (w : Widths) (earlier : List Timed) (t : ℕ) → AreWidths w → AreTimed earlier
    → time_of (λ x. x.retirement) (back earlier w.ruu) ≤ t
    → time_of (λ x. x.retirement) (back (store_ones earlier) 256) ≤ t
lost_retired w earlier t widths timed le =
    let among : retired (store_ones earlier) 255 ≤ retired earlier 255 =
    some_retired (λ x. is_store x.mark.class) earlier 255 timed.order in
    let far : retired earlier 255 ≤ retired earlier (w.ruu - 1) =
    retired_in_order earlier (w.ruu - 1) 255 timed.order (omega (arith, widths.ruu.1)) in
    let h : retired earlier (w.ruu - 1) ≤ t = le in
    omega arith

-- going back through the stores
pub rest_there : (xs : List Timed) (k : ℕ) (x : Timed) → slice_get xs k ≡ Some x → drop k xs ≡ x ∷ drop (suc k) xs
rest_there [] k x there = absurd (cc)
rest_there (y ∷ ys) zero x there = cc
rest_there (y ∷ ys) (suc k) x there = rest_there ys k x there

pub rest_gone : (xs : List Timed) (k : ℕ) → slice_get xs k ≡ None → drop k xs ≡ []
rest_gone [] zero none = refl
rest_gone [] (suc k) none = refl
rest_gone (y ∷ ys) zero none = absurd (cc)
rest_gone (y ∷ ys) (suc k) none = rest_gone ys k none

falls_drop : (xs : List Timed) (k : ℕ) → Falls xs → Falls (drop k xs)
falls_drop [] zero falls = tt
falls_drop [] (suc k) falls = tt
falls_drop (y ∷ ys) zero falls = falls
falls_drop (y ∷ ys) (suc k) falls = falls_drop ys k falls.1

late_gone : (t : ℕ) (found : Option Timed) → IfSome found (λ x. x.retirement ≤ t) → late t found ≡ None
late_gone t None le = refl
late_gone t (Some x) le = rw (le-leb x.retirement t le) refl

each_later : (m t : ℕ) → m ≤ t → (xs : List Timed) → AllByRecursion (λ y. y.retirement ≤ m) xs → AllByRecursion (λ y. y.retirement ≤ t) xs
each_later m t le [] each = tt
each_later m t le (x ∷ xs) each = (omega (arith, each.0), each_later m t le xs each.1)

-- what is sought among the stores from the k-th back on
abbrev pub sought : List Timed → ℕ → ℕ → ℕ → Option ℕ
sought list k word t = completion_in (late t (find (λ x. is_given x.mark.word word) (drop k list)))

-- it ends at a store that is retired
pub sought_retired :
    (list : List Timed) (k word t : ℕ) → Falls list → time_of (λ x. x.retirement) (slice_get list k) ≤ t → sought list k word t ≡ None
sought_retired list k word t falls le = go (slice_get list k) refl le
  where
    go : (found : Option Timed) → slice_get list k ≡ found → time_of (λ x. x.retirement) found ≤ t → sought list k word t ≡ None
    go None there le = rw (rest_gone list k there) refl
    go (Some x) there le =
        let rest : drop k list ≡ x ∷ drop (suc k) list = rest_there list k x there in
        let falling : Falls (x ∷ drop (suc k) list) = subst Falls rest (falls_drop list k falls) in
        let each : AllByRecursion (λ y. y.retirement ≤ t) (x ∷ drop (suc k) list) =
        (le, each_later x.retirement t le (drop (suc k) list) falling.0) in
        ap completion_in (late_gone t (find (λ y. is_given y.mark.word word) (drop k list))
        (rw rest (each_find (λ y. y.retirement ≤ t) (λ y. is_given y.mark.word word) (x ∷ drop (suc k) list) each)))

-- or at one to the word
pub sought_here :
    (list : List Timed) (k word t : ℕ) (x : Timed) → slice_get list k ≡ Some x → t < x.retirement → is_given x.mark.word word ≡ true
    → sought list k word t ≡ Some x.completion
sought_here list k word t x there waits here =
    rw (rest_there list k x there, here, lt-leb x.retirement t waits) refl

-- or goes on
pub sought_further :
    (list : List Timed) (k word t : ℕ) (x : Timed) → slice_get list k ≡ Some x → is_given x.mark.word word ≡ false
    → sought list k word t ≡ sought list (suc k) word t
sought_further list k word t x there other = rw (rest_there list k x there, other) refl

-- a store to the word among the stores, and among all
find_stores :
    (earlier : List Timed) (word : ℕ)
    → find (λ x. is_given x.mark.word word) (store_ones earlier) ≡ find (λ x. stores_to word x) earlier
find_stores [] word = refl
find_stores (x ∷ xs) word = go (is_store x.mark.class) (find_stores xs word)
  where
    go :
        (b : Bool) → find (λ x. is_given x.mark.word word) (store_ones xs) ≡ find (λ x. stores_to word x) xs
        → find (λ x. is_given x.mark.word word) (cond b (x ∷ store_ones xs) (store_ones xs))
        ≡ cond (b && is_given x.mark.word word) (Some x) (find (λ x. stores_to word x) xs)
    go false rest = rest
    go true rest = rw rest refl

pub source_is :
    (w : Widths) (earlier : List Timed) (f : Flight) (m : Marked) (word t : ℕ) (found : Option ℕ) → AreWidths w → IsKept w earlier f
    → is_load m.class ≡ true → m.word ≡ Some word
    → time_of (λ x. x.retirement) (back earlier w.ruu) ≤ t
    → ((list : List Timed) → IsRing store_row_of list f.stores → Falls list → f.stored ≡ length list
    → time_of (λ x. x.retirement) (back list 256) ≤ t
    → found ≡ completion_in (late t (find (λ x. is_given x.mark.word word) list)))
    → found ≡ completion_in (late t (source_of earlier m))
source_is w earlier f m word t found widths kept loads reads le is =
    is (store_ones earlier) kept.stores (falling earlier kept.timed) kept.stored (lost_retired w earlier t widths kept.timed le)
    ∙ rw (loads, reads, find_stores earlier word) refl

completed_is :
    (earlier : List Timed) (registers : List ℕ) (register : Option ℕ) → HasWritten earlier registers → IsRegister register
    → written_in registers register ≡ register_time earlier register
completed_is earlier registers None has within = refl
completed_is earlier registers (Some r) has within = has r within

-- a retired store has completed, so nothing waits for it
late_ready :
    (t : ℕ) (found : Option Timed) → IfSome found (λ x. x.completion < x.retirement)
    → max (t + 1) (unwrap_or (completion_in (late t found)) 0) ≡ max (t + 1) (time_of (λ x. x.completion) found)
late_ready t None complete = refl
late_ready t (Some x) complete =
    elim (cases_lt t x.retirement) [
      | inl lt ↦ rw (lt-leb x.retirement t lt) refl
      | inr ge ↦ rw (le-leb x.retirement t ge) (omega (arith, complete))
    ]

late_elapse :
    (t n m : ℕ) (found : Option Timed)
    → (if is_some (completion_in (late t found)) then n else m) ≡ (if nat_lt t (time_of (λ x. x.retirement) found) then n else m)
late_elapse t n m None = rw (le-ltb t 0 (omega arith)) refl
late_elapse t n m (Some x) =
    elim (cases_lt t x.retirement) [
      | inl lt ↦ rw (lt-leb x.retirement t lt, lt-ltb t x.retirement lt) refl
      | inr ge ↦ rw (le-leb x.retirement t ge, le-ltb t x.retirement ge) refl
    ]

completes : (earlier : List Timed) → AreInOrder earlier → AllByRecursion (λ x. x.completion < x.retirement) earlier
completes [] order = tt
completes (x ∷ xs) order = (order.0.complete, completes xs order.1)

pub ready_is :
    (w : Widths) (earlier : List Timed) (f : Flight) (m : Marked) (dispatch : ℕ) (source : Option ℕ) → IsKept w earlier f
    → IsRegister m.first → IsRegister m.second → source ≡ completion_in (late dispatch (source_of earlier m))
    → max (max (dispatch + 1) (unwrap_or source 0)) (max (written_in f.registers m.first) (written_in f.registers m.second))
    ≡ ready_of earlier m dispatch
unfolding ready_of
ready_is w earlier f m dispatch source kept first second is =
    rw (
      completed_is earlier f.registers m.first kept.registers first,
      completed_is earlier f.registers m.second kept.registers second,
      is,
      late_ready dispatch (source_of earlier m)
          (source_each (λ x. x.completion < x.retirement) earlier m (completes earlier kept.timed.order)),
    ) refl

pub elapse_is :
    (w : Widths) (earlier : List Timed) (m : Marked) (dispatch : ℕ) (source : Option ℕ)
    → source ≡ completion_in (late dispatch (source_of earlier m))
    → (if is_some source then w.forward else m.latency) ≡ elapse_of w earlier m dispatch
unfolding elapse_of
elapse_is w earlier m dispatch source is = rw is (late_elapse dispatch w.forward m.latency (source_of earlier m))

pub issue_same :
    (w : Widths) (earlier : List Timed) (slots : List Slot) (start : ℕ) (class : Class) (ready t : ℕ)
    → AreWidths w → AreTimed earlier → HasIssued earlier slots start → dispatched earlier < ready
    → IsFirst (has_room w slots start class) ready t → issue_of w earlier class ready ≡ t
issue_same w earlier slots start class ready t widths timed has late is =
    first_is_issue w earlier class ready t widths timed (record {
      start = is.start;
      passes = sym (same_slot w earlier slots start class t has (omega (arith, is.start, late))) ∙ is.passes;
      first = λ k after below.
          sym (same_slot w earlier slots start class k has (omega (arith, after, late))) ∙ is.first k after below;
    })

-- what each step of the timing of an instruction has found
pub record AreSteps (w : Widths) (earlier : List Timed) (f : Flight) (m : Marked) (c : Cycles) (late_store : Option ℕ) (readiness : ℕ) : Type 0 where
  pub fetch : c.fetch ≡ fetch_of w earlier m
  pub dispatch : c.dispatch ≡ dispatch_of w earlier m c.fetch
  pub source : late_store ≡ completion_in (late c.dispatch (source_of earlier m))
  pub ready : readiness ≡ ready_of earlier m c.dispatch
  pub issue : IsFirst (has_room w f.slots.items f.start m.class) readiness c.issue
  pub completion : c.completion ≡ c.issue + (if is_some late_store then w.forward else m.latency)
  pub retirement : c.retirement ≡ retirement_of w earlier c.completion

pub timed_is :
    (w : Widths) (earlier : List Timed) (f : Flight) (m : Marked) (c : Cycles) (source : Option ℕ) (ready : ℕ)
    → AreWidths w → IsKept w earlier f → AreSteps w earlier f m c source ready → timed_with m c ≡ timed_of w earlier m
unfolding timed_of
timed_is w earlier f m c source ready widths kept steps =
    let one : fetch_of w earlier m ≡ c.fetch = sym steps.fetch in
    let two : dispatch_of w earlier m c.fetch ≡ c.dispatch = sym steps.dispatch in
    let three : ready_of earlier m c.dispatch ≡ ready = sym steps.ready in
    let waits : IsDispatch earlier c.dispatch ready = subst (λ r. IsDispatch earlier c.dispatch r) three (ready_soon earlier m c.dispatch kept.timed) in
    let before : dispatched earlier ≤ c.dispatch = subst (λ d. dispatched earlier ≤ d) two (dispatched_before w earlier m c.fetch) in
    let four : issue_of w earlier m.class ready ≡ c.issue =
    issue_same w earlier f.slots.items f.start m.class ready c.issue widths kept.timed kept.slots (omega (arith, waits.after, before)) steps.issue in
    let elapse : (if is_some source then w.forward else m.latency) ≡ elapse_of w earlier m c.dispatch =
    elapse_is w earlier m c.dispatch source steps.source in
    let five : c.issue + elapse_of w earlier m c.dispatch ≡ c.completion = sym (steps.completion ∙ ap (λ n. c.issue + n) elapse) in
    let six : retirement_of w earlier c.completion ≡ c.retirement = sym steps.retirement in
    rw (one, two, three, four, five, six) refl

-- what the k-th place of the ring says of what is sought
pub store_waits :
    (list : List Timed) (stores : List StoreRow) (stored k word t : ℕ) (row : StoreRow)
    → row ≡ get_or stores (ring_place stored k) (store_row_of None) → IsRing store_row_of list stores → stored ≡ length list
    → 1 ≤ k → k ≤ 256 → t < row.retirement
    → is_given row.word word ≡ false
    → (sought list k word t ≡ sought list (k - 1) word t) × (t < retired list (k - 1))
store_waits list stores stored k word t row is ring count some le waits other =
    go (back list k) refl (rw (is, count, ring.each k some le) at waits) (rw (is, count, ring.each k some le) at other)
  where
    go :
        (found : Option Timed) → slice_get list (k - 1) ≡ found → t < (store_row_of found).retirement → is_given (store_row_of found).word word ≡ false
        → (sought list k word t ≡ sought list (k - 1) word t) × (t < retired list (k - 1))
    go None there waits other = absurd (omega arith)
    go (Some x) there waits other =
        let e : suc (k - 1) ≡ k = omega arith in
        (sym (rw e at (sought_further list (k - 1) word t x there other)), rw there waits)

pub store_retired :
    (list : List Timed) (stores : List StoreRow) (stored k word t : ℕ) (row : StoreRow)
    → row ≡ get_or stores (ring_place stored k) (store_row_of None) → IsRing store_row_of list stores → Falls list → stored ≡ length list
    → 1 ≤ k → k ≤ 256 → row.retirement ≤ t
    → sought list (k - 1) word t ≡ None
store_retired list stores stored k word t row is ring falls count some le done =
    sought_retired list (k - 1) word t falls (go (back list k) (rw (is, count, ring.each k some le) at done))
  where
    go : (found : Option Timed) → (store_row_of found).retirement ≤ t → time_of (λ x. x.retirement) found ≤ t
    go None done = done
    go (Some x) done = done

pub store_here :
    (list : List Timed) (stores : List StoreRow) (stored k word t : ℕ) (row : StoreRow)
    → row ≡ get_or stores (ring_place stored k) (store_row_of None) → IsRing store_row_of list stores → stored ≡ length list
    → 1 ≤ k → k ≤ 256 → t < row.retirement
    → is_given row.word word ≡ true
    → sought list (k - 1) word t ≡ Some row.completion
store_here list stores stored k word t row is ring count some le waits here =
    rw (is, count, ring.each k some le) (go (back list k) refl (rw (is, count, ring.each k some le) at waits) (rw (is, count, ring.each k some le) at here))
  where
    go :
        (found : Option Timed) → slice_get list (k - 1) ≡ found → t < (store_row_of found).retirement → is_given (store_row_of found).word word ≡ true
        → sought list (k - 1) word t ≡ Some (store_row_of found).completion
    go None there waits here = absurd (omega arith)
    go (Some x) there waits here = sought_here list (k - 1) word t x there waits here
