-- What holds of the times of every trace, and one more instruction keeps.
use Rattle.std.proofs.Common.{Bool, Bor, List, None, Option, Some, arith, false, length, max, nat_lt, option_copied, refl, suc, true, zero, ℕ, ◌≡◌, ◌+◌, ◌-◌, ◌*◌, ◌^◌, ◌<◌, ◌≤◌, if◌then◌else◌, [], ◌∷◌}
use Rattle.std.proofs.lemmas.Bool.{and_parts, leb-true}
use Rattle.std.specs.List.{AllByRecursion, find, slice_get}
use Rattle.std.specs.Option.{IfSome}
use Rattle.hierarchy.specs.Marked.{IsMarked, accesses_memory}
use Rattle.hierarchy.specs.Widths.{AreWidths}
use Rattle.hierarchy.specs.declared.marked.Marked.{Marked}
use Rattle.hierarchy.specs.declared.widths.Widths.{Widths}
use Rattle.rv_isa.specs.declared.roles.Class.{Class}
use Rattle.smarts_base.specs.Least.{IsLeast}
use Rattle.ruu_timing.specs.Class.{is_ecall, is_load}
use Rattle.ruu_timing.specs.Timed.{AreInOrder, AreTimed, IsRetiredAfter, IsWithin, last_of}
use Rattle.ruu_timing.specs.Times.{accesses, back, dispatch_of, elapse_of, fetch_of, issue_of, last_store, memory_ones, next_fetch, ready_of, register_time, retirement_of, source_of, stores_to, time_of, timed_of, writes}
use Rattle.ruu_timing.specs.declared.timed.Timed.{Timed}
use Rattle.ruu_timing.proofs.LawsLemmas.{free_of, issue_is_least, may_issue}
use Rattle.ruu_timing.proofs.ListLemmas.{each_filter, each_find, each_get, each_more, lent}

pub within_more : (m n : ℕ) → m ≤ n → (x : Timed) → IsWithin m x → IsWithin n x
within_more m n le x within = record {
  fetch = omega (arith, within.fetch);
  dispatch = omega (arith, within.dispatch);
  issue = omega (arith, within.issue);
  completion = omega (arith, within.completion);
  retirement = omega (arith, within.retirement);
}

abbrev pub retired : List Timed → ℕ → ℕ
retired earlier i = time_of (λ x. x.retirement) (slice_get earlier i)

-- retirements rise, and by at most 4096 an instruction
first_retired : (earlier : List Timed) → retired earlier 0 ≡ last_of earlier
first_retired [] = refl
first_retired (x ∷ xs) = refl

pub retired_soon : (earlier : List Timed) (i : ℕ) → AreInOrder earlier → retired earlier 0 ≤ retired earlier i + 4096 * i
retired_soon [] i order = omega arith
retired_soon (x ∷ xs) zero order = omega arith
retired_soon (x ∷ xs) (suc i) order =
    let h : retired xs 0 ≤ retired xs i + 4096 * i = retired_soon xs i order.1 in
    omega (arith, order.0.soon, first_retired xs)

pub retired_near :
    (earlier : List Timed) (i : ℕ) → AreInOrder earlier
    → retired earlier 0 ≤ max (retired earlier i) (time_of (λ x. x.dispatch) (slice_get earlier 0)) + 1220 * i
retired_near [] i order = omega arith
retired_near (x ∷ xs) zero order = omega arith
retired_near (x ∷ xs) (suc i) order =
    let h : retired xs 0 ≤ max (retired xs i) (time_of (λ y. y.dispatch) (slice_get xs 0)) + 1220 * i = retired_near xs i order.1 in
    omega (arith, order.0.near, order.0.order, first_retired xs)

pub retired_in_order : (earlier : List Timed) (i j : ℕ) → AreInOrder earlier → i ≤ j → retired earlier j ≤ retired earlier i
retired_in_order [] i j order le = omega arith
retired_in_order (x ∷ xs) zero zero order le = omega arith
retired_in_order (x ∷ xs) zero (suc j) order le =
    let h : retired xs j ≤ retired xs 0 = retired_in_order xs 0 j order.1 (omega arith) in
    omega (arith, order.0.rises, first_retired xs)
retired_in_order (x ∷ xs) (suc i) zero order le = absurd (omega arith)
retired_in_order (x ∷ xs) (suc i) (suc j) order le = retired_in_order xs i j order.1 (omega arith)

past_end : (earlier : List Timed) (i : ℕ) → length earlier ≤ i → retired earlier i ≡ 0
past_end [] i le = refl
past_end (x ∷ xs) zero le = absurd (let h : length (x ∷ xs) ≤ 0 = le in omega arith)
past_end (x ∷ xs) (suc i) le = past_end xs i (let h : length (x ∷ xs) ≤ suc i = le in omega arith)

pub last_within : (earlier : List Timed) → AreInOrder earlier → last_of earlier ≤ 4096 * length earlier
last_within earlier order =
    let h : retired earlier 0 ≤ retired earlier (length earlier) + 4096 * length earlier = retired_soon earlier (length earlier) order in
    let e : retired earlier (length earlier) ≡ 0 = past_end earlier (length earlier) (omega arith) in
    omega (arith, first_retired earlier)

-- where at least 16 follow, the last is retired later
pub retired_wide : (earlier : List Timed) (i : ℕ) → AreInOrder earlier → 16 ≤ i → 0 < length earlier → retired earlier i < retired earlier 0
retired_wide [] i order le some = absurd (omega arith)
retired_wide (x ∷ xs) zero order le some = absurd (omega arith)
retired_wide (x ∷ xs) (suc i) order le some =
    let h : retired xs i ≤ retired xs 15 = retired_in_order xs 15 i order.1 (omega arith) in
    let wide : retired xs 15 < x.retirement = order.0.wide in
    omega arith

pub last_small : (earlier : List Timed) → AreTimed earlier → last_of earlier ≤ 2 ^ 29
last_small earlier timed = omega (arith, last_within earlier timed.order, timed.few)

-- the same at the bound that no trace passes
pub small : (earlier : List Timed) → AreTimed earlier → AllByRecursion (IsWithin (2 ^ 29)) earlier
small earlier timed =
    each_more (IsWithin (last_of earlier)) (IsWithin (2 ^ 29))
    (within_more (last_of earlier) (2 ^ 29) (last_small earlier timed)) earlier timed.each

pub small_back : (earlier : List Timed) (i : ℕ) → AreTimed earlier → IfSome (slice_get earlier i) (IsWithin (2 ^ 29))
small_back earlier i timed = each_get (IsWithin (2 ^ 29)) earlier i (small earlier timed)

pub lent_small :
    (earlier : List Timed) (r : Option (Bor Timed)) (o : Option Timed) → option_copied r ≡ o
    → IfSome o (IsWithin (2 ^ 29)) → IfSome r (λ x. IsWithin (2 ^ 29) x.now)
lent_small earlier r o e there = lent (IsWithin (2 ^ 29)) r o e there

-- bounds of what an `if` chooses
either_le : (b : Bool) (x y n : ℕ) → x ≤ n → y ≤ n → (if b then x else y) ≤ n
either_le true x y n first second = first
either_le false x y n first second = second

time_le :
    (time : Timed → ℕ) (last n : ℕ) → ((x : Timed) → IsWithin last x → time x ≤ n)
    → (found : Option Timed) → IfSome found (IsWithin last) → time_of time found ≤ n
time_le time last n le None within = omega arith
time_le time last n le (Some x) within = le x within

back_le :
    (time : Timed → ℕ) (n : ℕ) (earlier : List Timed) (k : ℕ)
    → ((x : Timed) → IsWithin (last_of earlier) x → time x ≤ n) → AreTimed earlier
    → time_of time (back earlier k) ≤ n
back_le time n earlier k le timed =
    time_le time (last_of earlier) n le (back earlier k)
    (each_get (IsWithin (last_of earlier)) earlier (k - 1) timed.each)

pub next_fetch_le :
    (w : Widths) (last : ℕ) → AreWidths w → (x : Timed) → IsWithin last x → next_fetch w x ≤ last + 64
next_fetch_le w last widths x within =
    let penalty : w.penalty ≤ 64 = widths.penalty.1 in
    let transferred : (if x.mark.transferred then x.fetch + 1 else x.fetch) ≤ last + 64 =
    either_le x.mark.transferred (x.fetch + 1) x.fetch (last + 64) (omega (arith, within.fetch)) (omega (arith, within.fetch)) in
    let mispredicted : (if x.mark.mispredicted then x.completion + w.penalty else 0) ≤ last + 64 =
    either_le x.mark.mispredicted (x.completion + w.penalty) 0 (last + 64) (omega (arith, within.completion)) (omega arith) in
    let call : (if is_ecall x.mark.class then x.retirement + 1 else 0) ≤ last + 64 =
    either_le (is_ecall x.mark.class) (x.retirement + 1) 0 (last + 64) (omega (arith, within.retirement)) (omega arith) in
    omega arith

fetch_le :
    (w : Widths) (earlier : List Timed) (m : Marked) → AreWidths w → IsMarked m → AreTimed earlier
    → fetch_of w earlier m ≤ last_of earlier + 1264
unfolding fetch_of
fetch_le w earlier m widths marked timed =
    let last : ℕ = last_of earlier in
    let next : time_of (next_fetch w) (back earlier 1) ≤ last + 64 =
    back_le (next_fetch w) (last + 64) earlier 1 (next_fetch_le w last widths) timed in
    let room : time_of (λ x. x.dispatch) (back earlier w.queue) ≤ last =
    back_le (λ x. x.dispatch) last earlier w.queue (λ x h. omega (arith, h.dispatch)) timed in
    let wide : time_of (λ x. x.fetch + 1) (back earlier w.fetch) ≤ last =
    back_le (λ x. x.fetch + 1) last earlier w.fetch (λ x h. omega (arith, h.fetch)) timed in
    let stall : m.stall ≤ 1200 = marked.stall in
    omega arith

either_least : (b : Bool) (x y n : ℕ) → n ≤ x → n ≤ y → n ≤ (if b then x else y)
either_least true x y n first second = first
either_least false x y n first second = second

fetched_before : (w : Widths) (earlier : List Timed) (m : Marked) → time_of (λ x. x.fetch) (back earlier 1) ≤ fetch_of w earlier m
unfolding fetch_of
fetched_before w earlier m = omega (arith, go (back earlier 1))
  where
    go : (found : Option Timed) → time_of (λ x. x.fetch) found ≤ time_of (next_fetch w) found
    go None = omega arith
    go (Some x) =
        let own : x.fetch ≤ (if x.mark.transferred then x.fetch + 1 else x.fetch) =
        either_least x.mark.transferred (x.fetch + 1) x.fetch x.fetch (omega arith) (omega arith) in
        omega (arith, own)

pub dispatched_before :
    (w : Widths) (earlier : List Timed) (m : Marked) (fetch : ℕ)
    → time_of (λ x. x.dispatch) (back earlier 1) ≤ dispatch_of w earlier m fetch
unfolding dispatch_of
dispatched_before w earlier m fetch = omega arith

abbrev pub dispatched_at : List Timed → ℕ → ℕ
dispatched_at earlier i = time_of (λ x. x.dispatch) (slice_get earlier i)

pub dispatched_in_order : (earlier : List Timed) (i j : ℕ) → AreInOrder earlier → i ≤ j → dispatched_at earlier j ≤ dispatched_at earlier i
dispatched_in_order [] i j order le = omega arith
dispatched_in_order (x ∷ xs) zero zero order le = omega arith
dispatched_in_order (x ∷ xs) zero (suc j) order le =
    let h : dispatched_at xs j ≤ dispatched_at xs 0 = dispatched_in_order xs 0 j order.1 (omega arith) in
    let e : dispatched_at xs 0 ≤ x.dispatch = order.0.order in
    omega arith
dispatched_in_order (x ∷ xs) (suc i) zero order le = absurd (omega arith)
dispatched_in_order (x ∷ xs) (suc i) (suc j) order le = dispatched_in_order xs i j order.1 (omega arith)

queue_waits : (w : Widths) (earlier : List Timed) (m : Marked) → AreWidths w → AreTimed earlier → time_of (λ x. x.dispatch) (back earlier 32) ≤ fetch_of w earlier m
unfolding fetch_of
queue_waits w earlier m widths timed =
    let far : dispatched_at earlier 31 ≤ dispatched_at earlier (w.queue - 1) =
    dispatched_in_order earlier (w.queue - 1) 31 timed.order (omega (arith, widths.queue.1)) in
    omega arith

pub unit_waits_most :
    (w : Widths) (earlier : List Timed) (m : Marked) (fetch : ℕ) → AreWidths w → AreTimed earlier
    → time_of (λ x. x.retirement) (back earlier 256) ≤ dispatch_of w earlier m fetch
unfolding dispatch_of
unit_waits_most w earlier m fetch widths timed =
    let far : retired earlier 255 ≤ retired earlier (w.ruu - 1) =
    retired_in_order earlier (w.ruu - 1) 255 timed.order (omega (arith, widths.ruu.1)) in
    omega arith

pub record IsDispatch (earlier : List Timed) (fetch dispatch : ℕ) : Type 0 where
  pub after : fetch + 1 ≤ dispatch
  pub soon : dispatch ≤ max (fetch + 1) (last_of earlier)

pub dispatch_soon :
    (w : Widths) (earlier : List Timed) (m : Marked) (fetch : ℕ) → AreTimed earlier
    → IsDispatch earlier fetch (dispatch_of w earlier m fetch)
unfolding dispatch_of
dispatch_soon w earlier m fetch timed =
    let last : ℕ = last_of earlier in
    let previous : time_of (λ x. x.dispatch) (back earlier 1) ≤ last =
    back_le (λ x. x.dispatch) last earlier 1 (λ x h. omega (arith, h.dispatch)) timed in
    let wide : time_of (λ x. x.dispatch + 1) (back earlier w.dispatch) ≤ last =
    back_le (λ x. x.dispatch + 1) last earlier w.dispatch (λ x h. omega (arith, h.dispatch)) timed in
    let room : time_of (λ x. x.retirement) (back earlier w.ruu) ≤ last =
    back_le (λ x. x.retirement) last earlier w.ruu (λ x h. omega (arith, h.retirement)) timed in
    let queue : time_of (λ x. x.retirement) (back (memory_ones earlier) w.lsq) ≤ last =
    time_le (λ x. x.retirement) last last (λ x h. omega (arith, h.retirement)) (back (memory_ones earlier) w.lsq)
    (each_get (IsWithin last) (memory_ones earlier) (w.lsq - 1) (each_filter (IsWithin last) accesses earlier timed.each)) in
    let memory : (if accesses_memory m.class then time_of (λ x. x.retirement) (back (memory_ones earlier) w.lsq) else 0) ≤ last =
    either_le (accesses_memory m.class) (time_of (λ x. x.retirement) (back (memory_ones earlier) w.lsq)) 0 last queue (omega arith) in
    let call : (if is_ecall m.class then time_of (λ x. x.retirement) (back earlier 1) else 0) ≤ last =
    either_le (is_ecall m.class) last 0 last (omega arith) (omega arith) in
    record { after = omega arith; soon = omega arith }

pub register_time_le : (earlier : List Timed) (register : Option ℕ) → AreTimed earlier → register_time earlier register ≤ last_of earlier
register_time_le earlier None timed = omega arith
register_time_le earlier (Some register) timed =
    time_le (λ x. x.completion) (last_of earlier) (last_of earlier) (λ x h. omega (arith, h.completion))
    (find (λ x. writes register x) earlier) (each_find (IsWithin (last_of earlier)) (writes register) earlier timed.each)

-- the store that a load reads from is one of those before it
pub source_each : (P : Timed → Type 0) (earlier : List Timed) (m : Marked) → AllByRecursion P earlier → IfSome (source_of earlier m) P
source_each P earlier m each = go (is_load m.class) m.word
  where
    go : (b : Bool) (word : Option ℕ) → IfSome (if b then last_store earlier word else None) P
    go false word = tt
    go true None = tt
    go true (Some word) = each_find P (λ x. stores_to word x) earlier each

source_le : (earlier : List Timed) (m : Marked) → AreTimed earlier → time_of (λ x. x.completion) (source_of earlier m) ≤ last_of earlier
source_le earlier m timed =
    time_le (λ x. x.completion) (last_of earlier) (last_of earlier) (λ x h. omega (arith, h.completion))
    (source_of earlier m) (source_each (IsWithin (last_of earlier)) earlier m timed.each)

pub elapse_le : (w : Widths) (earlier : List Timed) (m : Marked) (dispatch : ℕ) → AreWidths w → IsMarked m → elapse_of w earlier m dispatch ≤ 1216
unfolding elapse_of
elapse_le w earlier m dispatch widths marked =
    either_le (nat_lt dispatch (time_of (λ x. x.retirement) (source_of earlier m))) w.forward m.latency 1216
    (omega (arith, widths.forward.1)) marked.latency_most

pub ready_soon :
    (earlier : List Timed) (m : Marked) (dispatch : ℕ) → AreTimed earlier
    → IsDispatch earlier dispatch (ready_of earlier m dispatch)
unfolding ready_of
ready_soon earlier m dispatch timed =
    let memory : time_of (λ x. x.completion) (source_of earlier m) ≤ last_of earlier = source_le earlier m timed in
    let first : register_time earlier m.first ≤ last_of earlier = register_time_le earlier m.first timed in
    let second : register_time earlier m.second ≤ last_of earlier = register_time_le earlier m.second timed in
    record { after = omega arith; soon = omega arith }

pub issue_is :
    (w : Widths) (earlier : List Timed) (class : Class) (ready : ℕ) → AreWidths w → AreTimed earlier
    → (ready ≤ issue_of w earlier class ready) × (issue_of w earlier class ready ≤ max ready (last_of earlier))
issue_is w earlier class ready widths timed =
    let least : IsLeast (free_of earlier ready + 1) (may_issue w earlier class ready) (issue_of w earlier class ready) =
    issue_is_least w earlier class ready widths timed in
    (leb-true ready (issue_of w earlier class ready) (and_parts _ _ least.passes).0, omega (arith, least.below))

pub record IsRetirement (w : Widths) (earlier : List Timed) (completion retirement : ℕ) : Type 0 where
  pub after : completion + 1 ≤ retirement
  pub order : last_of earlier ≤ retirement
  pub soon : retirement ≤ max (completion + 1) (last_of earlier + 1)
  pub wide : time_of (λ x. x.retirement + 1) (back earlier w.retire) ≤ retirement

retirement_soon :
    (w : Widths) (earlier : List Timed) (completion : ℕ) → AreTimed earlier
    → IsRetirement w earlier completion (retirement_of w earlier completion)
unfolding retirement_of
retirement_soon w earlier completion timed =
    let wide : time_of (λ x. x.retirement + 1) (back earlier w.retire) ≤ last_of earlier + 1 =
    back_le (λ x. x.retirement + 1) (last_of earlier + 1) earlier w.retire (λ x h. omega (arith, h.retirement)) timed in
    record { after = omega arith; order = omega arith; soon = omega arith; wide = omega arith }

one_less : (found : Option Timed) (n : ℕ) → 0 < n → time_of (λ x. x.retirement + 1) found ≤ n → time_of (λ x. x.retirement) found < n
one_less None n some le = some
one_less (Some x) n some le = omega arith

pub next_times :
    (w : Widths) (earlier : List Timed) (m : Marked) → AreWidths w → IsMarked m → AreTimed earlier
    → IsWithin (timed_of w earlier m).retirement (timed_of w earlier m) × IsRetiredAfter earlier (timed_of w earlier m)
unfolding timed_of
next_times w earlier m widths marked timed =
    let fetch : ℕ = fetch_of w earlier m in
    let dispatch : ℕ = dispatch_of w earlier m fetch in
    let ready : ℕ = ready_of earlier m dispatch in
    let issue : ℕ = issue_of w earlier m.class ready in
    let elapse : ℕ = elapse_of w earlier m dispatch in
    let completion : ℕ = issue + elapse in
    let retirement : ℕ = retirement_of w earlier completion in
    let fetched : fetch ≤ last_of earlier + 1264 = fetch_le w earlier m widths marked timed in
    let dispatched : IsDispatch earlier fetch dispatch = dispatch_soon w earlier m fetch timed in
    let waited : IsDispatch earlier dispatch ready = ready_soon earlier m dispatch timed in
    let issued : (ready ≤ issue) × (issue ≤ max ready (last_of earlier)) = issue_is w earlier m.class ready widths timed in
    let retired_then : IsRetirement w earlier completion retirement = retirement_soon w earlier completion timed in
    let short : elapse ≤ 1216 = elapse_le w earlier m dispatch widths marked in
    let some : 0 < retirement = omega (arith, retired_then.after) in
    let near : time_of (λ x. x.retirement) (back earlier w.retire) < retirement =
    one_less (back earlier w.retire) retirement some retired_then.wide in
    let far : retired earlier 15 ≤ retired earlier (w.retire - 1) =
    retired_in_order earlier (w.retire - 1) 15 timed.order (omega (arith, widths.retire.1)) in (
      record {
        fetch = omega (arith, dispatched.after, waited.after, issued.0, retired_then.after);
        dispatch = omega (arith, waited.after, issued.0, retired_then.after);
        issue = omega (arith, retired_then.after);
        completion = omega (arith, retired_then.after);
        retirement = omega arith;
      },
      record {
        rises = retired_then.order;
        soon = omega (arith, dispatched.soon, waited.soon, issued.1, retired_then.soon);
        wide = omega arith;
        complete = omega (arith, retired_then.after);
        fetched = fetched_before w earlier m;
        order = dispatched_before w earlier m fetch;
        after = (omega (arith, dispatched.after), (omega (arith, waited.after, issued.0), omega (arith, retired_then.after)));
        queue = queue_waits w earlier m widths timed;
        unit = unit_waits_most w earlier m fetch widths timed;
        near = omega (arith, waited.soon, issued.1, retired_then.soon);
      },
    )

pub next_timed :
    (w : Widths) (earlier : List Timed) (m : Marked) → AreWidths w → IsMarked m → AreTimed earlier
    → length earlier < 110000 → AreTimed (timed_of w earlier m ∷ earlier)
next_timed w earlier m widths marked timed few =
    let next = next_times w earlier m widths marked timed in
    record {
      each = (
        next.0,
        each_more (IsWithin (last_of earlier)) (IsWithin (timed_of w earlier m).retirement)
            (within_more (last_of earlier) (timed_of w earlier m).retirement next.1.rises) earlier timed.each,
      );
      order = (next.1, timed.order);
      few = omega arith;
    }
