-- The times of an instruction as formulas over the instructions before it, which stand in lists
-- with the latest first. What isn't there counts 0 and so drops out of a maximum.
use Rattle.std.specs.Prelude.{ℕ, ◌+◌, ◌-◌, ◌==◌, ◌&&◌, nat_lt, nat_le, max, if◌then◌else◌, Bool, false, Option, Some, None, List, [], ◌∷◌, length}
use Rattle.std.specs.List.{slice_get, filter, find}
use Rattle.std.specs.Option.{unwrap_or}
use Rattle.smarts_base.specs.Least.{least_below}
use Rattle.rv_isa.specs.declared.roles.Class.{Class}
use Rattle.hierarchy.specs.declared.marked.Marked.{Marked}
use Rattle.hierarchy.specs.declared.widths.Widths.{Widths}
use Rattle.hierarchy.specs.Marked.{accesses_memory}
use Rattle.ruu_timing.specs.declared.timed.Timed.{Timed}
use Rattle.ruu_timing.specs.Class.{is_load, is_store, is_ecall, is_same, limit_of}

-- the k-th instruction back, where 1 is the latest
abbrev pub back : List Timed → ℕ → Option Timed
back earlier k = slice_get earlier (k - 1)

-- a time of an instruction, or 0 where there is none
abbrev pub time_of : (Timed → ℕ) → Option Timed → ℕ
time_of time None = 0
time_of time (Some x) = time x

-- when the instruction behind x may be fetched: with it, or after it where x transferred control;
-- after the penalty where x was mispredicted; after the retirement of an ECALL
abbrev pub next_fetch : Widths → Timed → ℕ
next_fetch w x =
    max (if x.mark.transferred then x.fetch + 1 else x.fetch)
    (max (if x.mark.mispredicted then x.completion + w.penalty else 0)
    (if is_ecall x.mark.class then x.retirement + 1 else 0))

-- fetch waits for its predecessor, for a place in the fetch queue and for the fetch width, and
-- then for the instruction caches
unfoldable pub fetch_of : Widths → List Timed → Marked → ℕ
fetch_of w earlier m =
    max (time_of (next_fetch w) (back earlier 1))
    (max (time_of (λ x. x.dispatch) (back earlier w.queue))
    (time_of (λ x. x.fetch + 1) (back earlier w.fetch)))
    + m.stall

-- the loads and stores among the instructions
abbrev pub accesses : Timed → Bool
accesses x = accesses_memory x.mark.class

abbrev pub memory_ones : List Timed → List Timed
memory_ones earlier = filter (λ x. accesses x) earlier

-- dispatch is in order, after the fetch, and waits for the dispatch width, for a place in the
-- register update unit and, as a load or store, in the load and store queue; an ECALL waits until
-- all before it are retired
unfoldable pub dispatch_of : Widths → List Timed → Marked → ℕ → ℕ
dispatch_of w earlier m fetch =
    max (max (fetch + 1)
    (max (time_of (λ x. x.dispatch) (back earlier 1))
    (time_of (λ x. x.dispatch + 1) (back earlier w.dispatch))))
    (max (time_of (λ x. x.retirement) (back earlier w.ruu))
    (max (if accesses_memory m.class
    then time_of (λ x. x.retirement) (back (memory_ones earlier) w.lsq) else 0)
    (if is_ecall m.class then time_of (λ x. x.retirement) (back earlier 1) else 0)))

-- whether this is a given number
abbrev pub is_given : Option ℕ → ℕ → Bool
is_given None n = false
is_given (Some m) n = m == n

-- whether an instruction writes a register
abbrev pub writes : ℕ → Timed → Bool
writes register x = is_given x.mark.dest register

-- whether it stores to a word
abbrev pub stores_to : ℕ → Timed → Bool
stores_to word x = is_store x.mark.class && is_given x.mark.word word

-- when the last writer of a register has completed
abbrev pub register_time : List Timed → Option ℕ → ℕ
register_time earlier None = 0
register_time earlier (Some register) =
    time_of (λ x. x.completion) (find (λ x. writes register x) earlier)

-- the last store to a word
abbrev pub last_store : List Timed → Option ℕ → Option Timed
last_store earlier None = None
last_store earlier (Some word) = find (λ x. stores_to word x) earlier

-- the store that a load reads from
abbrev pub source_of : List Timed → Marked → Option Timed
source_of earlier m = if is_load m.class then last_store earlier m.word else None

-- when an instruction's registers and, of a load, the word in memory are there, after the dispatch
unfoldable pub ready_of : List Timed → Marked → ℕ → ℕ
ready_of earlier m dispatch =
    max (max (dispatch + 1) (time_of (λ x. x.completion) (source_of earlier m)))
    (max (register_time earlier m.first) (register_time earlier m.second))

-- the cycles from issue to completion: a load is forwarded the word by the store that it reads from, where that
-- is retired only after the load's dispatch
unfoldable pub elapse_of : Widths → List Timed → Marked → ℕ → ℕ
elapse_of w earlier m dispatch =
    if nat_lt dispatch (time_of (λ x. x.retirement) (source_of earlier m)) then w.forward else m.latency

-- whether it issues in a cycle
abbrev pub issues_at : ℕ → Timed → Bool
issues_at t x = x.issue == t

-- and is of a class
abbrev pub issues_alike : Class → ℕ → Timed → Bool
issues_alike class t x = x.issue == t && is_same x.mark.class class

-- fewer earlier instructions issue in the cycle than the issue width, and fewer of the class than
-- its limit
unfoldable pub has_slot : Widths → List Timed → Class → ℕ → Bool
has_slot w earlier class t =
    nat_lt (length (filter (λ x. issues_at t x) earlier)) w.issue
    && nat_lt (length (filter (λ x. issues_alike class t x) earlier)) (limit_of w class)

-- the least cycle from `ready` on that has a slot; all before are retired, and so issued, by `free`
unfoldable pub issue_of : Widths → List Timed → Class → ℕ → ℕ
issue_of w earlier class ready =
    let free = max ready (time_of (λ x. x.retirement) (back earlier 1)) in
    unwrap_or (least_below (free + 1) (λ t. nat_le ready t && has_slot w earlier class t)) free

-- retirement is in order, after the completion, and waits for the retirement width
unfoldable pub retirement_of : Widths → List Timed → ℕ → ℕ
retirement_of w earlier completion =
    max (completion + 1)
    (max (time_of (λ x. x.retirement) (back earlier 1))
    (time_of (λ x. x.retirement + 1) (back earlier w.retire)))

-- all times of the instruction behind those
unfoldable pub timed_of : Widths → List Timed → Marked → Timed
timed_of w earlier m =
    let fetch = fetch_of w earlier m in
    let dispatch = dispatch_of w earlier m fetch in
    let issue = issue_of w earlier m.class (ready_of earlier m dispatch) in
    let completion = issue + elapse_of w earlier m dispatch in
    record {
      mark = m;
      fetch = fetch;
      dispatch = dispatch;
      issue = issue;
      completion = completion;
      retirement = retirement_of w earlier completion;
    }

-- each instruction of the list in turn, behind those that stand before it
unfoldable pub timed_after : Widths → List Timed → List Marked → List Timed
timed_after w earlier [] = earlier
timed_after w earlier (m ∷ ms) = timed_after w (timed_of w earlier m ∷ earlier) ms

-- the whole trace, the latest first
abbrev pub times : Widths → List Marked → List Timed
times w ms = timed_after w [] ms

-- the cycles from the retirement of the instruction before `skip`, or from the start where there is
-- none, to that of the last one
unfoldable pub cycles : Widths → List Marked → ℕ → ℕ
cycles w ms skip =
    time_of (λ x. x.retirement) (back (times w ms) 1)
    - time_of (λ x. x.retirement) (back (times w ms) (length ms - skip + 1))
