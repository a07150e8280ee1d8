-- A machine with its answers, before any event and after each.
use Rattle.std.proofs.Common.{◌≡◌, ◌-◌, ◌%◌, ◌^◌, ◌<◌, ◌≤◌, ◌==◌, ℕ, Bool, true, false, if◌then◌else◌, Option, Some, None, List, length, replicate, set, fold, refl, arith, ◌∙◌, length-set}
use Rattle.std.proofs.lemmas.List.{length-replicate}
use Rattle.std.specs.List.{All}
use Rattle.confidence.specs.Confidence.{IsInRange}
use Rattle.confidence.proofs.Lists.{sums_of-nothing, bounded-nothing}
use Rattle.confidence.specs.declared.answer.Answer.{Answer}
use Rattle.confidence.specs.declared.verdict.Test.{Test}
use Rattle.ordered_fold.specs.declared.front.Front.{Front}
use Rattle.ordered_fold.specs.declared.seat.Seat.{Seat}
use Rattle.ordered_fold.specs.declared.event.Act.{Act}
use Rattle.ordered_fold.specs.declared.event.Act.TheVariants.{Claim, Report, Glance, Try, Announce, Release, Look, Split, Join}
use Rattle.ordered_fold.specs.declared.event.CoreEvent.{CoreEvent}
use Rattle.ordered_fold.specs.Batch.{IsHeldAnswer, IsBatch}
use Rattle.ordered_fold.specs.Machine.{Core, unmade, seat_at, cell_at, core_start, core_step, drawing, joined_of, is_idle, can_claim, can_report, reported, can_glance, can_announce, can_look, can_split, can_join, acted}
use Rattle.ordered_fold.specs.Invariant.{IsCore}
use Rattle.ordered_fold.specs.Front.{first_front, IsSound}
use Rattle.ordered_fold.specs.CoreRun.{IsRun}
use Rattle.ordered_fold.proofs.RoomLemmas.{has_room}
use Rattle.ordered_fold.proofs.RunLemmas.{start_is_core, step_keeps, steps_keep}

pub start_is_run :
    (start : Front) (answers : List Answer) (seats : ℕ) → IsBatch start answers → 0 < seats
    → seats < 2 ^ 32
    → IsRun (record { start = start; answers = answers; core = core_start start (length answers) seats })
unfolding core_start
start_is_run start answers seats batch some few = record {
  batch = batch;
  core = start_is_core start answers seats batch some;
  seats = omega (arith, few, length-replicate seats unmade, length-set (replicate seats unmade) 0 (record unmade { made = true; live = true }));
}

-- no event changes how many seats there are
as_many : (b : Bool) (core after : Core) → length after.seats ≡ length core.seats → length (if b then after else core).seats ≡ length core.seats
as_many true core after e = e
as_many false core after e = refl

as_many_left : (b : Bool) (core after : Core) → length after.seats ≡ length core.seats → length (if b then core else after).seats ≡ length core.seats
as_many_left true core after e = refl
as_many_left false core after e = e

reported_seats :
    (answers : List Answer) (j : ℕ) (seat : Seat) (core : Core) (hand : Option ℕ)
    → length (reported answers j seat core hand).seats ≡ length core.seats
reported_seats answers j seat core None = refl
reported_seats answers j seat core (Some k) = length-set core.seats j (record seat { hand = None })

acted_seats :
    (start : Front) (answers : List Answer) (core : Core) (j : ℕ) (seat : Seat) (act : Act)
    → length (acted start answers j seat core act).seats ≡ length core.seats
acted_seats start answers core j seat Claim =
    as_many (can_claim seat) core _ (length-set core.seats j (drawing (length answers) core.claim seat))
acted_seats start answers core j seat Report =
    as_many (can_report seat) core _ (reported_seats answers j seat core seat.hand)
acted_seats start answers core j seat Glance =
    as_many (can_glance start (length answers) seat core) core _
    (as_many_left (cell_at core.cells (core.front.sums.n - start.sums.n) == 0) core _ refl)
acted_seats start answers core j seat Try =
    as_many (is_idle seat) core _
    (as_many (core.lock % 2 == 0) core _ (length-set core.seats j (record seat { holder = true })))
acted_seats start answers core j seat Announce = as_many (can_announce seat core) core _ refl
acted_seats start answers core j seat Release =
    as_many seat.holder core _ (length-set core.seats j (record seat { holder = false }))
acted_seats start answers core j seat Look =
    as_many (can_look seat) core _
    (as_many_left (core.stop == 0) core _ (length-set core.seats j (record seat { seen_end = Some (core.stop - 1) })))
acted_seats start answers core j seat (Split into) =
    as_many (can_split into seat core) core _ (length-set core.seats into _)
acted_seats start answers core j seat (Join from) =
    let other : Seat = seat_at core.seats from in
    let both : List Seat = set core.seats j (joined_of seat other) in
    as_many (can_join j from seat core) core _
    (length-set both from (record other { live = false }) ∙ length-set core.seats j (joined_of seat other))

step_seats :
    (start : Front) (answers : List Answer) (core : Core) (event : CoreEvent)
    → length (core_step start answers core event).seats ≡ length core.seats
unfolding core_step
step_seats start answers core event =
    acted_seats start answers core event.seat (seat_at core.seats event.seat) event.act

pub step_is_run :
    (start : Front) (answers : List Answer) (core : Core) (event : CoreEvent)
    → IsRun (record { start = start; answers = answers; core = core })
    → IsRun (record { start = start; answers = answers; core = core_step start answers core event })
step_is_run start answers core event is = record {
  batch = is.batch;
  core = step_keeps start answers core event is.batch is.core;
  seats = omega (arith, is.seats, step_seats start answers core event);
}

-- a list may be folded from no answers on
pub batch_of_all :
    (answers : List Answer) (test : Test) → 0 < length answers → length answers ≤ 65536
    → All IsHeldAnswer answers → IsInRange test
    → IsBatch (first_front (length answers) test) answers
batch_of_all answers test some most held range = record {
  sound = record {
    total = most;
    test = range;
    sums = bounded-nothing;
    room = λ going. omega (arith, some, sums_of-nothing);
  };
  going = refl;
  some = some;
  room = omega (arith, sums_of-nothing);
  held = held;
}

pub run_is_core :
    (answers : List Answer) (test : Test) (seats : ℕ) (events : List CoreEvent)
    → 0 < length answers → length answers ≤ 65536 → All IsHeldAnswer answers → IsInRange test
    → 0 < seats
    → IsCore (first_front (length answers) test) answers
    (fold (core_step (first_front (length answers) test) answers) (core_start (first_front (length answers) test) (length answers) seats) events)
run_is_core answers test seats events some most held range any =
    let start : Front = first_front (length answers) test in
    let batch = batch_of_all answers test some most held range in
    steps_keep start answers (core_start start (length answers) seats) events batch
    (start_is_core start answers seats batch any)

-- the front of a machine is sound, wherever it is
pub front_sound :
    (start : Front) (answers : List Answer) (core : Core)
    → IsRun (record { start = start; answers = answers; core = core }) → IsSound core.front
front_sound start answers core is = (has_room start answers core is.batch is.core is.seats).sound
