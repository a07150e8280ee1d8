-- The machine whose every run the workers' steps on shared words are: numbers are drawn, answers
-- are reported into cells, and one seat at a time folds the cells in order.
use Rattle.std.specs.Prelude.{◌+◌, ◌-◌, ◌*◌, ◌%◌, ◌==◌, ℕ, Bool, true, false, not, ◌&&◌, ◌||◌, nat_lt, if◌then◌else◌, Option, Some, None, is_some, is_none, List, length, replicate, slice_get, slice_index_or, slice_set}
use Rattle.std.specs.List.{fold}
use Rattle.std.specs.Option.{option_or}
use Rattle.confidence.specs.declared.answer.Answer.{Answer}
use Rattle.ordered_fold.specs.declared.front.Front.{Front}
use Rattle.ordered_fold.specs.declared.seat.Seat.{Seat}
use Rattle.ordered_fold.specs.declared.event.Act.{Act}
use Rattle.ordered_fold.specs.declared.event.Act.TheVariants.{Claim, Report, Glance, Try, Announce, Release, Look, Split, Join}
use Rattle.ordered_fold.specs.declared.event.CoreEvent.{CoreEvent}
use Rattle.ordered_fold.specs.Front.{is_going, pushed}
use Rattle.ordered_fold.specs.Batch.{folded_number}
use Rattle.ordered_fold.specs.Cell.{code, answer_of}

-- `claim` is the next number to be drawn; `lock` is odd while a seat holds, and half of it is the
-- number of answers folded when it was last free; `stop` is 0, or one more than the count of
-- answers before the ending; a cell is 0 until its answer is reported
pub record Core : Type 0 where
  pub claim : ℕ
  pub lock : ℕ
  pub stop : ℕ
  pub cells : List ℕ
  pub front : Front
  pub seats : List Seat

-- a seat that was never made
abbrev pub unmade : Seat
unmade = record {
  made = false;
  live = false;
  hand = None;
  last = None;
  past = false;
  seen_end = None;
  holder = false;
}

-- a seat beyond the last is as one that was never made
abbrev pub seat_at : List Seat → ℕ → Seat
seat_at seats j = slice_index_or seats j unmade

abbrev pub cell_at : List ℕ → ℕ → ℕ
cell_at cells k = slice_index_or cells k 0

-- what the cell of an answer gets
abbrev pub code_or_zero : Option Answer → ℕ
code_or_zero None = 0
code_or_zero (Some answer) = code answer

-- the words and cells are 0, and of so many seats the first alone is made
unfoldable pub core_start : Front → ℕ → ℕ → Core
core_start start size seats = record {
  claim = 0;
  lock = 0;
  stop = 0;
  cells = replicate size 0;
  front = start;
  seats = slice_set (replicate seats unmade) 0 (record unmade { made = true; live = true });
}

-- a live seat whose hand is empty and that isn't holder
abbrev pub is_idle : Seat → Bool
is_idle seat = seat.live && is_none seat.hand && not seat.holder

-- Claim: the number drawn is the seat's last, and its hand where it is one of an answer
abbrev pub can_claim : Seat → Bool
can_claim seat = is_idle seat && not seat.past && is_none seat.seen_end

abbrev pub drawing : ℕ → ℕ → Seat → Seat
drawing size number seat =
    if nat_lt number size then record seat { hand = Some number; last = Some number }
    else record seat { last = Some number; past = true }

abbrev pub after_claim : ℕ → ℕ → Seat → Core → Core
after_claim size j seat core =
    record core { claim = core.claim + 1; seats = slice_set core.seats j (drawing size core.claim seat) }

-- Report: the cell of the number in the hand gets its answer's code, and the hand is empty
abbrev pub can_report : Seat → Bool
can_report seat = seat.live && is_some seat.hand && not seat.holder

abbrev pub after_report : ℕ → ℕ → ℕ → Seat → Core → Core
after_report word k j seat core = record core {
  cells = slice_set core.cells k word;
  seats = slice_set core.seats j (record seat { hand = None });
}

abbrev pub reported : List Answer → ℕ → Seat → Core → Option ℕ → Core
reported answers j seat core None = core
reported answers j seat core (Some k) =
    after_report (code_or_zero (slice_get answers k)) k j seat core

-- Try: where the lock is even, it rises by 1 and the seat is holder
abbrev pub after_try : ℕ → Seat → Core → Core
after_try j seat core =
    if core.lock % 2 == 0
    then record core { lock = core.lock + 1; seats = slice_set core.seats j (record seat { holder = true }) }
    else core

-- Glance: a full cell of the next number in order is pushed
abbrev pub can_glance : Front → ℕ → Seat → Core → Bool
can_glance start size seat core =
    seat.holder && is_going core.front.ending && nat_lt core.front.sums.n (start.sums.n + size)

abbrev pub after_glance : Front → Core → Core
after_glance start core =
    let word = cell_at core.cells (core.front.sums.n - start.sums.n) in
    if word == 0 then core else record core { front = pushed core.front (answer_of word) }

-- Announce: stop tells the count of answers before the ending
abbrev pub can_announce : Seat → Core → Bool
can_announce seat core = seat.holder && not (is_going core.front.ending)

abbrev pub after_announce : Core → Core
after_announce core = record core { stop = core.front.sums.n + 1 }

-- Release: lock is twice the number of answers folded, and the seat isn't holder
abbrev pub after_release : Front → ℕ → Seat → Core → Core
after_release start j seat core = record core {
  lock = 2 * folded_number start core.front;
  seats = slice_set core.seats j (record seat { holder = false });
}

-- Look: where stop isn't 0, the seat has seen the end that it tells
abbrev pub can_look : Seat → Bool
can_look seat = seat.live && not seat.holder

abbrev pub after_look : ℕ → Seat → Core → Core
after_look j seat core =
    if core.stop == 0 then core
    else record core { seats = slice_set core.seats j (record seat { seen_end = Some (core.stop - 1) }) }

-- Split: the new seat knows what the old one does, and has nothing in its hand
abbrev pub can_split : ℕ → Seat → Core → Bool
can_split into seat core =
    is_idle seat && nat_lt into (length core.seats) && not (seat_at core.seats into).made

abbrev pub child_of : Seat → Seat
child_of seat = record unmade {
  made = true;
  live = true;
  last = seat.last;
  past = seat.past;
  seen_end = seat.seen_end;
}

abbrev pub after_split : ℕ → Seat → Core → Core
after_split into seat core = record core { seats = slice_set core.seats into (child_of seat) }

-- Join: the seat has the later last number, and what either knows
abbrev pub can_join : ℕ → ℕ → Seat → Core → Bool
can_join j from seat core = not (j == from) && is_idle seat && is_idle (seat_at core.seats from)

abbrev pub later : Option ℕ → Option ℕ → Option ℕ
later None second = second
later (Some first) None = Some first
later (Some first) (Some second) = if nat_lt first second then Some second else Some first

abbrev pub joined_of : Seat → Seat → Seat
joined_of seat other = record seat {
  last = later seat.last other.last;
  past = seat.past || other.past;
  seen_end = option_or seat.seen_end other.seen_end;
}

abbrev pub after_join : ℕ → ℕ → Seat → Core → Core
after_join j from seat core =
    let other = seat_at core.seats from in
    let both = slice_set core.seats j (joined_of seat other) in
    record core { seats = slice_set both from (record other { live = false }) }

-- what an act of this seat, numbered j, leaves; one that isn't enabled changes nothing
abbrev pub acted : Front → List Answer → ℕ → Seat → Core → Act → Core
acted start answers j seat core Claim =
    if can_claim seat then after_claim (length answers) j seat core else core
acted start answers j seat core Report =
    if can_report seat then reported answers j seat core seat.hand else core
acted start answers j seat core Glance =
    if can_glance start (length answers) seat core then after_glance start core else core
acted start answers j seat core Try = if is_idle seat then after_try j seat core else core
acted start answers j seat core Announce =
    if can_announce seat core then after_announce core else core
acted start answers j seat core Release =
    if seat.holder then after_release start j seat core else core
acted start answers j seat core Look = if can_look seat then after_look j seat core else core
acted start answers j seat core (Split into) =
    if can_split into seat core then after_split into seat core else core
acted start answers j seat core (Join from) =
    if can_join j from seat core then after_join j from seat core else core

unfoldable pub core_step : Front → List Answer → Core → CoreEvent → Core
core_step start answers core event =
    acted start answers event.seat (seat_at core.seats event.seat) core event.act

-- after these events, from the start with so many seats
unfoldable pub core_after : Front → List Answer → ℕ → List CoreEvent → Core
core_after start answers seats events =
    fold (core_step start answers) (core_start start (length answers) seats) events
