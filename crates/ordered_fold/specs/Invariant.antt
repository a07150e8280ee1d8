-- What holds of the machine after any events.
use Rattle.std.specs.Prelude.{◌≡◌, ◌≢◌, ◌⊎◌, ◌+◌, ◌*◌, ◌%◌, ◌<◌, ◌≤◌, ℕ, Bool, true, false, not, ◌&&◌, ◌||◌, Some, None, List, length, slice_get}
use Rattle.std.specs.List.{count_by}
use Rattle.confidence.specs.declared.answer.Answer.{Answer}
use Rattle.ordered_fold.specs.declared.front.Front.{Front}
use Rattle.ordered_fold.specs.declared.seat.Seat.{Seat}
use Rattle.ordered_fold.specs.Front.{is_going}
use Rattle.ordered_fold.specs.Batch.{fold_from, folded_number, count_before_end}
use Rattle.ordered_fold.specs.Machine.{Core, seat_at, cell_at, code_or_zero}

-- the number k is in the hand of a live seat
abbrev pub HasHand : ℕ → Seat → Type 0
HasHand k seat = (seat.live ≡ true) × (seat.hand ≡ Some k)

-- n is the last number of a live seat
abbrev pub HasLast : ℕ → Seat → Type 0
HasLast n seat = (seat.live ≡ true) × (seat.last ≡ Some n)

-- a seat that was made and draws no more
abbrev pub is_done : Seat → Bool
is_done seat = seat.made && (seat.past || not seat.live)

-- of a seat by itself, beside the words, with as many answers as size
pub record IsSeat (size claim lock stop : ℕ) (seat : Seat) : Type 0 where
  pub made : seat.live ≡ true → seat.made ≡ true
  pub dead : seat.live ≡ false → seat.holder ≡ false
  pub last : (n : ℕ) → HasLast n seat → n < claim
  pub hand : (k : ℕ) → HasHand k seat → (k < size) × (seat.last ≡ Some k)
  pub holder : seat.holder ≡ true → (seat.hand ≡ None) × (lock % 2 ≡ 1)
  pub past : seat.live ≡ true → seat.past ≡ true → size ≤ claim
  pub seen : seat.live ≡ true → (e : ℕ) → seat.seen_end ≡ Some e → stop ≡ e + 1

pub record IsCore (start : Front) (answers : List Answer) (core : Core) : Type 0 where
  pub wide : length core.cells ≡ length answers
  -- a full cell is of a number drawn, and holds its answer
  pub code : (k : ℕ) → cell_at core.cells k ≢ 0
      → (k < core.claim) × (cell_at core.cells k ≡ code_or_zero (slice_get answers k))
  -- a number drawn has a full cell, or is the hand of exactly one live seat
  pub drawn : (k : ℕ) → k < core.claim → k < length answers → cell_at core.cells k ≡ 0
      → (j : ℕ) × HasHand k (seat_at core.seats j)
  pub empty : (j k : ℕ) → HasHand k (seat_at core.seats j) → cell_at core.cells k ≡ 0
  pub one_hand : (i j k : ℕ) → HasHand k (seat_at core.seats i)
      → HasHand k (seat_at core.seats j) → i ≡ j
  -- the number drawn last is the last of a live seat
  pub latest : (n : ℕ) → core.claim ≡ n + 1 → (j : ℕ) × HasLast n (seat_at core.seats j)
  pub each : (j : ℕ)
      → IsSeat (length answers) core.claim core.lock core.stop (seat_at core.seats j)
  -- the lock is odd where one seat holds, and even where none does
  pub held : core.lock % 2 ≡ 1 → (j : ℕ) × ((seat_at core.seats j).holder ≡ true)
  pub one_holder : (i j : ℕ) → (seat_at core.seats i).holder ≡ true
      → (seat_at core.seats j).holder ≡ true → i ≡ j
  -- the front is the fold of the first answers, whose cells are full
  pub front : core.front ≡ fold_from start answers (folded_number start core.front)
  pub full : (k : ℕ) → k < folded_number start core.front → cell_at core.cells k ≢ 0
  pub even : core.lock % 2 ≡ 0 → core.lock ≡ 2 * folded_number start core.front
  pub odd : core.lock % 2 ≡ 1 → core.lock ≤ 2 * folded_number start core.front + 1
  -- nothing is announced but the ending of the batch, and only where the front has it
  pub stop : (core.stop ≡ 0)
      ⊎ ((core.stop ≡ count_before_end start answers + 1) × (is_going core.front.ending ≡ false))
  -- each seat draws at most one number beyond the answers'
  pub bound : core.claim ≤ length answers + count_by is_done core.seats
