-- What holds of a board between any two word steps: its words, the front where it is at home, and the
-- views of its passes are a state of the machine of ordered_fold, which keeps the machine's invariant.
use Rattle.std.specs.Prelude.{◌≡◌, ◌+◌, ◌%◌, ◌<◌, ◌≤◌, ℕ, true, false, min, Option, Some, List, [], ◌∷◌, length, slice_index_or}
use Rattle.std.specs.List.{sum_by}
use mathlib.Core.Option.{none, some}
use lib.ListN.{get_elem?}
use Rattle.atomic_table.specs.Table.{State}
use Rattle.confidence.specs.declared.answer.Answer.{Answer}
use Rattle.ordered_fold.specs.declared.front.Front.{Front}
use Rattle.ordered_fold.specs.declared.seat.Seat.{Seat}
use Rattle.ordered_fold.specs.Batch.{folded_number, IsBatch}
use Rattle.ordered_fold.specs.Machine.{Core, unmade, seat_at}
use Rattle.ordered_fold.specs.Invariant.{IsCore}
use Rattle.claim_table.specs.declared.rule.Key.{Key}
use Rattle.claim_table.specs.declared.rule.Note.{Note}
use Rattle.claim_table.specs.declared.rule.View.{View}

-- the list at a place, which is empty where there is none
abbrev pub list_at : List (List Answer) → ℕ → List Answer
list_at lists which = slice_index_or lists which []

-- the machine's seat is the one that the view tells, where that is live
pub record Shows (view : View) (seat : Seat) : Type 0 where
  pub live : view.seat.live ≡ true → seat ≡ view.seat
  pub dead : view.seat.live ≡ false → seat.live ≡ false

-- of a view by itself: m answers of the batch are folded
pub record IsView (key : Key) (stop m : ℕ) (view : View) : Type 0 where
  pub which : view.seat.live ≡ true → view.which ≡ key.which
  pub start : view.seat.live ≡ true → view.start ≡ key.start
  pub merged : view.seat.live ≡ true → 0 < view.merged
  pub held : view.seat.live ≡ true → view.seat.holder ≡ true → view.held ≡ m
  pub told : view.announced ≡ true → 0 < stop
  pub spent : view.seat.live ≡ false → view.points ≡ 0

-- the words, the slot and the views of a board are a state of the machine
pub record IsBoard (lists : List (List Answer)) (key : Key) (state : State (Option Front) View) : Type 0 where
  pub core : Core
  pub batch : IsBatch key.start (list_at lists key.which)
  pub is : IsCore key.start (list_at lists key.which) core
  pub words : state.words ≡ core.claim ∷ core.lock ∷ core.stop ∷ core.cells
  -- the front is with the holder where a seat holds, else at home
  pub home : core.lock % 2 ≡ 0 → state.homes ≡ some (Some core.front) ∷ []
  pub away : core.lock % 2 ≡ 1 → state.homes ≡ none ∷ []
  pub seats : length core.seats ≡ 65
  -- the view numbered j tells seat j, and the seats beyond are unmade
  pub shown : (j : ℕ) (view : View) → get_elem? state.views j ≡ some view
      → Shows view (seat_at core.seats j)
  pub fresh : (j : ℕ) → length state.views ≤ j → (seat_at core.seats j).made ≡ false
  pub each : (j : ℕ) (view : View) → get_elem? state.views j ≡ some view
      → IsView key core.stop (folded_number key.start core.front) view
  -- of the 65 seats, those to come are the passes' to give
  pub spares : sum_by (λ v. v.spare) state.views + length state.views ≡ 65
  pub merges : sum_by (λ v. v.merged) state.views ≡ length state.views
  pub points : sum_by (λ v. v.points) state.views ≡ min core.claim (length (list_at lists key.which))

abbrev pub no_note : Note
no_note = record { step = 0; place = 0; word = 0 }

-- what the first pass of a board knows
abbrev pub first_view : Key → View
first_view key = record {
  seat = record unmade { made = true; live = true };
  held = 0;
  spare = 64;
  merged = 1;
  points = 0;
  which = key.which;
  start = key.start;
  announced = false;
  steps = 0;
  tried = no_note;
  glanced = no_note;
  looked = no_note;
}

-- the pass is the only one left
abbrev pub IsAlone : View → Type 0
IsAlone view = view.spare + view.merged ≡ 65
