-- What each word step tells the pass that does it: the number found there, and the pass's view after.
use Rattle.std.specs.Prelude.{◌≡◌, ◌≢◌, ◌+◌, ◌-◌, ◌/◌, ◌%◌, ◌<◌, ◌≤◌, ℕ, true, false, nat_lt, if◌then◌else◌, Option, Some, None, List, ◌∷◌, length}
use Rattle.atomic_table.specs.Table.{Me, Step, rest}
use Rattle.confidence.specs.declared.answer.Answer.{Answer}
use Rattle.confidence.specs.Answer.{IsValidAnswer}
use Rattle.ordered_fold.specs.declared.ending.Ending.TheVariants.{Going}
use Rattle.ordered_fold.specs.declared.front.Front.{Front}
use Rattle.ordered_fold.specs.Front.{is_going, pushed, IsSound}
use Rattle.ordered_fold.specs.Cell.{answer_of}
use Rattle.ordered_fold.specs.Batch.{fold_from, pushed_number, count_before_end, IsBatch}
use Rattle.ordered_fold.specs.Machine.{unmade, drawing, child_of, joined_of}
use Rattle.claim_table.specs.declared.rule.Note.{Note}
use Rattle.claim_table.specs.declared.rule.View.{View}
use Rattle.claim_table.specs.Board.{list_at, no_note, IsAlone}

-- a pass with the slots that it holds
abbrev pub Holding : Type 0
Holding = Me (Option Front) View

abbrev pub At : Type 0
At = Step (Option Front)

-- the answers that the pass's board reports
abbrev pub answers_of : List (List Answer) → View → List Answer
answers_of lists view = list_at lists view.which

-- the front after the first m of them
abbrev pub front_at : List (List Answer) → View → ℕ → Front
front_at lists view m = fold_from view.start (answers_of lists view) m

-- the number behind the last one drawn
abbrev pub next_number : Option ℕ → ℕ
next_number None = 0
next_number (Some last) = last + 1

abbrev pub note : ℕ → ℕ → ℕ → Note
note step place word = record { step = step; place = place; word = word }

-- Claim found the number n
abbrev pub drawn_view : ℕ → ℕ → View → View
drawn_view size n view = record view {
  seat = drawing size n view.seat;
  points = view.points + (if nat_lt n size then 1 else 0);
  steps = view.steps + 1;
}

pub record Claimed (lists : List (List Answer)) (me : Holding) (n : ℕ) (after : Holding) : Type 0 where
  pub view : after ≡ (drawn_view (length (answers_of lists me.0)) n me.0, me.1)
  pub later : (last : ℕ) → me.0.seat.last ≡ Some last → last < n
  pub alone : IsAlone me.0 → n ≡ next_number me.0.seat.last

-- Report filled the cell of the number in the hand
abbrev pub reported_view : View → View
reported_view view = record view { seat = record view.seat { hand = None }; steps = view.steps + 1 }

pub record Reported (lists : List (List Answer)) (me : Holding) (n : ℕ) (after : Holding) : Type 0 where
  pub view : after ≡ (reported_view me.0, me.1)

-- Try found the lock odd, or has the front
abbrev pub refused_view : ℕ → View → View
refused_view n view = record view { steps = view.steps + 1; tried = note (view.steps + 1) 1 n }

abbrev pub holding_view : ℕ → View → View
holding_view n view = record view {
  seat = record view.seat { holder = true };
  held = n / 2;
  steps = view.steps + 1;
  tried = note (view.steps + 1) 1 n;
}

pub record Tried (lists : List (List Answer)) (me : Holding) (n : ℕ) (after : Holding) : Type 0 where
  pub busy : n % 2 ≡ 1 → after ≡ (refused_view n me.0, me.1)
  pub alone : n % 2 ≡ 1 → IsAlone me.0 → ⊥
  pub got : n % 2 ≡ 0 → after ≡ (holding_view n me.0, (0, Some (front_at lists me.0 (n / 2))) ∷ me.1)
  pub drawn : n % 2 ≡ 0 → n / 2 ≤ length (answers_of lists me.0)
      × (IsAlone me.0 → n / 2 ≤ next_number me.0.seat.last)
  pub batch : IsBatch me.0.start (answers_of lists me.0)
  pub sound : n % 2 ≡ 0 → IsSound (front_at lists me.0 (n / 2))
  pub count : n % 2 ≡ 0
      → pushed_number (front_at lists me.0 (n / 2)) ≡ me.0.start.sums.n + n / 2

-- Glance found the next cell empty, or an answer that it folds
abbrev pub glanced_view : ℕ → ℕ → View → View
glanced_view held n view = record view {
  held = held;
  steps = view.steps + 1;
  glanced = note (view.steps + 1) view.held n;
}

pub record Glanced (lists : List (List Answer)) (me : Holding) (n : ℕ) (after : Holding) : Type 0 where
  pub empty : n ≡ 0 → after ≡ (glanced_view me.0.held 0 me.0, me.1)
  pub alone : n ≡ 0 → IsAlone me.0 → next_number me.0.seat.last ≤ me.0.held
  pub full : n ≢ 0 → after ≡ (glanced_view (me.0.held + 1) n me.0, me.1)
  pub drawn : n ≢ 0 → IsAlone me.0 → me.0.held + 1 ≤ next_number me.0.seat.last
  pub valid : n ≢ 0 → IsValidAnswer (answer_of n)
  pub next : n ≢ 0 → front_at lists me.0 (me.0.held + 1) ≡ pushed (front_at lists me.0 me.0.held) (answer_of n)
  pub sound : n ≢ 0 → IsSound (front_at lists me.0 (me.0.held + 1))
  pub count : n ≢ 0 → pushed_number (front_at lists me.0 (me.0.held + 1)) ≡ me.0.start.sums.n + (me.0.held + 1)

-- Announce stored the count before the end
abbrev pub told_view : View → View
told_view view = record view { announced = true; steps = view.steps + 1 }

pub record Announced (lists : List (List Answer)) (me : Holding) (n : ℕ) (after : Holding) : Type 0 where
  pub view : after ≡ (told_view me.0, me.1)

-- Release gave the front back
abbrev pub released_view : View → View
released_view view = record view { seat = record view.seat { holder = false }; steps = view.steps + 1 }

pub record Released (me : Holding) (n : ℕ) (after : Holding) : Type 0 where
  pub view : after ≡ (released_view me.0, rest me.1)

-- Look found no end, or one
abbrev pub looking_view : ℕ → View → View
looking_view n view = record view { steps = view.steps + 1; looked = note (view.steps + 1) 2 n }

abbrev pub seeing_view : ℕ → View → View
seeing_view n view = record view {
  seat = record view.seat { seen_end = Some (n - 1) };
  steps = view.steps + 1;
  looked = note (view.steps + 1) 2 n;
}

pub record Looked (lists : List (List Answer)) (me : Holding) (n : ℕ) (after : Holding) : Type 0 where
  pub none : n ≡ 0 → after ≡ (looking_view 0 me.0, me.1)
  pub told : n ≡ 0 → me.0.announced ≡ false
  pub end : n ≢ 0 → after ≡ (seeing_view n me.0, me.1)
  pub most : n ≤ 65537
  pub count : n ≢ 0 → n ≡ count_before_end me.0.start (answers_of lists me.0) + 1
  pub alone : n ≢ 0 → IsAlone me.0
      → is_going (front_at lists me.0 (next_number me.0.seat.last)).ending ≡ false

-- Split: what stays with the pass, and what the new one has
abbrev pub parent_view : View → View
parent_view view = record view { spare = view.spare - 1; steps = view.steps + 1 }

abbrev pub child_view : View → View
child_view view = record {
  seat = child_of view.seat;
  held = 0;
  spare = 0;
  merged = 1;
  points = 0;
  which = view.which;
  start = view.start;
  announced = false;
  steps = 0;
  tried = no_note;
  glanced = no_note;
  looked = no_note;
}

-- Join: what the pass knows after, and what is left of the other
abbrev pub joined_view : View → View → View
joined_view view other = record view {
  seat = joined_of view.seat other.seat;
  spare = view.spare + other.spare;
  merged = view.merged + other.merged;
  points = view.points + other.points;
  steps = view.steps + 1;
}

-- a front that says nothing
abbrev pub no_front : Front
no_front = record {
  total = 0;
  test = record { min = 0; z = 0; error = 0 };
  sums = record { n = 0; s1 = 0; s2 = 0 };
  ending = Going;
}

abbrev pub spent_view : View
spent_view = record {
  seat = unmade;
  held = 0;
  spare = 0;
  merged = 0;
  points = 0;
  which = 0;
  start = no_front;
  announced = false;
  steps = 0;
  tried = no_note;
  glanced = no_note;
  looked = no_note;
}
