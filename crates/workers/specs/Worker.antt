-- What a worker leaves of its pass, and how far a worker alone gets.
use Rattle.std.specs.Prelude.{◌≡◌, ◌≢◌, ◌⊎◌, ◌+◌, ◌-◌, ◌<◌, ◌≤◌, ℕ, true, false, None, List, length}
use Rattle.confidence.specs.declared.answer.Answer.{Answer}
use Rattle.ordered_fold.specs.Front.{is_going}
use Rattle.claim_table.specs.declared.rule.View.{View}
use Rattle.claim_table.specs.Board.{IsAlone}
use Rattle.claim_table.specs.Steps.{answers_of, front_at, next_number}

-- a pass whose worker stops: it drew a number beyond the last, or saw the end
abbrev pub IsOver : View → Type 0
IsOver view = (view.seat.past ≡ true) ⊎ (view.seat.seen_end ≢ None)

-- a pass that did nothing yet
pub record IsNew (view : View) : Type 0 where
  pub last : view.seat.last ≡ None
  pub past : view.seat.past ≡ false
  pub unseen : view.seat.seen_end ≡ None
  pub untold : view.announced ≡ false

-- what no worker changes: its hand is empty again, and it neither split nor joined
pub record SameShare (old new : View) : Type 0 where
  pub hand : new.seat.hand ≡ None
  pub spare : new.spare ≡ old.spare
  pub merged : new.merged ≡ old.merged

-- the fold goes on after the first m answers
abbrev pub GoesOnAt : List (List Answer) → View → ℕ → Type 0
GoesOnAt lists view m = is_going (front_at lists view m).ending ≡ true

-- the only pass left drew and folded the first n answers, the fold going on before the last of them
pub record HasFolded (lists : List (List Answer)) (view : View) (n : ℕ) : Type 0 where
  pub next : next_number view.seat.last ≡ n
  pub within : n ≤ length (answers_of lists view)
  pub fresh : (view.seat.past ≡ false) × (view.seat.seen_end ≡ None)
  pub before : 0 < n → GoesOnAt lists view (n - 1)
  pub now : view.announced ≡ false → GoesOnAt lists view n

-- the fold of the whole list has taken in n answers
pub record EndsAfter (lists : List (List Answer)) (view : View) (n : ℕ) : Type 0 where
  pub some : 0 < n
  pub before : GoesOnAt lists view (n - 1)
  pub over : (is_going (front_at lists view n).ending ≡ false) ⊎ (n ≡ length (answers_of lists view))

-- a turn that answered a point
pub record Turned (lists : List (List Answer)) (old new : View) : Type 0 where
  pub share : SameShare old new
  pub points : new.points ≡ old.points + 1
  pub within : next_number new.seat.last ≤ length (answers_of lists old)
  pub later : next_number old.seat.last < next_number new.seat.last
  pub alone : IsAlone old → (n : ℕ) → HasFolded lists old n → HasFolded lists new (n + 1)

-- a turn that answered none, which is the last
pub record Stopped (lists : List (List Answer)) (old new : View) : Type 0 where
  pub share : SameShare old new
  pub over : IsOver new
  pub points : new.points ≡ old.points
  pub alone : IsAlone old → (n : ℕ) → HasFolded lists old n → EndsAfter lists old n
