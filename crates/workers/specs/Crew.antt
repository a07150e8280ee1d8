-- What a crew keeps, and what a batch makes of it.
use Rattle.std.specs.Prelude.{◌≡◌, ◌+◌, ◌<◌, ◌≤◌, ℕ, None, List, length}
use Rattle.std.specs.List.{All}
use Rattle.confidence.specs.declared.answer.Answer.{Answer}
use Rattle.ordered_fold.specs.declared.ending.Ending.TheVariants.{Going}
use Rattle.ordered_fold.specs.declared.front.Front.{Front}
use Rattle.ordered_fold.specs.Front.{IsSound}
use Rattle.ordered_fold.specs.Batch.{fold_from, pushed_number, folded_number}
use Rattle.claim_table.specs.declared.rule.View.{View}
use Rattle.claim_table.specs.Shown.{BoardShown, PassShown, IsPassOf}
use Rattle.workers.specs.Worker.{IsNew, IsOver}

-- all simulators are set up alike
abbrev pub Alike : {S U : Type 0} → (S → U) → U → List S → Type 0
Alike setup is simulators = All (λ simulator. setup simulator ≡ is) simulators

-- what holds of every crew: its fold so far, the windows that it simulated, and its workers
pub record IsCrew (front : Front) (windows : ℕ) (workers : ℕ) : Type 0 where
  pub sound : IsSound front
  pub some : 0 < workers
  pub most : workers ≤ 64
  pub within : windows ≤ front.total
  pub going : front.ending ≡ Going → windows ≤ front.sums.n

-- a batch of these answers was folded: as many windows as it took, and at most one for each answer
pub record IsBatchRun (answers : List Answer) (workers : ℕ) (old : Front) (new : Front) (windows : ℕ) : Type 0 where
  pub front : new ≡ fold_from old answers (length answers)
  pub sound : IsSound new
  pub total : new.total ≡ old.total
  pub going : new.ending ≡ Going → new.sums.n ≡ old.sums.n + length answers
  pub some : old.sums.n < pushed_number new
  pub least : folded_number old new ≤ windows
  pub most : windows ≤ length answers
  pub alone : workers ≡ 1 → windows ≡ folded_number old new

-- how many passes it is, and may become
abbrev pub share : View → ℕ
share view = view.spare + view.merged

-- the pass of a worker that didn't start
pub record IsFresh (board : BoardShown) (pass : PassShown) : Type 0 where
  pub own : IsPassOf board pass
  pub hand : pass.view.seat.hand ≡ None
  pub new : IsNew pass.view
  pub points : pass.view.points ≡ 0

-- the pass of a worker that stopped, after it answered so many points
pub record IsSpent (board : BoardShown) (answers : List Answer) (pass : PassShown) (answered : ℕ) : Type 0 where
  pub own : IsPassOf board pass
  pub hand : pass.view.seat.hand ≡ None
  pub over : IsOver pass.view
  pub points : pass.view.points ≡ answered
  pub few : answered ≤ length answers
  pub alone : share pass.view ≡ 65
      → answered ≡ folded_number board.start (fold_from board.start answers (length answers))
