-- The fold of a batch of answers, from a front that is going.
use Rattle.std.specs.Prelude.{◌≡◌, ◌+◌, ◌-◌, ◌^◌, ◌<◌, ◌≤◌, ℕ, List, length, take, fold}
use Rattle.std.specs.List.{All}
use Rattle.confidence.specs.Sums.{IsCycles}
use Rattle.confidence.specs.declared.answer.Answer.{Answer}
use Rattle.confidence.specs.declared.answer.Answer.TheVariants.{Cycles, Fault}
use Rattle.ordered_fold.specs.declared.ending.Ending.{Ending}
use Rattle.ordered_fold.specs.declared.ending.Ending.TheVariants.{Going, Stopped, Faulted, Exhausted}
use Rattle.ordered_fold.specs.declared.front.Front.{Front}
use Rattle.ordered_fold.specs.Front.{folded, IsSound}

-- the front after the first m answers
unfoldable pub fold_from : Front → List Answer → ℕ → Front
fold_from start answers m = fold folded start (take m answers)

-- a fault is taken in, but isn't counted
abbrev pub uncounted : Ending → ℕ
uncounted Going = 0
uncounted (Stopped count) = 0
uncounted (Faulted point fault) = 1
uncounted Exhausted = 0

-- how many answers a front took in, a fault among them
abbrev pub pushed_number : Front → ℕ
pushed_number front = front.sums.n + uncounted front.ending

-- how many of them are of the batch
abbrev pub folded_number : Front → Front → ℕ
folded_number start front = pushed_number front - start.sums.n

-- how many answers are counted when the batch is folded, those before the batch included
abbrev pub count_before_end : Front → List Answer → ℕ
count_before_end start answers = (fold_from start answers (length answers)).sums.n

-- an answer that a cell can hold
abbrev pub IsHeldAnswer : Answer → Type 0
IsHeldAnswer (Cycles cycles) = IsCycles cycles
IsHeldAnswer (Fault fault) = fault.pc < 2 ^ 32

-- answers that may be folded from a front on
pub record IsBatch (start : Front) (answers : List Answer) : Type 0 where
  pub sound : IsSound start
  pub going : start.ending ≡ Going
  pub some : 0 < length answers
  pub room : start.sums.n + length answers ≤ start.total
  pub held : All IsHeldAnswer answers
