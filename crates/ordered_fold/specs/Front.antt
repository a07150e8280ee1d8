-- The fold of answers, and what it tells of the list of answers that were taken in.
use Rattle.std.specs.Prelude.{◌≡◌, ◌<◌, ◌≤◌, ◌==◌, ℕ, Bool, true, false, if◌then◌else◌, Option, Some, None, List, [], length, take, fold, slice_get}
use Rattle.confidence.specs.Sums.{sums_of, with_cycles, IsBounded}
use Rattle.confidence.specs.Confidence.{is_confident, IsInRange}
use Rattle.confidence.specs.declared.answer.Answer.{Answer}
use Rattle.confidence.specs.declared.answer.Answer.TheVariants.{Cycles, Fault}
use Rattle.confidence.specs.declared.sums.Sums.{Sums}
use Rattle.confidence.specs.declared.verdict.Test.{Test}
use Rattle.ordered_fold.specs.declared.ending.Ending.{Ending}
use Rattle.ordered_fold.specs.declared.ending.Ending.TheVariants.{Going, Stopped, Faulted, Exhausted}
use Rattle.ordered_fold.specs.declared.front.Front.{Front}
use Rattle.ordered_fold.specs.Ending.{end_of, ended_by, sums_at_end}

abbrev pub is_going : Ending → Bool
is_going Going = true
is_going (Stopped count) = false
is_going (Faulted point fault) = false
is_going Exhausted = false

-- nothing is taken in yet
abbrev pub first_front : ℕ → Test → Front
first_front total test =
    record { total = total; test = test; sums = sums_of []; ending = Going }

-- a sample that meets the test is stopped, also where no answer is left
abbrev pub ending_with : Front → Sums → Ending
ending_with front sums =
    if is_confident sums front.test then Stopped sums.n
    else (if sums.n == front.total then Exhausted else Going)

-- with one more answer
abbrev pub pushed : Front → Answer → Front
pushed front (Cycles cycles) =
    let sums = with_cycles front.sums cycles in
    record front { sums = sums; ending = ending_with front sums }
pushed front (Fault fault) = record front { ending = Faulted front.sums.n fault }

-- nothing is taken in any more once the fold has ended
abbrev pub folded : Front → Answer → Front
folded front answer = if is_going front.ending then pushed front answer else front

-- the fold of these answers, of a total that may come
unfoldable pub front_of : ℕ → Test → List Answer → Front
front_of total test answers = fold folded (first_front total test) answers

-- the fold of the first m answers of a whole list
unfoldable pub front_after : Test → List Answer → ℕ → Front
front_after test answers m = front_of (length answers) test (take m answers)

-- how a list ends that may go on up to the total
abbrev pub ending_so_far : ℕ → List Answer → Option ℕ → Ending
ending_so_far total answers (Some k) = ended_by (slice_get answers k) k
ending_so_far total answers None = if length answers == total then Exhausted else Going

-- the front ended where the first of the answers stands that ends their list, and has the sums up
-- to there
pub record IsFront (front : Front) (answers : List Answer) : Type 0 where
  pub ending : front.ending ≡ ending_so_far front.total answers (end_of front.test answers)
  pub sums : front.sums ≡ sums_at_end front.test answers
  pub count : front.ending ≡ Going → front.sums.n ≡ length answers

-- what every front keeps
pub record IsSound (front : Front) : Type 0 where
  pub total : front.total ≤ 65536
  pub test : IsInRange front.test
  pub sums : IsBounded front.sums
  pub room : front.ending ≡ Going → front.sums.n < front.total
