-- Where a list of answers ends, and how.
use Rattle.std.specs.Prelude.{◌+◌, ℕ, Bool, true, false, ◌||◌, Option, Some, None, List, length, take, filter_map, slice_get}
use Rattle.smarts_base.specs.Least.{least_below}
use Rattle.confidence.specs.Sums.{sums_of}
use Rattle.confidence.specs.Confidence.{is_confident}
use Rattle.confidence.specs.declared.answer.Answer.{Answer}
use Rattle.confidence.specs.declared.answer.Answer.TheVariants.{Cycles, Fault}
use Rattle.confidence.specs.declared.sums.Sums.{Sums}
use Rattle.confidence.specs.declared.verdict.Test.{Test}
use Rattle.ordered_fold.specs.declared.ending.Ending.{Ending}
use Rattle.ordered_fold.specs.declared.ending.Ending.TheVariants.{Stopped, Faulted, Exhausted}

-- the cycles of an answer that is no fault
abbrev pub measured : Answer → Option ℕ
measured (Cycles cycles) = Some cycles
measured (Fault fault) = None

-- the cycles of the answers that are no faults
unfoldable pub cycles_of : List Answer → List ℕ
cycles_of answers = filter_map measured answers

abbrev pub is_fault : Option Answer → Bool
is_fault None = false
is_fault (Some (Cycles cycles)) = false
is_fault (Some (Fault fault)) = true

-- the answer numbered k ends the list: it is a fault, or the test holds of the answers up to it
unfoldable pub ends_at : Test → List Answer → ℕ → Bool
ends_at test answers k =
    is_fault (slice_get answers k)
    || is_confident (sums_of (cycles_of (take (k + 1) answers))) test

-- the first answer that ends the list
unfoldable pub end_of : Test → List Answer → Option ℕ
end_of test answers = least_below (length answers) (ends_at test answers)

-- the answers up to the ending
abbrev pub up_to : List Answer → Option ℕ → List Answer
up_to answers (Some k) = take (k + 1) answers
up_to answers None = answers

-- how the answer numbered k ends the list
abbrev pub ended_by : Option Answer → ℕ → Ending
ended_by (Some (Fault fault)) k = Faulted k fault
ended_by (Some (Cycles cycles)) k = Stopped (k + 1)
ended_by None k = Stopped (k + 1)

-- how a list ends that no further answer follows
abbrev pub ending_at : List Answer → Option ℕ → Ending
ending_at answers (Some k) = ended_by (slice_get answers k) k
ending_at answers None = Exhausted

unfoldable pub ending_of : Test → List Answer → Ending
ending_of test answers = ending_at answers (end_of test answers)

-- the sums of the answers before the ending, and of the one that stops it
unfoldable pub sums_at_end : Test → List Answer → Sums
sums_at_end test answers = sums_of (cycles_of (up_to answers (end_of test answers)))
