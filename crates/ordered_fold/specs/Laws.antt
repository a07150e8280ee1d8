-- How the fold and the first answer that ends a list belong together.
use Rattle.std.specs.Prelude.{◌≡◌, ◌<◌, ◌≤◌, ◌+◌, ℕ, false, Some, List, ◌++◌, length}
use Rattle.smarts_base.specs.Least.{IsLeastIfAny}
use Rattle.confidence.specs.declared.answer.Answer.{Answer}
use Rattle.confidence.specs.declared.verdict.Test.{Test}
use Rattle.ordered_fold.specs.Ending.{ends_at, end_of, ending_of, sums_at_end}
use Rattle.ordered_fold.specs.Front.{front_of, front_after, is_going, IsFront}

-- a list ends at the least number whose answer ends it, and where it doesn't end there is none
abbrev pub EndIsLeast : Type 0
EndIsLeast =
    (test : Test) (answers : List Answer)
    → IsLeastIfAny (length answers) (ends_at test answers) (end_of test answers)

-- the fold of answers, no more than the total, ends where their list ends
abbrev pub FoldEndsThere : Type 0
FoldEndsThere =
    (total : ℕ) (test : Test) (answers : List Answer)
    → 0 < total → length answers ≤ total → IsFront (front_of total test answers) answers

-- so the fold of a whole list has its ending, and its sums up to there
abbrev pub WholeFoldEnds : Type 0
WholeFoldEnds =
    (test : Test) (answers : List Answer) → 0 < length answers
    → ((front_of (length answers) test answers).ending ≡ ending_of test answers)
    × ((front_of (length answers) test answers).sums ≡ sums_at_end test answers)

-- a fold that has ended doesn't change any more
abbrev pub EndedStays : Type 0
EndedStays =
    (total : ℕ) (test : Test) (before after : List Answer)
    → is_going (front_of total test before).ending ≡ false
    → front_of total test (before ++ after) ≡ front_of total test before

-- so from the answer that ends a list on, the fold of its answers stays as it is
abbrev pub StaysFromEnd : Type 0
StaysFromEnd =
    (test : Test) (answers : List Answer) (k m : ℕ)
    → end_of test answers ≡ Some k → k < m
    → front_after test answers m ≡ front_after test answers (k + 1)
