-- What a crew makes of a whole list of answers.
use Rattle.std.specs.Prelude.{◌≡◌, ◌+◌, ◌*◌, ◌/◌, ◌≤◌, ℕ, List, length}
use Rattle.confidence.specs.declared.answer.Answer.{Answer}
use Rattle.confidence.specs.declared.verdict.Test.{Test}
use Rattle.ordered_fold.specs.Front.{front_of}
use Rattle.ordered_fold.specs.Batch.{pushed_number}
use Rattle.workers.specs.declared.tally.Tally.{Tally}

-- the least multiple of a batch's size that isn't less
abbrev pub in_batches : ℕ → ℕ
in_batches n = (n + 127) / 128 * 128

-- the fold of the list in order, up to its end; each answer that it took in was simulated, those of the
-- batch in which it ended may have been, and one worker simulated no other
pub record IsTally (test : Test) (answers : List Answer) (workers : ℕ) (tally : Tally) : Type 0 where
  pub ending : tally.ending ≡ (front_of (length answers) test answers).ending
  pub sums : tally.sums ≡ (front_of (length answers) test answers).sums
  pub least : pushed_number (front_of (length answers) test answers) ≤ tally.windows
  pub most : tally.windows ≤ length answers
  pub near : tally.windows ≤ in_batches (pushed_number (front_of (length answers) test answers))
  pub alone : workers ≡ 1 → tally.windows ≡ pushed_number (front_of (length answers) test answers)
