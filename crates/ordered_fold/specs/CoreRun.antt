-- A machine with its answers.
use Rattle.std.specs.Prelude.{◌<◌, ◌^◌, List, length}
use Rattle.confidence.specs.declared.answer.Answer.{Answer}
use Rattle.ordered_fold.specs.declared.front.Front.{Front}
use Rattle.ordered_fold.specs.Batch.{IsBatch}
use Rattle.ordered_fold.specs.Machine.{Core}
use Rattle.ordered_fold.specs.Invariant.{IsCore}

-- the front that the fold goes on from, the answers of the batch, and how far the machine is
pub record CoreRun : Type 0 where
  pub start : Front
  pub answers : List Answer
  pub core : Core

pub record IsRun (run : CoreRun) : Type 0 where
  pub batch : IsBatch run.start run.answers
  pub core : IsCore run.start run.answers run.core
  pub seats : length run.core.seats < 2 ^ 32
