-- A pass over a run that collects its live-points.
use Rattle.std.specs.Prelude.{◌≡◌, ◌≤◌, ◌<◌, ◌%◌, ◌^◌, ℕ, None, List, [], ◌∷◌, ◌++◌, length, drop, All}
use Rattle.live_points.specs.declared.header.Records.{Records}
use Rattle.live_points.specs.declared.point.LivePoint.{LivePoint}
use Rattle.live_words.specs.LiveWords.{first_values}
use Rattle.live_words.specs.Windows.{WindowsValue, window_at}
use Rattle.live_words.specs.Words.{AreWords, memory_of}
use Rattle.rv_exec.specs.Machine.{State}
use Rattle.rv_exec.specs.Runs.{run_of}
use Rattle.warming.specs.declared.pass.Pass.{Pass}
use Rattle.warming.specs.Learning.{AreRecencies, IsNumbered, learnt_of}

-- windows after touches of words: as many have started and ended, and those that haven't ended have found these too
pub record IsNoted (old new : WindowsValue) (pairs : List (ℕ × ℕ)) : Type 0 where
  pub count : length new.windows ≡ length old.windows
  pub ended : new.ended ≡ old.ended
  pub found :
      (k : ℕ) (before : List (ℕ × ℕ)) → old.ended ≤ k → k < length old.windows → window_at old k ≡ memory_of before
      → window_at new k ≡ memory_of (before ++ pairs)

-- The pass has come so far in the run from this state. Each window that hasn't ended holds the first values that were
-- found since it began.
pub record IsPassing (start : State) (records : Records) (begins : ℕ → ℕ) (pass : Pass) : Type 0 where
  pub done : (run_of start pass.at).halt ≡ None
  pub state : pass.whole.state ≡ (run_of start pass.at).after
  pub learnt : pass.learner ≡ learnt_of records (run_of start pass.at).events
  pub began : (k : ℕ) → k < length pass.windows.windows → begins k ≤ pass.at
  pub found :
      (k : ℕ) → pass.windows.ended ≤ k → k < length pass.windows.windows
      → window_at pass.windows k ≡ first_values (drop (begins k) (run_of start pass.at).events)

-- it can go on until so many instructions are done: they are no more than those of a run that goes on
pub record CanRun (pass : Pass) (at : ℕ) : Type 0 where
  pub start : State
  pub records : Records
  pub begins : ℕ → ℕ
  pub passing : IsPassing start records begins pass
  pub length : ℕ
  pub whole : (run_of start length).halt ≡ None
  pub within : at ≤ length
  pub short : length ≤ 2 ^ 36

-- the live-point of a unit whose window starts here, but for the words
abbrev pub begun_point : ℕ → Pass → LivePoint
begun_point unit pass = record {
  unit = unit;
  pc = pass.whole.state.pc;
  regs = pass.whole.state.regs;
  brk = pass.whole.state.brk;
  words = [];
  places = pass.learner.places;
  images = pass.learner.images;
}

-- what the types of its fields tell of a point
pub record HasFields (point : LivePoint) : Type 0 where
  pub unit : point.unit < 2 ^ 32
  pub pc : (point.pc % 4 ≡ 0) × (point.pc < 2 ^ 32)
  pub zero : point.regs ≡ 0 ∷ drop 1 point.regs
  pub count : length point.regs ≡ 32
  pub regs : All (λ n. n < 2 ^ 32) point.regs
  pub words : AreWords point.words
  pub places : AreRecencies point.places
  pub images : All IsNumbered point.images
