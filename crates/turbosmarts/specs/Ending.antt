-- How a call of the program ends, and what it has read, written and told by then.
use Rattle.std.specs.Prelude.{◌≡◌, ◌<◌, ℕ, List, length, take, Option, Some, None, IfSome}
use Rattle.smarts_io.specs.Bytes.{Gives, Takes}
use Rattle.smarts_io.specs.Causes.{Rose}
use Rattle.smarts_text.specs.declared.status.Status.{Status}
use Rattle.smarts_text.specs.declared.status.Status.TheVariants as statuses
use Rattle.smarts_text.specs.Texts.{exit_line, fault_line}
use Rattle.turbosmarts.specs.declared.ending.Exit.{Exit}
use Rattle.turbosmarts.specs.Answer.{Answer}

-- the end follows from the words and the input, and from nothing outside
abbrev pub IsDetermined : Status → Type 0
IsDetermined statuses.ReadFault = ⊥
IsDetermined (statuses.WriteFault taken) = ⊥
IsDetermined statuses.NoMemory = ⊥
IsDetermined _ = Unit {0}

-- there was an answer, even if a write of it failed: the end is no read fault and no want of memory
abbrev pub IsAnswered : Status → Type 0
IsAnswered statuses.ReadFault = ⊥
IsAnswered statuses.NoMemory = ⊥
IsAnswered _ = Unit {0}

abbrev pub IsBadWords : Status → Type 0
IsBadWords (statuses.BadWords fault) = Unit {0}
IsBadWords _ = ⊥

abbrev pub IsFault : Status → Type 0
IsFault statuses.Done = ⊥
IsFault _ = Unit {0}

-- a fault that came before anything was written
abbrev pub IsUnwritten : Status → Type 0
IsUnwritten statuses.Done = ⊥
IsUnwritten (statuses.WriteFault taken) = ⊥
IsUnwritten _ = Unit {0}

-- what is told of an end: how the program that was run exited, or the fault
abbrev pub end_line : Status → Option Exit → List ℕ
end_line status (Some exit) = exit_line exit.code exit.length
end_line status None = fault_line status

-- what a source or a sink tells, and how often it has failed, before a call and after it
pub record Change : Type 0 where
  pub before : Option (List ℕ)
  pub after : Option (List ℕ)
  pub faults_before : ℕ
  pub faults_after : ℕ

-- The answer was given to the sink. Where the sink failed it has a front of the bytes.
pub record GivesAnswer (answer : Answer) (sink : Change) (result : Status) : Type 0 where
  pub status : IsDetermined result → result ≡ answer.status
  pub written : IsDetermined result → Takes sink.before answer.bytes sink.after
  pub write_done : (taken : ℕ) → result ≡ statuses.WriteFault taken → answer.status ≡ statuses.Done
  pub write_front : (taken : ℕ) → result ≡ statuses.WriteFault taken → Takes sink.before (take taken answer.bytes) sink.after
  pub write_short : (taken : ℕ) → result ≡ statuses.WriteFault taken → taken < length answer.bytes

-- There is an input whose answer was given: what the source told, where it told it. Of this input the call read
-- what the answer reads, and where it is done, it tells the answer's lines.
pub record HasAnswered (expected : List ℕ → Answer) (source sink : Change) (tells : List ℕ → Type 0) (result : Status) : Type 0 where
  pub input : List ℕ
  pub told : IfSome source.before (λ bytes. input ≡ bytes)
  pub read : Gives source.before (expected input).read source.after
  pub gives : GivesAnswer (expected input) sink result
  pub lines : result ≡ statuses.Done → tells (expected input).lines

-- How a call ends: with an answer, unless the source failed or memory wasn't found. Where the words ask for no
-- input, the source is as it was.
pub record EndsAs (expected : List ℕ → Answer) (asks : Type 0) (source sink : Change) (result : Status) (told : List ℕ) : Type 0 where
  pub answered : IsAnswered result → HasAnswered expected source sink (λ lines. told ≡ lines) result
  pub read_asked : result ≡ statuses.ReadFault → asks
  pub read_cause : result ≡ statuses.ReadFault → Rose source.faults_before source.faults_after
  pub write_cause : (taken : ℕ) → result ≡ statuses.WriteFault taken → Rose sink.faults_before sink.faults_after
  pub unwritten : IsUnwritten result → sink.after ≡ sink.before
  pub unread : (asks → ⊥) → source.after ≡ source.before
  pub unread_count : (asks → ⊥) → source.faults_after ≡ source.faults_before
  pub told_fault : IsFault result → told ≡ fault_line result
