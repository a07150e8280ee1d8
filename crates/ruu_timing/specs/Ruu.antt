-- What contracts see of a processor, and what it knows of a trace that it goes through by turns.
use Rattle.std.specs.Prelude.{◌≡◌, ◌⊎◌, ◌<◌, ◌≤◌, ℕ, ◌+◌, ◌^◌, Option, None, Some, List, length, drop}
use Rattle.std.specs.List.{AllByRecursion}
use Rattle.hierarchy.specs.declared.marked.Marked.{Marked}
use Rattle.hierarchy.specs.declared.widths.Widths.{Widths}
use Rattle.ruu_timing.specs.declared.lookahead.Lookahead.{Lookahead}
use Rattle.ruu_timing.specs.declared.progress.Progress.{Progress}
use Rattle.ruu_timing.specs.Events.{happens}
use Rattle.ruu_timing.specs.Laws.{IsFirst}
use Rattle.ruu_timing.specs.Lookahead.{IsAhead, timed_in}
use Rattle.ruu_timing.specs.Progress.{behind, no_progress, progress_before}
use Rattle.ruu_timing.specs.Times.{back, time_of, times}
use Rattle.ruu_timing.specs.declared.timed.Timed.{Timed}

pub record RuuShown : Type 0 where
  pub widths : Widths
  pub cycle : Option ℕ
  pub progress : Progress
  pub ahead : Lookahead

-- the processor goes through the trace: all that happens up to its cycle is counted, and what is timed reaches further
pub record IsUnderWay (items : List Marked) (ruu : RuuShown) : Type 0 where
  pub ahead : IsAhead ruu.widths items ruu.ahead
  pub reach : (ruu.ahead.flight.count ≡ length items)
      ⊎ (behind ruu.cycle ≤ time_of (λ x. x.fetch) (back (timed_in ruu.widths items ruu.ahead) 1))
  pub gone : AllByRecursion (λ x. x.retirement < behind ruu.cycle) (drop 289 (timed_in ruu.widths items ruu.ahead))
  pub progress : ruu.progress ≡ progress_before (times ruu.widths items) (behind ruu.cycle)
  pub small : behind ruu.cycle ≤ 2 ^ 29 + 1

-- it has come to no cycle of any trace
pub record HasBegun (ruu : RuuShown) : Type 0 where
  pub cycle : ruu.cycle ≡ None
  pub progress : ruu.progress ≡ no_progress
  pub any : (items : List Marked) → IsUnderWay items ruu

-- a turn goes to the first cycle behind the one before in which something happens to an instruction
abbrev pub IsNextTurn : List Timed → Option ℕ → Option ℕ → Type 0
IsNextTurn xs old None = ⊥
IsNextTurn xs old (Some cycle) = IsFirst (happens xs) (behind old) cycle
