-- What is known of a trace ahead of the cycle that a processor has come to.
use Rattle.std.specs.Prelude.{◌≡◌, ◌≤◌, ℕ, ◌-◌, nat_lt, Option, None, Some, List, [], length, map, take}
use Rattle.std.specs.List.{filter}
use Rattle.circular_buffer.specs.Buffer.{buffer}
use Rattle.hierarchy.specs.declared.marked.Marked.{Marked}
use Rattle.hierarchy.specs.declared.widths.Widths.{Widths}
use Rattle.ruu_timing.specs.declared.flight.Cycles.{Cycles}
use Rattle.ruu_timing.specs.declared.lookahead.Lookahead.{Lookahead}
use Rattle.ruu_timing.specs.declared.progress.Progress.{Progress}
use Rattle.ruu_timing.specs.declared.timed.Timed.{Timed}
use Rattle.ruu_timing.specs.Flight.{IsKept}
use Rattle.ruu_timing.specs.Times.{times}

abbrev pub cycles_in : Timed → Cycles
cycles_in x = record {
  fetch = x.fetch;
  dispatch = x.dispatch;
  issue = x.issue;
  completion = x.completion;
  retirement = x.retirement;
}

-- the instructions of the trace that are timed so far, the latest first
abbrev pub timed_in : Widths → List Marked → Lookahead → List Timed
timed_in w items ahead = times w (take ahead.flight.count items)

-- no instruction of any trace is timed
pub record IsFresh (w : Widths) (ahead : Lookahead) : Type 0 where
  pub kept : IsKept w [] ahead.flight
  pub latest : ahead.latest ≡ buffer [] 289

-- so many instructions of the trace are timed, and the times of the latest are kept
pub record IsAhead (w : Widths) (items : List Marked) (ahead : Lookahead) : Type 0 where
  pub within : ahead.flight.count ≤ length items
  pub kept : IsKept w (timed_in w items ahead) ahead.flight
  pub latest : ahead.latest ≡ buffer (take 289 (map cycles_in (timed_in w items ahead))) 289

abbrev pub fetch_in : Option Cycles → ℕ
fetch_in None = 0
fetch_in (Some c) = c.fetch

-- all that are timed, but for those of the latest whose time is later
abbrev pub progress_in : Lookahead → ℕ → Progress
progress_in ahead t = record {
  fetched = ahead.flight.count - length (filter (λ c. nat_lt t c.fetch) ahead.latest.items);
  dispatched = ahead.flight.count - length (filter (λ c. nat_lt t c.dispatch) ahead.latest.items);
  issued = ahead.flight.count - length (filter (λ c. nat_lt t c.issue) ahead.latest.items);
  retired = ahead.flight.count - length (filter (λ c. nat_lt t c.retirement) ahead.latest.items);
}
