-- How far a processor has come with the instructions of a trace.
use Rattle.std.specs.Prelude.{ℕ, ◌+◌, nat_lt, Option, None, Some, List, length}
use Rattle.std.specs.List.{filter}
use Rattle.ruu_timing.specs.declared.progress.Progress.{Progress}
use Rattle.ruu_timing.specs.declared.timed.Timed.{Timed}

-- the cycle behind the one that it has come to, or the first
abbrev pub behind : Option ℕ → ℕ
behind None = 0
behind (Some now) = now + 1

-- of how many instructions a time comes before a cycle
abbrev pub count_before : (Timed → ℕ) → ℕ → List Timed → ℕ
count_before time past xs = length (filter (λ x. nat_lt (time x) past) xs)

abbrev pub progress_before : List Timed → ℕ → Progress
progress_before xs past = record {
  fetched = count_before (λ x. x.fetch) past xs;
  dispatched = count_before (λ x. x.dispatch) past xs;
  issued = count_before (λ x. x.issue) past xs;
  retired = count_before (λ x. x.retirement) past xs;
}

abbrev pub no_progress : Progress
no_progress = record { fetched = 0; dispatched = 0; issued = 0; retired = 0 }

-- all four numbers
abbrev pub sum_of : Progress → ℕ
sum_of p = p.fetched + p.dispatched + p.issued + p.retired
