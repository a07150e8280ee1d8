-- The cycles in which something happens to an instruction.
use Rattle.std.specs.Prelude.{ℕ, ◌-◌, ◌^◌, ◌==◌, ◌||◌, nat_le, min, if◌then◌else◌, Bool, Option, None, Some, List, [], ◌∷◌}
use Rattle.std.specs.List.{list_any}
use Rattle.ruu_timing.specs.declared.flight.Cycles.{Cycles}
use Rattle.ruu_timing.specs.declared.timed.Timed.{Timed}

-- an instruction is fetched, dispatched, issued or retired in a cycle
abbrev pub happens_to : ℕ → Timed → Bool
happens_to t x = (x.fetch == t) || ((x.dispatch == t) || ((x.issue == t) || (x.retirement == t)))

-- one of the instructions is
abbrev pub happens : List Timed → ℕ → Bool
happens xs t = list_any (λ x. happens_to t x) xs

-- a time that has not yet come, or more than all times
abbrev pub not_before : ℕ → ℕ → ℕ
not_before from time = if nat_le from time then time else 2 ^ 32 - 1

-- the next time of an instruction
abbrev pub next_of : ℕ → Cycles → ℕ
next_of from c =
    min (min (not_before from c.fetch) (not_before from c.dispatch))
    (min (not_before from c.issue) (not_before from c.retirement))

-- of one that may be there
abbrev pub next_in : ℕ → Option Cycles → ℕ
next_in from None = 2 ^ 32 - 1
next_in from (Some c) = next_of from c

-- and of several
abbrev pub least_next : ℕ → List Cycles → ℕ
least_next from [] = 2 ^ 32 - 1
least_next from (c ∷ cs) = min (next_of from c) (least_next from cs)
