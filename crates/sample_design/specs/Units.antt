-- Which units of a run are sampled, and the window of each.
use Rattle.std.specs.Prelude.{◌+◌, ◌-◌, ◌*◌, ◌≤◌, ◌==◌, ℕ, nat_le, nat_lt, if◌then◌else◌, Result, Ok, Err, count_by}
use Rattle.std.specs.List.{range_with_len}
use Rattle.sample_design.specs.declared.design.Design.{Design}
use Rattle.sample_design.specs.declared.units.UnitsFault.{UnitsFault}
use Rattle.sample_design.specs.declared.units.UnitsFault.TheVariants.{NoUnits, TooMany}
use Rattle.sample_design.specs.declared.units.Window.{Window}

-- the number of the p-th unit that is sampled
abbrev pub sampled_unit : Design → ℕ → ℕ
sampled_unit design p = design.offset + design.every * p

-- where the unit ends
abbrev pub end_of : Design → ℕ → ℕ
end_of design unit = (unit + 1) * design.unit

-- the unit ends at most at the run's end
abbrev pub EndsWithin : Design → ℕ → ℕ → Type 0
EndsWithin design length unit = end_of design unit ≤ length

-- how many of the sampled units end at most at the run's end; they are fewer than its instructions
unfoldable pub unit_count : Design → ℕ → ℕ
unit_count design length =
    count_by (λ p. nat_le (end_of design (sampled_unit design p)) length) (range_with_len 0 length)

-- the number of units, from 1 to 65,536
abbrev pub judged : ℕ → ℕ → Result ℕ UnitsFault
judged length count =
    if count == 0 then Err (NoUnits length)
    else (if nat_lt 65536 count then Err (TooMany count) else Ok count)

unfoldable pub units_of : Design → ℕ → Result ℕ UnitsFault
units_of design length = judged length (unit_count design length)

-- it starts up to `warm` instructions before the unit, and ends with it
abbrev pub window_of : Design → ℕ → Window
window_of design unit =
    let first = unit * design.unit in
    let start = first - design.warm in
    record { start = start; skip = first - start; len = first - start + design.unit }
