-- The cycles of a trace by the machine of a configuration.
use Rattle.std.specs.Prelude.{ℕ, List, Bool, true, false}
use Rattle.hierarchy.specs.declared.config.Config.{Config}
use Rattle.hierarchy.specs.declared.marked.Marked.{Marked}
use Rattle.ruu_timing.specs.Scalar.{scalar_cycles}
use Rattle.ruu_timing.specs.Times.{cycles}

-- the cycles of a trace from instruction `skip` on: with a register update unit, or of one instruction after
-- the other
abbrev pub cycles_by : Bool → Config → List Marked → ℕ → ℕ
cycles_by true config marks skip = cycles config.widths marks skip
cycles_by false config marks skip = scalar_cycles config.latencies marks skip

abbrev pub cycles_of : Config → List Marked → ℕ → ℕ
cycles_of config marks skip = cycles_by config.ruu config marks skip
