-- What the processor that does one instruction after the other keeps of a run that it is shown.
use Rattle.std.specs.Prelude.{◌≡◌, ◌≤◌, ◌%◌, ◌^◌, ℕ, List, false, drop, length, sum_by}
use Rattle.hierarchy.specs.declared.config.Config.{Config}
use Rattle.ruu_timing.specs.Scalar.{scalar_latency}
use Rattle.rv_exec.specs.declared.event.Event.{Event}

-- the latencies of the instructions since the unit began
unfoldable pub latencies_since : Config → ℕ → List Event → ℕ
latencies_since config begun events =
    sum_by (λ e. scalar_latency config.latencies e.class) (drop begun events)

-- their sum, as a number of 32 bits
pub record HasSummed (config : Config) (cycles : ℕ) (begun : ℕ) (events : List Event) : Type 0 where
  pub kind : config.ruu ≡ false
  pub begins : begun ≤ length events
  pub sum : cycles ≡ latencies_since config begun events % 2 ^ 32
