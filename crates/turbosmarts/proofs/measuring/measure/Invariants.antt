use Rattle.std.proofs.Common.{◌≡◌, ◌≤◌, ◌*◌, ℕ, min}
use Rattle.turbosmarts.specs.Measuring.{HasCome, IsMeasuring}
use Rattle.turbosmarts.specs.Processor.{events_to}
use Rattle.turbosmarts.proofs.measuring.measure.Given as goal

abbrev pub invariant-loop-unit : goal.invariant-loop-unit
invariant-loop-unit g l = record {
  begun : ℕ;
  way : HasCome (λ n. g.P.Processor.shown l.processor begun (events_to l.fn.whole.state n)) l.fn.whole
      (min (l.unit * l.design.unit) l.design.budget) l.whole;
  units : l.unit * l.design.unit ≤ l.design.budget
      → IsMeasuring (g.P.Processor.config l.fn.processor) l.fn.whole.state l.design l.unit l.meter.next l.meter.cycles.items;
  size_is : l.size ≡ l.design.unit;
  config : g.P.Processor.config l.processor ≡ g.P.Processor.config l.fn.processor;
  longest : g.P.Processor.longest l.processor ≡ g.P.Processor.longest l.fn.processor;
}
