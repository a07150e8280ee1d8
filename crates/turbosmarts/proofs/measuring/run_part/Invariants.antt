use Rattle.std.proofs.Common.{◌≡◌, ◌+◌, ℕ, None}
use Rattle.rv_machine.specs.Machine.{Machine}
use Rattle.turbosmarts.specs.Measuring.{HasCome}
use Rattle.turbosmarts.specs.Processor.{events_to}
use Rattle.turbosmarts.proofs.measuring.run_part.Given as goal

abbrev pub invariant-loop-done : goal.invariant-loop-done
invariant-loop-done g l = record {
  running : l.whole.state.exit ≡ None;
  config : g.P.Processor.config l.processor ≡ g.P.Processor.config l.fn.processor;
  longest : g.P.Processor.longest l.processor ≡ g.P.Processor.longest l.fn.processor;
  way : (start : Machine) (at begun : ℕ)
      → HasCome (λ n. g.P.Processor.shown l.fn.processor begun (events_to start.state n)) start at l.fn.whole
      → HasCome (λ n. g.P.Processor.shown l.processor begun (events_to start.state n)) start (at + l.done) l.whole;
}
