use Rattle.ruu_timing.proofs.FlightLemmas.{ready_is}
use Rattle.ruu_timing.proofs.flight.Flight.ready_of.Goals as goal

pub returns-clause-value : goal.returns-clause-value
returns-clause-value c = λ earlier kept is.
    rw (
      c.max-3.ensures,
      c.max-2.ensures,
      c.max.ensures,
      c.written-first.ensures.value,
      c.written-second.ensures.value,
      c.unwrap_or-store.ensures,
    )
    (ready_is c.args.w.now earlier c.args.self.now c.args.mark.now c.args.dispatch c.args.source kept
    c.written-first.ensures.register c.written-second.ensures.register is)
