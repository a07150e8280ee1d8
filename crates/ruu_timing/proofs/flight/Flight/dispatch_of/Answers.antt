use Rattle.ruu_timing.proofs.FlightLemmas.{dispatch_is}
use Rattle.ruu_timing.proofs.flight.Flight.dispatch_of.Goals as goal

pub returns-clause-value : goal.returns-clause-value
returns-clause-value c = λ earlier kept.
    rw (
      c.max-4.ensures,
      c.max-3.ensures,
      c.max-2.ensures,
      c.max-in_order.ensures,
      c.max.ensures,
      c.time_back-width.ensures.value,
      c.time_back-unit.ensures.value,
      c.access_retirement-memory.ensures.value,
      c.call_retirement-call.ensures.value,
    )
    (dispatch_is c.args.w.now earlier c.args.self.now c.args.mark.now c.args.fetch c.requires.widths kept)
