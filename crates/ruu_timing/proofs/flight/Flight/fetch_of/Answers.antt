use Rattle.ruu_timing.proofs.FlightLemmas.{fetch_is}
use Rattle.ruu_timing.proofs.flight.Flight.fetch_of.Goals as goal

pub returns-clause-value : goal.returns-clause-value
returns-clause-value c = λ earlier kept.
    rw (c.max-2.ensures, c.max.ensures, c.time_back-room.ensures.value, c.time_back-width.ensures.value)
    (fetch_is c.args.w.now earlier c.args.self.now c.args.mark.now c.requires.widths kept)
