use Rattle.ruu_timing.proofs.FlightLemmas.{retirement_is}
use Rattle.ruu_timing.proofs.flight.Flight.retirement_of.Goals as goal

pub returns-clause-value : goal.returns-clause-value
returns-clause-value c = λ earlier kept.
    rw (c.max-2.ensures, c.max.ensures, c.time_back-width.ensures.value)
    (retirement_is c.args.w.now earlier c.args.self.now c.args.completion c.requires.widths kept)
