use Rattle.std.proofs.Common.{sym, ◌∙◌}
use Rattle.ruu_timing.proofs.FlightLemmas.{source_is}
use Rattle.ruu_timing.proofs.flight.Flight.source_of.Goals as goal

pub returns-clause-value : goal.returns-clause-value
returns-clause-value c = λ earlier kept le.
    source_is c.args.w.now earlier c.args.self.now c.args.mark.now c.in-Some.word c.args.dispatch c.in_flight.result c.requires.widths kept
    (sym c.is_load.ensures ∙ c.if-not-is_load.false) c.in-Some.is le c.in_flight.ensures.value
