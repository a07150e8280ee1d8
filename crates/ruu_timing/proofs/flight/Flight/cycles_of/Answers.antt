use Rattle.std.proofs.Common.{◌+◌, ap}
use Rattle.ruu_timing.proofs.FlightLemmas.{timed_is, unit_waits}
use Rattle.ruu_timing.proofs.flight.Flight.cycles_of.Goals as goal

pub returns-clause-value : goal.returns-clause-value
returns-clause-value c = λ earlier kept.
    let source = c.source_of-source.ensures.value earlier kept
    (rw (c.dispatch_of-dispatch.ensures.value earlier kept) (unit_waits c.args.w.now earlier c.args.mark.now c.fetch_of-fetch.result)) in
    timed_is c.args.w.now earlier c.args.self.now c.args.mark.now (record {
      fetch = c.fetch_of-fetch.result;
      dispatch = c.dispatch_of-dispatch.result;
      issue = c.first_room-issue.result;
      completion = c.first_room-issue.result + c.elapse_of.result;
      retirement = c.retirement_of.result;
    }) c.source_of-source.result c.ready_of-ready.result c.requires.widths kept (record {
      fetch = c.fetch_of-fetch.ensures.value earlier kept;
      dispatch = c.dispatch_of-dispatch.ensures.value earlier kept;
      source = source;
      ready = c.ready_of-ready.ensures.value earlier kept source;
      issue = rw c.deref.ensures.value at c.first_room-issue.ensures.value;
      completion = ap (λ n. c.first_room-issue.result + n) c.elapse_of.ensures.value;
      retirement = c.retirement_of.ensures.value earlier kept;
    })
