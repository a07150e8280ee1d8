use Rattle.std.proofs.Common.{◌≡◌, List, length, take, refl, subst, arith}
use Rattle.hierarchy.specs.declared.marked.Marked.{Marked}
use Rattle.ruu_timing.specs.declared.timed.Timed.{Timed}
use Rattle.ruu_timing.specs.Flight.{IsKept}
use Rattle.ruu_timing.specs.Times.{times}
use Rattle.ruu_timing.proofs.TimesLemmas.{few_times, marked_at, times_more}
use Rattle.ruu_timing.proofs.flight.Flight.run.Goals as goal

pub push-requires-clause-mark : goal.push-requires-clause-mark
push-requires-clause-mark g c =
    marked_at (g.T.Trace.items c.args.trace.now) c.loop-i.i c.at.result c.at.ensures c.requires.marks

pub push-requires-clause-flight : goal.push-requires-clause-flight
push-requires-clause-flight g c = c.loop-i.invariant.flight

pub loop-i-preserved : goal.loop-i-preserved
loop-i-preserved g c =
    let items : List Marked = g.T.Trace.items c.args.trace.now in
    let earlier : List Timed = times c.args.w.now (take c.loop-i.i items) in
    let count : length earlier ≡ c.loop-i.i = few_times c.args.w.now items c.loop-i.i earlier (omega (arith, c.requires.places.1)) refl in
    subst (λ l. IsKept c.args.w.now l c.push.new.self) (times_more c.args.w.now items c.loop-i.i c.at.result c.at.ensures)
    (c.push.ensures.kept earlier c.loop-i.invariant (omega (arith, count, c.requires.few, c.requires.places.1)))

pub returns : goal.returns
returns g c =
    let items : List Marked = g.T.Trace.items c.args.trace.now in
    let end : c.loop-i.i ≡ c.args.to = omega arith in
    subst (λ n. IsKept c.args.w.now (times c.args.w.now (take n items)) c.loop-i.self) end c.loop-i.invariant
