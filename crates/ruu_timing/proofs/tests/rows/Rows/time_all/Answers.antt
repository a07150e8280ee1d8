use Rattle.std.proofs.Common.{◌≡◌, List, length, arith}
use Rattle.hierarchy.specs.declared.marked.Marked.{Marked}
use Rattle.ruu_timing.specs.Times.{timed_after}
use Rattle.ruu_timing.proofs.TimesLemmas.{times_more, marked_at, few_times, whole_times}
use Rattle.ruu_timing.proofs.tests.rows.Rows.time_all.Goals as goal

pub loop-i-init : goal.loop-i-init
unfolding timed_after
loop-i-init g c = c.clear.ensures

pub push-requires-clause-mark : goal.push-requires-clause-mark
push-requires-clause-mark g c =
    marked_at (g.T.Trace.items c.args.trace.now) c.loop-i.i c.at.result c.at.ensures c.requires.marks

pub push-requires-clause-room : goal.push-requires-clause-room
push-requires-clause-room g c =
    let items : List Marked = g.T.Trace.items c.args.trace.now in
    let count : length c.loop-i.self ≡ c.loop-i.i =
    few_times c.args.w.now items c.loop-i.i c.loop-i.self (omega arith) c.loop-i.invariant in
    omega (arith, c.requires.few)

pub loop-i-preserved : goal.loop-i-preserved
loop-i-preserved g c =
    rw (c.push.ensures, c.loop-i.invariant)
    (times_more c.args.w.now (g.T.Trace.items c.args.trace.now) c.loop-i.i c.at.result c.at.ensures)

pub returns : goal.returns
returns g c =
    whole_times c.args.w.now (g.T.Trace.items c.args.trace.now) c.loop-i.i c.loop-i.self (omega arith)
    c.loop-i.invariant
