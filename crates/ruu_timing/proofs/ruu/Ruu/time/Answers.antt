use Rattle.std.proofs.Common.{arith}
use Rattle.ruu_timing.specs.Times.{timed_after}
use Rattle.ruu_timing.proofs.KeptLemmas.{kept_cycles}
use Rattle.ruu_timing.proofs.TimesLemmas.{issue_first}
use Rattle.ruu_timing.proofs.ruu.Ruu.time.Goals as goal

pub run-requires-clause-kept : goal.run-requires-clause-kept
unfolding timed_after
run-requires-clause-kept g c = c.restart.ensures.kept

pub overflow_sub-flight : goal.overflow_sub-flight
overflow_sub-flight g c =
    (kept_cycles c.self.inside.widths (g.T.Trace.items c.args.trace.now) c.args.skip c.len.result c.run.new.self c.run-2.new.self
    c.requires.within (omega (arith, c.len.ensures)) c.run.ensures c.run-2.ensures).0

pub returns-clause-cycles : goal.returns-clause-cycles
returns-clause-cycles g c =
    rw (c.from-cycles.ensures, ← c.self.view_is)
    (kept_cycles c.self.inside.widths (g.T.Trace.items c.args.trace.now) c.args.skip c.len.result c.run.new.self c.run-2.new.self
    c.requires.within (omega (arith, c.len.ensures)) c.run.ensures c.run-2.ensures).1.cycles

pub returns-clause-least : goal.returns-clause-least
returns-clause-least g c =
    rw c.from-cycles.ensures
    (kept_cycles c.self.inside.widths (g.T.Trace.items c.args.trace.now) c.args.skip c.len.result c.run.new.self c.run-2.new.self
    c.requires.within (omega (arith, c.len.ensures)) c.run.ensures c.run-2.ensures).1.least

pub returns-clause-most : goal.returns-clause-most
returns-clause-most g c =
    rw c.from-cycles.ensures
    (kept_cycles c.self.inside.widths (g.T.Trace.items c.args.trace.now) c.args.skip c.len.result c.run.new.self c.run-2.new.self
    c.requires.within (omega (arith, c.len.ensures)) c.run.ensures c.run-2.ensures).1.most

pub returns-clause-first : goal.returns-clause-first
returns-clause-first g c =
    rw (← c.self.view_is)
    (issue_first c.self.inside.widths (g.T.Trace.items c.args.trace.now) c.self.invariant.0
    c.requires.few c.requires.marks)
