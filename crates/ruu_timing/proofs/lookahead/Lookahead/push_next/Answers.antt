use Rattle.std.proofs.Common.{◌<◌, List, length}
use Rattle.hierarchy.specs.declared.marked.Marked.{Marked}
use Rattle.ruu_timing.specs.Lookahead.{timed_in}
use Rattle.ruu_timing.specs.declared.timed.Timed.{Timed}
use Rattle.ruu_timing.proofs.LookaheadLemmas.{ahead_more, short_in}
use Rattle.ruu_timing.proofs.TimesLemmas.{marked_at, times_more}
use Rattle.ruu_timing.proofs.lookahead.Lookahead.push_next.Goals as goal

pub push-cycles-requires-clause-mark : goal.push-cycles-requires-clause-mark
push-cycles-requires-clause-mark g c =
    marked_at (g.T.Trace.items c.args.trace.now) c.args.self.now.flight.count c.at-mark.result c.at-mark.ensures c.requires.marks

pub returns-clause-ahead : goal.returns-clause-ahead
returns-clause-ahead g c =
    let items : List Marked = g.T.Trace.items c.args.trace.now in
    let earlier : List Timed = timed_in c.args.w.now items c.args.self.now in
    let few : length earlier < 110000 = short_in c.args.w.now items c.args.self.now c.requires.ahead c.requires.some c.requires.few in
    rw c.push_front.ensures.items
    (ahead_more c.args.w.now items c.at-mark.result c.push-cycles.result c.args.self.now c.push-cycles.new.self c.requires.ahead c.requires.some
    (times_more c.args.w.now items c.args.self.now.flight.count c.at-mark.result c.at-mark.ensures)
    (c.push-cycles.ensures.times earlier c.requires.ahead.kept) (c.push-cycles.ensures.kept earlier c.requires.ahead.kept few)).0

pub returns-clause-count : goal.returns-clause-count
returns-clause-count g c =
    let items : List Marked = g.T.Trace.items c.args.trace.now in
    let earlier : List Timed = timed_in c.args.w.now items c.args.self.now in
    let few : length earlier < 110000 = short_in c.args.w.now items c.args.self.now c.requires.ahead c.requires.some c.requires.few in
    (ahead_more c.args.w.now items c.at-mark.result c.push-cycles.result c.args.self.now c.push-cycles.new.self c.requires.ahead c.requires.some
    (times_more c.args.w.now items c.args.self.now.flight.count c.at-mark.result c.at-mark.ensures)
    (c.push-cycles.ensures.times earlier c.requires.ahead.kept) (c.push-cycles.ensures.kept earlier c.requires.ahead.kept few)).1
