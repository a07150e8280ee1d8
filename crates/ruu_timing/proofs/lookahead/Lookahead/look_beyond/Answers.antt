use Rattle.ruu_timing.proofs.LookaheadLemmas.{gone_next, latest_is}
use Rattle.ruu_timing.proofs.lookahead.Lookahead.look_beyond.Goals as goal

pub ahead-preserved : goal.ahead-preserved
ahead-preserved g c = record {
  ahead = c.push_next.ensures.ahead;
  gone =
      gone_next c.args.w.now (g.T.Trace.items c.args.trace.now) c.ahead.self c.push_next.new.self c.args.t c.ahead.invariant.ahead
      c.push_next.ensures.ahead c.push_next.ensures.count
      (rw (c.latest_fetch.ensures, latest_is c.args.w.now (g.T.Trace.items c.args.trace.now) c.ahead.self c.ahead.invariant.ahead) at c.if-latest_fetch-t.true);
}
