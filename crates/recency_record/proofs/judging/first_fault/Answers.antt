use Rattle.std.proofs.Common.{arith, sym, ◌∙◌}
use Rattle.recency_record.proofs.FirstFaults.{set_found, set_passed, long_passed, sets_passed}
use Rattle.recency_record.proofs.judging.first_fault.Goals as goal

pub returns-then-is_some : goal.returns-then-is_some
returns-then-is_some c =
    set_found c.args.geometry c.args.time c.loop-set.set c.args.counts.now c.loop-set.rest.now c.split_at.result.0.now
    c.split_at.result.1.now c.from.result _ c.set_fault-fault.result (omega arith) c.from.ensures c.split_at.ensures.front
    c.split_at.ensures.back c.loop-set.invariant.faults c.set_fault-fault.ensures
    (sym c.is_some.ensures ∙ c.if-is_some.true)

pub loop-set-preserved : goal.loop-set-preserved
loop-set-preserved c = record {
  long = long_passed c.args.geometry c.args.time c.loop-set.set c.args.counts.now c.loop-set.rest.now c.split_at.result.0.now
      c.split_at.result.1.now c.from.result c.set_fault-fault.result c.set_fault-fault.result (omega arith) c.from.ensures
      c.split_at.ensures.back c.loop-set.invariant.long;
  faults = set_passed c.args.geometry c.args.time c.loop-set.set c.args.counts.now c.loop-set.rest.now c.split_at.result.0.now
      c.split_at.result.1.now c.from.result _ c.set_fault-fault.result (omega arith) c.from.ensures c.split_at.ensures.front
      c.split_at.ensures.back c.loop-set.invariant.faults c.set_fault-fault.ensures
      (sym c.is_some.ensures ∙ c.if-is_some.false);
}

pub returns : goal.returns
returns c =
    sets_passed c.args.geometry c.args.time c.loop-set.set c.args.counts.now c.loop-set.rest.now _
    (omega arith) c.loop-set.invariant.faults
