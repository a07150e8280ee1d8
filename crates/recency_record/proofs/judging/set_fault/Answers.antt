use Rattle.std.proofs.Common.{arith, sym, ◌∙◌}
use Rattle.recency_record.proofs.FirstFaults.{too_many, not_too_many, entry_found, entry_passed, entries_passed}
use Rattle.recency_record.proofs.judging.set_fault.Goals as goal

pub returns-then-entries-from : goal.returns-then-entries-from
returns-then-entries-from c =
    sym (too_many c.args.geometry c.args.time c.args.set c.args.entries.now (omega (arith, c.from.ensures, c.ways.ensures.value)))

pub loop-place-init : goal.loop-place-init
loop-place-init c =
    not_too_many c.args.geometry c.args.time c.args.set c.args.entries.now (omega (arith, c.from.ensures, c.ways.ensures.value))

pub returns-then-is_some : goal.returns-then-is_some
returns-then-is_some c =
    entry_found c.args.geometry c.args.time c.args.set c.args.entries.now _ c.loop-place.place _
    c.entry_fault-fault.result (omega arith) c.loop-place.invariant c.entry_fault-fault.ensures
    (sym c.is_some.ensures ∙ c.if-is_some.true)

pub loop-place-preserved : goal.loop-place-preserved
loop-place-preserved c =
    entry_passed c.args.geometry c.args.time c.args.set c.args.entries.now _ c.loop-place.place _
    c.entry_fault-fault.result (omega arith) c.loop-place.invariant c.entry_fault-fault.ensures
    (sym c.is_some.ensures ∙ c.if-is_some.false)

pub returns : goal.returns
returns c =
    entries_passed c.args.geometry c.args.time c.args.set c.args.entries.now _ c.loop-place.place
    (omega arith) c.loop-place.invariant
