use Rattle.std.proofs.Common.{length, arith, ap}
use Rattle.livepoint_format.specs.Views.{parts_view}
use Rattle.livepoint_format.proofs.SplittingLemmas.{few_parts}
use Rattle.livepoint_format.proofs.point_writing.put_memory.Goals as goal

pub split-requires-clause-few : goal.split-requires-clause-few
split-requires-clause-few c = omega (arith, ap length c.as_slice-3.ensures.value, c.len-count.ensures.value, c.len-count.ensures.few)

pub put_parts-requires-clause-own : goal.put_parts-requires-clause-own
put_parts-requires-clause-own c =
    (few_parts c.args.shared.now c.args.words.now (parts_view c.in_ok-parts.parts) c.as_slice-2.ensures.ranked c.as_slice-2.ensures.few
    c.as_slice-3.ensures.words (omega (arith, c.len-count.ensures.value, c.len-count.ensures.few))
    (rw (c.as_slice-2.ensures.value, c.as_slice-3.ensures.value) at c.in_ok-parts.ensures)).0

pub put_parts-requires-clause-runs : goal.put_parts-requires-clause-runs
put_parts-requires-clause-runs c =
    (few_parts c.args.shared.now c.args.words.now (parts_view c.in_ok-parts.parts) c.as_slice-2.ensures.ranked c.as_slice-2.ensures.few
    c.as_slice-3.ensures.words (omega (arith, c.len-count.ensures.value, c.len-count.ensures.few))
    (rw (c.as_slice-2.ensures.value, c.as_slice-3.ensures.value) at c.in_ok-parts.ensures)).1
