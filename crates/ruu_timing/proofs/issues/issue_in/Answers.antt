use Rattle.std.proofs.Common.{[]}
use Rattle.ruu_timing.proofs.IssuesLemmas.{claimed_own, power_some, room_small}
use Rattle.ruu_timing.proofs.issues.issue_in.Goals as goal

pub count-requires-clause-issued : goal.count-requires-clause-issued
count-requires-clause-issued c =
    rw (
      c.place_of-place.ensures.value,
      claimed_own c.args.slots.now c.args.start c.args.t (record { cycle = 0; issued = 0; alike = [] }) (power_some _ c.requires.power)
          (rw c.place_of-place.ensures.value at c.if-slot-start.true),
    )
    (room_small c.args.w.now c.args.slots.now c.args.start c.args.class c.args.t c.requires.widths c.requires.room).0

pub count-requires-clause-alike : goal.count-requires-clause-alike
count-requires-clause-alike c =
    rw (
      c.place_of-place.ensures.value,
      claimed_own c.args.slots.now c.args.start c.args.t (record { cycle = 0; issued = 0; alike = [] }) (power_some _ c.requires.power)
          (rw c.place_of-place.ensures.value at c.if-slot-start.true),
    )
    (room_small c.args.w.now c.args.slots.now c.args.start c.args.class c.args.t c.requires.widths c.requires.room).1
