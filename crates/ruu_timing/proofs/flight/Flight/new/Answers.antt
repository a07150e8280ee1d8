use Rattle.std.proofs.Common.{arith}
use Rattle.ruu_timing.proofs.KeptLemmas.{kept_none}
use Rattle.ruu_timing.proofs.flight.Flight.new.Goals as goal

pub returns : goal.returns
returns c =
    kept_none c.args.w.now c.over.result c.requires c.over.ensures.cleared (rw c.over.ensures.slots c.in_ok-table.ensures.power)
    (rw c.over.ensures.slots c.in_ok-table.ensures.wide) (rw c.over.ensures.slots c.in_ok-table.ensures.size)
    (rw (c.over.ensures.slots, c.over.ensures.start) c.in_ok-table.ensures.before)
    (rw c.over.ensures.slots c.in_ok-table.ensures.sevens) (omega (arith, c.over.ensures.start))
