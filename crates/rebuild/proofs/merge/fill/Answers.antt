use Rattle.std.proofs.Common.{arith, take}
use Rattle.rebuild.proofs.PlainSets.{blocks_in}
use Rattle.rebuild.proofs.Filling.{not_before, set_so_far, fill_more}
use Rattle.rebuild.proofs.merge.fill.Goals as goal

pub append-requires-clause-absent : goal.append-requires-clause-absent
append-requires-clause-absent c =
    rw (set_so_far c.args.cache.now.sets c.args.set (blocks_in (take c.loop-entry.entry-index c.args.entries.now)) c.loop-entry.cache
    c.args.cache.now.shape c.requires.within c.loop-entry.invariant)
    (not_before c.args.entries.now c.loop-entry.entry-index _ c.requires.apart (omega arith))

pub loop-entry-preserved : goal.loop-entry-preserved
loop-entry-preserved c =
    fill_more c.args.cache.now.shape c.args.cache.now.sets c.args.set c.loop-entry.entry-index c.args.entries.now _
    c.loop-entry.cache c.append.new.self c.requires.within (omega arith) c.loop-entry.invariant c.append.ensures
