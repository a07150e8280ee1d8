use Rattle.std.proofs.Common.{◌≡◌, ◌++◌, [], ◌∷◌, rules}
use Rattle.library_fold.proofs.BatchLemmas.{ended_here, point_behind, room_behind, stopped_behind, taken_behind}
use Rattle.library_fold.specs.declared.stop.Stop.TheVariants.{Library}
use Rattle.library_fold.proofs.batch.next_batch.Goals as goal

pub returns-in_err-point-clause-room : goal.returns-in_err-point-clause-room
returns-in_err-point-clause-room g c =
    room_behind c.args.intake.now c.loop-alloc.intake _ _ c.loop-alloc.batch.items c.loop-alloc.invariant.come

pub returns-in_err-push-in-Point-clause-room : goal.returns-in_err-push-in-Point-clause-room
returns-in_err-push-in-Point-clause-room g c =
    rw c.in_err-push-in-Point.ensures.items
    (room_behind c.args.intake.now c.loop-alloc.intake _ _ c.loop-alloc.batch.items c.loop-alloc.invariant.come)

pub returns-in-Fault-clause-room : goal.returns-in-Fault-clause-room
returns-in-Fault-clause-room g c =
    room_behind c.args.intake.now c.loop-alloc.intake _ _ c.loop-alloc.batch.items c.loop-alloc.invariant.come

pub returns-in-End-clause-room : goal.returns-in-End-clause-room
returns-in-End-clause-room g c =
    room_behind c.args.intake.now c.loop-alloc.intake _ _ c.loop-alloc.batch.items c.loop-alloc.invariant.come

pub returns-clause-room : goal.returns-clause-room
returns-clause-room g c =
    room_behind c.args.intake.now c.loop-alloc.intake _ _ c.loop-alloc.batch.items c.loop-alloc.invariant.come

pub returns-in-Fault-clause-fault : goal.returns-in-Fault-clause-fault
returns-in-Fault-clause-fault g c =
    stopped_behind (Library c.in-Fault.fault) c.args.intake.now c.loop-alloc.intake _ _ _ c.loop-alloc.batch.items
    c.loop-alloc.invariant.come (rw c.in-Fault.is at c.in_ok-point.ensures.handed)

pub returns-in-End-clause-read : goal.returns-in-End-clause-read
returns-in-End-clause-read g c =
    let handed = rw c.in-End.is at c.in_ok-point.ensures.handed in
    ended_here c.args.intake.now c.loop-alloc.intake _ _ _ c.loop-alloc.batch.items handed.0 c.loop-alloc.invariant.come handed.1 handed.2

pub loop-alloc-preserved : goal.loop-alloc-preserved
loop-alloc-preserved g c =
    let handed = rw c.in-Point.is at c.in_ok-point.ensures.handed in
    let front = rw c.in-Point.is at c.in_ok-point.ensures.front in
    let point = rw c.in-Point.is at c.in_ok-point.ensures.point in
    let items : c.push.new.self.items ≡ c.loop-alloc.batch.items ++ c.in-Point.point ∷ [] = search rules in
    let come = c.loop-alloc.invariant.come in
    record {
      come = rw items (point_behind c.args.intake.now c.loop-alloc.intake c.next.new.self _ _ _ c.loop-alloc.batch.items c.in-Point.point handed.0 come handed.1 front.1);
      taken = rw items (taken_behind c.args.intake.now.front c.loop-alloc.intake.front c.loop-alloc.batch.items (c.in-Point.point ∷ []) come.1.front c.loop-alloc.invariant.taken point);
      few = search rules;
      later = search rules;
    }
