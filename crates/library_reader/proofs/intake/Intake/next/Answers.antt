use Rattle.library_reader.proofs.IntakeLemmas.{handed_more, stepped_more}
use Rattle.std.proofs.Common.{rules, None}
use Rattle.library_reader.proofs.intake.Intake.next.Goals as goal

pub returns-in-Some-clause-handed : goal.returns-in-Some-clause-handed
returns-in-Some-clause-handed g c =
    let fed = c.loop-stepped.invariant.fed in
    handed_more c.in-Some.part c.args.self.now c.loop-stepped.self c.step.new.self _ _ _ fed.0 fed.1.read fed.1.front (rw c.in-Some.is at c.in_ok-stepped.ensures.stepped)

pub loop-stepped-preserved : goal.loop-stepped-preserved
loop-stepped-preserved g c =
    let fed = c.loop-stepped.invariant.fed in
    let more = stepped_more None c.args.self.now c.loop-stepped.self c.step.new.self _ _ _ fed.0 fed.1.read fed.1.front (rw c.in_default.is at c.in_ok-stepped.ensures.stepped) in
    record { fed = (more.0, more.1); later = search rules }
