use Rattle.std.proofs.Common.{refl}
use Rattle.library_reader.proofs.IntakeLemmas.{fault_at, handed_none, refused_handed, settled_at, took_stepped}
use Rattle.library_reader.specs.declared.part.Part.TheVariants.{End, Header, More, Point}
use Rattle.library_reader.proofs.intake.Intake.step.Goals as goal

pub take_in-requires : goal.take_in-requires
take_in-requires g c = settled_at c.self.inside.reader c.next.new.self More (rw c.in-Ok-More.field-0-is at c.in-Ok-More.ensures.part) tt

pub take_in-requires-in-Ok-End : goal.take_in-requires-in-Ok-End
take_in-requires-in-Ok-End g c = settled_at c.self.inside.reader c.next.new.self End (rw c.in-Ok-End.field-0-is at c.in-Ok-End.ensures.part) tt

pub refuse-requires : goal.refuse-requires
refuse-requires g c = fault_at c.self.inside.reader c.next.new.self c.in-Ok-Fault.fault (rw c.in-Ok-Fault.field-0-is at c.in-Ok-Fault.ensures.part)

pub returns-in-Ok-More-clause-stepped : goal.returns-in-Ok-More-clause-stepped
returns-in-Ok-More-clause-stepped g c =
    took_stepped c.take_in.result c.self.inside.reader c.args.self.now c.next.new.self c.take_in.new.self More _ _ c.self.view_is
    (rw c.in-Ok-More.field-0-is at c.in-Ok-More.ensures.part) c.in-Ok-More.ensures.bytes
    refl (rw c.in-Ok-More.field-0-is at c.in-Ok-More.ensures.front) c.take_in.ensures.stepped

pub returns-in-Ok-End-clause-stepped : goal.returns-in-Ok-End-clause-stepped
returns-in-Ok-End-clause-stepped g c =
    took_stepped c.take_in-in-Ok-End.result c.self.inside.reader c.args.self.now c.next.new.self c.take_in-in-Ok-End.new.self End _ _ c.self.view_is
    (rw c.in-Ok-End.field-0-is at c.in-Ok-End.ensures.part) c.in-Ok-End.ensures.bytes
    refl (rw c.in-Ok-End.field-0-is at c.in-Ok-End.ensures.front) c.take_in-in-Ok-End.ensures.stepped

pub returns-in_ok-refuse-in-Ok-Fault-clause-stepped : goal.returns-in_ok-refuse-in-Ok-Fault-clause-stepped
returns-in_ok-refuse-in-Ok-Fault-clause-stepped g c =
    refused_handed c.in_ok-refuse-in-Ok-Fault.field-0 c.self.inside.reader c.args.self.now c.next.new.self c.refuse.new.self c.in-Ok-Fault.fault _ _ c.self.view_is
    (rw c.in-Ok-Fault.field-0-is at c.in-Ok-Fault.ensures.part) c.in-Ok-Fault.ensures.bytes
    (rw c.in-Ok-Fault.field-0-is at c.in-Ok-Fault.ensures.front) c.in_ok-refuse-in-Ok-Fault.ensures.handed

pub returns-in-Ok-Header-clause-stepped : goal.returns-in-Ok-Header-clause-stepped
returns-in-Ok-Header-clause-stepped g c =
    handed_none c.self.inside.reader c.args.self.now c.next.new.self Header _ c.self.view_is
    (rw c.in-Ok-Header.field-0-is at c.in-Ok-Header.ensures.part) c.in-Ok-Header.ensures.bytes

pub returns-in-Ok-Point-clause-stepped : goal.returns-in-Ok-Point-clause-stepped
returns-in-Ok-Point-clause-stepped g c =
    handed_none c.self.inside.reader c.args.self.now c.next.new.self (Point c.in-Ok-Point.point) _ c.self.view_is
    (rw c.in-Ok-Point.field-0-is at c.in-Ok-Point.ensures.part) c.in-Ok-Point.ensures.bytes
