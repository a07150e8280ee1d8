use Rattle.std.proofs.Common.{arith}
use Rattle.ordered_fold.proofs.RoomLemmas.{has_room, holds_valid}
use Rattle.ordered_fold.proofs.machine.Machine.step.Goals as goal

pub glance-requires-clause-least : goal.glance-requires-clause-least
glance-requires-clause-least c =
    (has_room _ _ _ c.requires.batch c.requires.core c.requires.seats).least

pub glance-requires-clause-sound : goal.glance-requires-clause-sound
glance-requires-clause-sound c =
    (has_room _ _ _ c.requires.batch c.requires.core c.requires.seats).sound

pub glance-requires-clause-valid : goal.glance-requires-clause-valid
glance-requires-clause-valid c = holds_valid _ _ _ _ c.requires.batch c.requires.core

pub try_lock-requires : goal.try_lock-requires
try_lock-requires c =
    (has_room _ _ _ c.requires.batch c.requires.core c.requires.seats).lock

pub release-requires-clause-least : goal.release-requires-clause-least
release-requires-clause-least c =
    (has_room _ _ _ c.requires.batch c.requires.core c.requires.seats).least

pub release-requires-clause-most : goal.release-requires-clause-most
release-requires-clause-most c =
    (has_room _ _ _ c.requires.batch c.requires.core c.requires.seats).most

pub look-requires : goal.look-requires
look-requires c =
    omega (arith, (has_room _ _ _ c.requires.batch c.requires.core c.requires.seats).stop)
