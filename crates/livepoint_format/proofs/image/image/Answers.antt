use Rattle.livepoint_format.proofs.ImageLemmas.{image_of_read}
use Rattle.livepoint_format.proofs.image.image.Goals as goal

pub from_sound-requires-clause-counters : goal.from_sound-requires-clause-counters
from_sound-requires-clause-counters c =
    (image_of_read c.args.kind c.requires c.args.cursor.now c.counters.new.cursor c.history.new.cursor c.targets.new.cursor c.stack.new.cursor
    c.in_ok-counters.counters.items c.in_ok-history.history c.in_ok-targets.targets.items c.in_ok-stack.stack.items c.rest-bytes.ensures.bytes
    (rw c.power.ensures at c.in_ok-counters.ensures) c.in_ok-history.ensures (rw c.power-2.ensures at c.in_ok-targets.ensures) c.in_ok-stack.ensures).image.tables.counters

pub from_sound-requires-clause-targets : goal.from_sound-requires-clause-targets
from_sound-requires-clause-targets c =
    (image_of_read c.args.kind c.requires c.args.cursor.now c.counters.new.cursor c.history.new.cursor c.targets.new.cursor c.stack.new.cursor
    c.in_ok-counters.counters.items c.in_ok-history.history c.in_ok-targets.targets.items c.in_ok-stack.stack.items c.rest-bytes.ensures.bytes
    (rw c.power.ensures at c.in_ok-counters.ensures) c.in_ok-history.ensures (rw c.power-2.ensures at c.in_ok-targets.ensures) c.in_ok-stack.ensures).image.tables.targets

pub from_sound-requires-clause-stack : goal.from_sound-requires-clause-stack
from_sound-requires-clause-stack c =
    (image_of_read c.args.kind c.requires c.args.cursor.now c.counters.new.cursor c.history.new.cursor c.targets.new.cursor c.stack.new.cursor
    c.in_ok-counters.counters.items c.in_ok-history.history c.in_ok-targets.targets.items c.in_ok-stack.stack.items c.rest-bytes.ensures.bytes
    (rw c.power.ensures at c.in_ok-counters.ensures) c.in_ok-history.ensures (rw c.power-2.ensures at c.in_ok-targets.ensures) c.in_ok-stack.ensures).image.tables.stack

pub from_sound-requires-clause-ranges : goal.from_sound-requires-clause-ranges
from_sound-requires-clause-ranges c =
    (image_of_read c.args.kind c.requires c.args.cursor.now c.counters.new.cursor c.history.new.cursor c.targets.new.cursor c.stack.new.cursor
    c.in_ok-counters.counters.items c.in_ok-history.history c.in_ok-targets.targets.items c.in_ok-stack.stack.items c.rest-bytes.ensures.bytes
    (rw c.power.ensures at c.in_ok-counters.ensures) c.in_ok-history.ensures (rw c.power-2.ensures at c.in_ok-targets.ensures) c.in_ok-stack.ensures).image.ranges
