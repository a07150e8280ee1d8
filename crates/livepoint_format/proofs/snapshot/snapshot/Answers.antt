use Rattle.std.proofs.Common.{◌≡◌, None, arith}
use Rattle.recency_record.specs.Faults.{sets_fault, dealt}
use Rattle.recency_record.proofs.Rows.{sets_few}
use Rattle.livepoint_format.proofs.SnapshotLemmas.{sound_of_read}
use Rattle.livepoint_format.proofs.snapshot.snapshot.Goals as goal

pub sets-requires-2-clause-few : goal.sets-requires-2-clause-few
sets-requires-2-clause-few c = omega (arith, c.sets.ensures.value, sets_few c.args.which.now.shape c.sets.ensures.shape)

pub from_sound-requires-clause-sound : goal.from_sound-requires-clause-sound
from_sound-requires-clause-sound c =
    let sound : sets_fault c.args.which.now.shape c.in_ok-limit.limit 0 (dealt c.in_ok-counts.field-0.counts.items c.in_ok-counts.field-0.entries.items) ≡ None =
    sound_of_read c.args.which.now c.sets.ensures.shape c.in_ok-limit.limit c.sets.result c.in_ok-limit.ensures.range c.time.new.cursor
    (dealt c.in_ok-counts.field-0.counts.items c.in_ok-counts.field-0.entries.items) c.sets-2.new.cursor c.rest-bytes.ensures.bytes c.in_ok-counts.ensures.read in
    rw c.as_slice.ensures.value sound
