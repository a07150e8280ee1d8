use Rattle.std.proofs.Common.{◌≤◌, arith}
use Rattle.livepoint_format.specs.Reads.{IsBytes}
use Rattle.livepoint_format.specs.Reading.{starts_at}
use Rattle.livepoint_format.specs.Views.{head_of}
use Rattle.livepoint_format.proofs.DecodingLemmas.{point_onward}
use Rattle.livepoint_format.proofs.decoding.decode_point.Goals as goal

pub overflow_sub-result : goal.overflow_sub-result
overflow_sub-result c =
    let bytes : IsBytes c.args.bytes.now = record { each = λ i. (c.type_inv.bytes i).fits } in
    let read = rw c.new-cursor.ensures at c.in_ok-read.ensures in
    let onward : c.args.base ≤ c.point.new.cursor.place =
    point_onward (head_of c.args.header.now) c.args.shared.now c.args.point c.args.unit c.requires.header c.requires.table
    (starts_at c.args.base c.args.bytes.now) c.in_ok-read.read c.point.new.cursor bytes read in
    omega (arith, onward, c.place.ensures.value)
