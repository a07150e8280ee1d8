use Rattle.livepoint_format.specs.Reads.{IsBytes}
use Rattle.livepoint_format.specs.Views.{head_of}
use Rattle.livepoint_format.proofs.HeaderLaws.{IsFront}
use Rattle.livepoint_format.proofs.DecodingLemmas.{front_of_read}
use Rattle.livepoint_format.proofs.decoding.decode_header.Goals as goal

pub returns-clause-sound : goal.returns-clause-sound
returns-clause-sound c =
    let bytes : IsBytes c.args.bytes.now = record { each = λ i. (c.type_inv.bytes i).fits } in
    let read = rw c.new-cursor.ensures at c.in_ok-head.ensures.read in
    let front : IsFront (head_of c.in_ok-head.head, c.in_ok-head.shared) =
    front_of_read c.args.bytes.now (head_of c.in_ok-head.head, c.in_ok-head.shared) c.header.new.cursor bytes read in
    (front.header, front.shared)
