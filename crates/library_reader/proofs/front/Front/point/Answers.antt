use Rattle.livepoint_format.specs.Reading.{starts_at}
use Rattle.livepoint_format.specs.Reads.{IsBytes}
use Rattle.livepoint_format.specs.Views.{head_of}
use Rattle.library_reader.proofs.HandingLemmas.{point_in}
use Rattle.library_reader.proofs.front.Front.point.Goals as goal

pub returns-clause-point : goal.returns-clause-point
returns-clause-point c =
    let bytes : IsBytes c.args.bytes.now = record { each = λ i. (c.type_inv.bytes i).fits } in
    rw (← c.self.view_is)
    (point_in (head_of c.self.inside.header, c.self.inside.shared) c.args.number _ (starts_at c.args.base c.args.bytes.now)
    c.self.invariant.header c.self.invariant.table bytes c.decode_point.result c.decode_point.ensures)
