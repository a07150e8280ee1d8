use Rattle.std.proofs.Common.{◌≡◌, ◌++◌, length, ap, arith}
use Rattle.std.proofs.lemmas.List.{length-append, length_push}
use Rattle.recency_record.specs.Views.{sets_of_builder}
use Rattle.recency_record.proofs.Rows.{starts_pushed, row_pushed, parts_pushed}
use Rattle.recency_record.proofs.snapshot.builder.SnapshotBuilder.push.Goals as goal

pub invariant_of-self-2 : goal.invariant_of-self-2
invariant_of-self-2 c =
    let long : c.len.result ≡ length (c.self.inside.entries.items ++ c.args.entries.now) =
    omega (arith, c.len.ensures, ap length c.in_ok-extend_from_slice.ensures.items) in
    let split = parts_pushed (sets_of_builder c.self.inside) c.args.entries.now c.self.inside.starts.items c.self.inside.entries.items c.self.invariant.starts c.self.invariant.row in
    record {
      starts = rw (c.push_reserved.ensures.items, c.in_ok-reserve.ensures.items, c.in_ok-extend_from_slice.ensures.items, long, split)
          (starts_pushed (sets_of_builder c.self.inside) c.args.entries.now c.self.inside.starts.items c.self.inside.entries.items c.self.invariant.starts c.self.invariant.row);
      row = rw (c.push_reserved.ensures.items, c.in_ok-reserve.ensures.items, c.in_ok-extend_from_slice.ensures.items, long, split)
          (row_pushed (sets_of_builder c.self.inside) c.args.entries.now c.self.inside.starts.items c.self.inside.entries.items c.self.invariant.starts c.self.invariant.row);
      short = rw (c.push_reserved.ensures.items, c.in_ok-reserve.ensures.items, c.in_ok-extend_from_slice.ensures.items, long, split)
          (omega (
            arith,
            c.requires.short,
            c.self.invariant.short,
            length_push (sets_of_builder c.self.inside) c.args.entries.now,
            length-append c.self.inside.entries.items c.args.entries.now,
          ));
    }

pub returns : goal.returns
returns c =
    let long : c.len.result ≡ length (c.self.inside.entries.items ++ c.args.entries.now) =
    omega (arith, c.len.ensures, ap length c.in_ok-extend_from_slice.ensures.items) in
    rw (← c.self.view_is, c.push_reserved.ensures.items, c.in_ok-reserve.ensures.items, c.in_ok-extend_from_slice.ensures.items, long)
    (parts_pushed (sets_of_builder c.self.inside) c.args.entries.now c.self.inside.starts.items c.self.inside.entries.items c.self.invariant.starts c.self.invariant.row)
