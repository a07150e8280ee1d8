use Rattle.std.proofs.Common.{◌≡◌, ◌++◌, [], ◌∷◌, arith, sym, ap, ◌∙◌, take, length, sum, List, length-take-le, length-append}
use Rattle.std.proofs.lemmas.List.{length_push}
use Rattle.recency_record.specs.declared.entry.Entry.{Entry}
use Rattle.recency_record.specs.Faults.{dealt}
use Rattle.livepoint_format.specs.Decoding.{set_after}
use Rattle.livepoint_format.specs.Reads.{Refuses}
use Rattle.livepoint_format.proofs.Loops.{fails, goes_on, is_done}
use Rattle.livepoint_format.proofs.SnapshotLemmas.{dealt_more, sum_more, set_here}
use Rattle.livepoint_format.proofs.snapshot.sets.Goals as goal

pub returns-in_err-len-clause-read : goal.returns-in_err-len-clause-read
returns-in_err-len-clause-read c =
    let refused : Refuses c.in_err-len.field-0.0 (set_after c.args.which.now c.args.limit (dealt c.loop-number.counts.items c.loop-number.entries.items) c.loop-number.cursor) =
    rw (set_here c.args.which.now c.args.limit c.loop-number.number c.loop-number.counts.items c.loop-number.entries.items c.loop-number.cursor c.loop-number.invariant.long)
    c.in_err-len.ensures.read in
    fails (λ s. dealt s.counts.items s.entries.items) c.from_residual.result c.set.new.cursor (set_after c.args.which.now c.args.limit) c.args.count
    c.loop-number.number (dealt c.loop-number.counts.items c.loop-number.entries.items) c.loop-number.cursor c.in_err-len.field-0.0 _ (omega arith)
    c.from_residual.ensures.1 refused c.loop-number.invariant.read

pub loop-number-preserved : goal.loop-number-preserved
loop-number-preserved c =
    let es : List Entry = take c.in_ok-len.len c.set.new.row in
    let long : length (take c.in_ok-len.len c.set.new.row) ≡ c.in_ok-len.len =
    length-take-le c.in_ok-len.len c.set.new.row (omega (arith, c.in_ok-len.ensures.few, c.in_ok-len.ensures.len, c.loop-number.invariant.row)) in
    let more : dealt c.push.new.self.items c.extend_from_slice.new.self.items
    ≡ dealt c.loop-number.counts.items c.loop-number.entries.items ++ take c.in_ok-len.len c.set.new.row ∷ [] =
    rw (c.in_ok-push.ensures.items, c.in_ok-extend_from_slice.ensures.items)
    (dealt_more c.loop-number.counts.items c.loop-number.entries.items (take c.in_ok-len.len c.set.new.row) c.in_ok-len.len c.loop-number.invariant.sum long) in
    record {
      row = c.in_ok-len.ensures.len ∙ c.loop-number.invariant.row;
      long = omega (arith, ap length c.in_ok-push.ensures.items, length_push c.loop-number.counts.items c.in_ok-len.len, c.loop-number.invariant.long);
      sum = omega (
        arith,
        ap sum c.in_ok-push.ensures.items,
        sum_more c.loop-number.counts.items c.in_ok-len.len,
        ap length c.in_ok-extend_from_slice.ensures.items,
        length-append c.loop-number.entries.items (take c.in_ok-len.len c.set.new.row),
        long,
        c.loop-number.invariant.sum,
      );
      read = rw more
          (goes_on (set_after c.args.which.now c.args.limit) c.args.count c.loop-number.number (dealt c.loop-number.counts.items c.loop-number.entries.items)
          c.loop-number.cursor (take c.in_ok-len.len c.set.new.row) c.set.new.cursor (omega arith)
          (set_here c.args.which.now c.args.limit c.loop-number.number c.loop-number.counts.items c.loop-number.entries.items c.loop-number.cursor c.loop-number.invariant.long
          ∙ c.in_ok-len.ensures.read)
          ∙ c.loop-number.invariant.read);
    }

pub returns-clause-read : goal.returns-clause-read
returns-clause-read c =
    sym c.loop-number.invariant.read
    ∙ is_done (set_after c.args.which.now c.args.limit) c.args.count c.loop-number.number (dealt c.loop-number.counts.items c.loop-number.entries.items) c.loop-number.cursor
    (omega arith)
