use Rattle.std.proofs.Common.{◌≡◌, ◌<◌, ◌+◌, ◌^◌, arith, get_or, take, sum, ◌∙◌, refl, sym, take_all}
use Rattle.recency_record.specs.Parts.{starts_from, parts}
use Rattle.recency_record.specs.Faults.{dealt}
use Rattle.recency_record.proofs.Rows.{row_parts, row_starts, row_count, counts_more, counts_short, dealt_length}
use Rattle.recency_record.proofs.Judgements.{recency_of_sound}
use Rattle.std.proofs.lemmas.List.Sums.{sum_by_more}
use Rattle.recency_record.proofs.snapshot.Snapshot.from_sound.Goals as goal

pub overflow_add-start : goal.overflow_add-start
overflow_add-start c =
    let short : sum (take c.loop-count.count-index c.args.counts.now) + get_or c.args.counts.now c.loop-count.count-index 0 < 2 ^ 32 =
    counts_short c.args.geometry c.args.counts.now c.loop-count.count-index c.sets.ensures.shape c.requires.sets (omega arith)
    (λ k. omega (arith, c.type_inv.counts k)) in
    omega (arith, short, c.loop-count.invariant.start, c.from-start.ensures)

pub loop-count-preserved : goal.loop-count-preserved
loop-count-preserved c =
    let start : c.loop-count.start + c.from-start.result ≡ sum (take c.loop-count.count-index c.args.counts.now) + get_or c.args.counts.now c.loop-count.count-index 0 =
    omega (arith, c.loop-count.invariant.start, c.from-start.ensures) in
    record {
      room = omega (arith, c.push_reserved-in-loop-count.ensures.capacity, c.loop-count.invariant.room);
      len = omega (arith, c.push_reserved-in-loop-count.ensures.len, c.loop-count.invariant.len);
      start = start ∙ sym (sum_by_more (λ x. x) c.args.counts.now c.loop-count.count-index 0 (omega arith));
      starts = rw (c.push_reserved-in-loop-count.ensures.items, c.loop-count.invariant.starts, start)
          (sym (counts_more c.args.counts.now c.loop-count.count-index (omega arith)));
    }

pub invariant_of-result : goal.invariant_of-result
invariant_of-result c =
    let whole : c.loop-count.starts.items ≡ starts_from 0 c.args.counts.now =
    rw (take_all c.loop-count.count-index c.args.counts.now (omega arith)) at c.loop-count.invariant.starts in
    let split : parts c.loop-count.starts.items c.args.entries.items ≡ dealt c.args.counts.now c.args.entries.items =
    row_parts c.args.counts.now c.loop-count.starts.items c.args.entries.items c.args.entries.items whole refl in
    record {
      recency = rw split
          (recency_of_sound c.args.geometry c.args.time (dealt c.args.counts.now c.args.entries.items) c.sets.ensures.shape
          (dealt_length c.args.counts.now c.args.entries.items ∙ c.requires.sets) c.requires.sound);
      starts = row_starts c.args.counts.now c.loop-count.starts.items c.args.entries.items c.args.entries.items whole refl c.requires.entries;
      count = row_count c.args.counts.now c.loop-count.starts.items c.args.entries.items c.args.entries.items whole refl
          ∙ rw c.requires.sets refl;
    }

pub returns : goal.returns
returns c =
    let whole : c.loop-count.starts.items ≡ starts_from 0 c.args.counts.now =
    rw (take_all c.loop-count.count-index c.args.counts.now (omega arith)) at c.loop-count.invariant.starts in
    rw (row_parts c.args.counts.now c.loop-count.starts.items c.args.entries.items c.args.entries.items whole refl) refl
