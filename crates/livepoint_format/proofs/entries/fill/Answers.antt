use Rattle.std.proofs.Common.{◌≡◌, arith, sym, ◌∙◌, None, take, length-set}
use Rattle.recency_record.specs.declared.entry.Entry.{Entry}
use Rattle.recency_record.specs.Faults.{entry_fault}
use Rattle.livepoint_format.specs.Reads.{IsBytes}
use Rattle.livepoint_format.proofs.EntriesLemmas.{stands_behind, more_read}
use Rattle.livepoint_format.proofs.entries.fill.Goals as goal

pub loop-i-preserved : goal.loop-i-preserved
loop-i-preserved c =
    let e : Entry = record { block = c.word_in.result; time = c.long_in.result } in
    let stands : entry_fault c.args.which.now.shape c.args.limit c.args.set (take c.loop-i.i c.loop-i.row) e ≡ None =
    stands_behind c.args.which.now.shape c.args.limit c.args.set (take c.loop-i.i c.loop-i.row) e (sym c.may_stand.ensures ∙ c.if-not-may_stand.false) in
    let bytes : IsBytes c.args.text.now = record { each = λ i. (c.type_inv.text i).fits } in
    record {
      len = length-set c.loop-i.row c.loop-i.i e ∙ c.loop-i.invariant.len;
      read = more_read c.args.which.now.shape c.args.limit c.args.set c.args.text.now c.loop-i.row c.loop-i.i e bytes (omega arith) (omega arith)
          c.word_in.ensures c.long_in.ensures c.loop-i.invariant.read stands;
    }
