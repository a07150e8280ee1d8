use Rattle.std.proofs.Common.{◌≡◌, ◌+◌, ◌++◌, [], ◌∷◌, Ok, arith, add-one, sym, ap, ◌∙◌, take, length-set, ℕ}
use Rattle.std.specs.Prelude.{slice_set}
use Rattle.std.proofs.Math.Seq.{take-suc-set}
use Rattle.recency_record.specs.declared.entry.Entry.{Entry}
use Rattle.livepoint_format.specs.Decoding.{entry_after}
use Rattle.livepoint_format.proofs.Loops.{fails, goes_on, is_done}
use Rattle.livepoint_format.proofs.entries.one_by_one.Goals as goal

pub returns-in_err-row-clause-read : goal.returns-in_err-row-clause-read
returns-in_err-row-clause-read c =
    fails _ c.from_residual.result c.entry_after.new.cursor (entry_after c.args.which.now c.args.limit c.args.set) c.args.count c.loop-i.i
    (take c.loop-i.i c.loop-i.row) c.loop-i.cursor c.in_err-row.field-0.0 _ (omega arith) c.from_residual.ensures.1 c.in_err-row.ensures
    c.loop-i.invariant.read

pub loop-i-preserved : goal.loop-i-preserved
loop-i-preserved c =
    let e : Entry = c.in_ok-row.field-0 in
    let front : take (c.loop-i.i + 1) (slice_set c.loop-i.row c.loop-i.i e) ≡ take c.loop-i.i c.loop-i.row ++ e ∷ [] =
    rw add-one (take-suc-set c.loop-i.row c.loop-i.i e (omega arith)) in
    record {
      len = length-set c.loop-i.row c.loop-i.i e ∙ c.loop-i.invariant.len;
      read = rw front
          (goes_on (entry_after c.args.which.now c.args.limit c.args.set) c.args.count c.loop-i.i (take c.loop-i.i c.loop-i.row) c.loop-i.cursor e
          c.entry_after.new.cursor (omega arith) c.in_ok-row.ensures ∙ c.loop-i.invariant.read);
    }

pub returns-clause-read : goal.returns-clause-read
returns-clause-read c =
    let end : c.loop-i.i ≡ c.args.count = omega (arith, c.loop-i.auto.i-end) in
    sym c.loop-i.invariant.read
    ∙ is_done (entry_after c.args.which.now c.args.limit c.args.set) c.args.count c.loop-i.i (take c.loop-i.i c.loop-i.row) c.loop-i.cursor (omega arith)
    ∙ ap (λ (n : ℕ). Ok (take n c.loop-i.row, c.loop-i.cursor)) end
