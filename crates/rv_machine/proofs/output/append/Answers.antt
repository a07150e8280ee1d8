use Rattle.std.proofs.Common.{◌≡◌, ◌++◌, arith, append_assoc}
use Rattle.std.proofs.lemmas.List.{append-nil}
use Rattle.rv_machine.specs.Output.{bytes_at}
use Rattle.rv_machine.proofs.OutputLemmas.{bytes_none, bytes_more}
use Rattle.rv_machine.proofs.output.append.Goals as goal

pub loop-offset-init : goal.loop-offset-init
loop-offset-init g c =
    let words = g.M.Memory.words c.args.memory.now in
    let none : c.args.output.now.items ++ bytes_at words c.args.buffer.addr 0 ≡ c.args.output.now.items =
    rw (bytes_none words c.args.buffer.addr) (append-nil c.args.output.now.items) in
    record {
      bytes = rw none c.reserve.ensures.items;
      room = omega (arith, c.in_ok-reserve.ensures.ok);
    }

pub loop-offset-preserved : goal.loop-offset-preserved
loop-offset-preserved g c =
    let words = g.M.Memory.words c.args.memory.now in
    let pushed = c.if-prove.ensures.value in
    record {
      bytes =
          rw (
            c.push.ensures.items,
            ← pushed,
            c.loop-offset.invariant.bytes,
            c.byte_at.ensures,
            bytes_more words c.args.buffer.addr c.loop-offset.offset,
          )
          (append_assoc c.args.output.now.items _ _);
      room = let len = rw (← pushed) at c.push.ensures.len in omega (arith, len);
    }
