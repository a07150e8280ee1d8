use Rattle.std.proofs.Common.{length, ◌-◌, ◌≤◌, take}
use Rattle.smarts_io.specs.Bytes.{Takes}
use Rattle.smarts_io.proofs.writing.write_all.Given as goal

abbrev pub invariant-loop-done : goal.invariant-loop-done
invariant-loop-done g l = record {
  within : l.done ≤ length l.piece;
  bytes : Takes (g.K.Sink.taken l.fn.sink) (take l.done l.piece) (g.K.Sink.taken l.sink);
  later : g.K.Sink.faults l.fn.sink ≤ g.K.Sink.faults l.sink;
}

abbrev pub decreases-loop-done : goal.decreases-loop-done
decreases-loop-done g l = length l.piece - l.done
