use Rattle.std.proofs.Common.{◌≡◌, ◌≤◌, ◌+◌, ◌-◌, vec_len}
use Rattle.smarts_io.specs.Bytes.{Gives}
use Rattle.smarts_io.proofs.reading.read_all.Given as goal

abbrev pub invariant-loop-out : goal.invariant-loop-out
invariant-loop-out g l = record {
  small : vec_len l.out ≤ l.limit + 1;
  room : vec_len l.buffer ≡ 65536;
  given : Gives (g.S.Source.rest l.fn.source) l.out.items (g.S.Source.rest l.source);
  later : g.S.Source.faults l.fn.source ≤ g.S.Source.faults l.source;
}

abbrev pub decreases-loop-out : goal.decreases-loop-out
decreases-loop-out g l = l.limit + 1 - vec_len l.out
