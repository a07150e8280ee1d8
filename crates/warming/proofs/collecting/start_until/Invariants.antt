use Rattle.std.proofs.Common.{◌≡◌, ◌≤◌, length}
use Rattle.rv_exec.specs.Machine.{State}
use Rattle.warming.specs.Collecting.{CanCollect, IsCollecting}
use Rattle.warming.proofs.collecting.start_until.Given as goal

abbrev pub invariant-loop-p : goal.invariant-loop-p
invariant-loop-p l = record {
  place : l.p ≡ length l.points.items;
  at : l.pass.at ≤ l.end;
  ended : l.pass.windows.ended ≡ l.fn.pass.windows.ended;
  way : (start : State) → CanCollect start l.header → IsCollecting start l.header l.fn.pass l.fn.points.items
      → IsCollecting start l.header l.pass l.points.items;
}
