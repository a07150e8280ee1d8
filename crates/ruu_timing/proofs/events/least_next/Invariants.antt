use Rattle.std.proofs.Common.{◌≡◌, ◌-◌, ◌^◌, ◌≤◌, drop, min}
use Rattle.ruu_timing.specs.Events.{least_next}
use Rattle.ruu_timing.proofs.events.least_next.Given as goal

abbrev pub invariant-loop-i : goal.invariant-loop-i
invariant-loop-i l = record {
  rest : min l.t (least_next l.from (drop l.i l.latest.items)) ≡ least_next l.from l.latest.items;
  small : l.t ≤ 2 ^ 32 - 1;
}
