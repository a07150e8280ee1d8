use Rattle.std.proofs.Common.{◌≡◌, ◌-◌, ◌<◌, ◌≤◌, List, length}
use Rattle.ruu_timing.specs.Flight.{store_row_of}
use Rattle.ruu_timing.specs.Ring.{IsRing}
use Rattle.ruu_timing.specs.declared.timed.Timed.{Timed}
use Rattle.ruu_timing.proofs.FlightLemmas.{sought}
use Rattle.ruu_timing.proofs.TimedLemmas.{retired}
use Rattle.ruu_timing.proofs.flight.in_flight.Given as goal

abbrev pub invariant-loop-k : goal.invariant-loop-k
invariant-loop-k l = record {
  further : (list : List Timed) → IsRing store_row_of list l.stores → l.stored ≡ length list
      → sought list (l.k - 1) l.word l.dispatch ≡ sought list 0 l.word l.dispatch;
  waits : (list : List Timed) → IsRing store_row_of list l.stores → l.stored ≡ length list → 2 ≤ l.k
      → l.dispatch < retired list (l.k - 2);
}
