-- What the machine of the code stands for.
use Rattle.ordered_fold.specs.declared.machine.Machine.{Machine}
use Rattle.ordered_fold.specs.Machine.{Core}

abbrev pub core_of : Machine → Core
core_of machine = record {
  claim = machine.claim;
  lock = machine.lock;
  stop = machine.stop;
  cells = machine.cells.items;
  front = machine.front;
  seats = machine.seats.items;
}
