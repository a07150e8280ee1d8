use Rattle.std.proofs.Common.{◌≡◌, length}
use Rattle.workers.proofs.tests.readers.Given as goal

abbrev pub invariant-loop-reader : goal.invariant-loop-reader
invariant-loop-reader l = length l.readers.items ≡ l._reader
