use Rattle.std.proofs.Common.{◌≡◌, ◌-◌, []}
use Rattle.livepoint_format.specs.Reading.{items}
use Rattle.livepoint_format.specs.Decoding.{counter_after}
use Rattle.livepoint_format.proofs.image.counters_one_by_one.Given as goal

abbrev pub invariant-loop : goal.invariant-loop
invariant-loop l = items counter_after (l.count - l.counter) l.counters.items l.cursor ≡ items counter_after l.count [] l.fn.cursor
