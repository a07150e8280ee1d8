use Rattle.std.proofs.Common.{◌≡◌, ◌++◌}
use Rattle.live_words.proofs.collector.listed.Given as goal

abbrev pub invariant-loop-addr : goal.invariant-loop-addr
invariant-loop-addr l = l.pairs.items ++ l.addr-iterator ≡ l.map.entries
