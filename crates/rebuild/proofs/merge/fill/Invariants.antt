use Rattle.std.proofs.Common.{◌≡◌, set, map, take}
use Rattle.rebuild.proofs.merge.fill.Given as goal

abbrev pub invariant-loop-entry : goal.invariant-loop-entry
invariant-loop-entry l =
    l.cache ≡ record l.fn.cache { sets = set l.fn.cache.sets l.set (map (λ e. e.block) (take l.entry-index l.entries)) }
