use Rattle.std.proofs.Common.{◌≡◌, ◌-◌, ◌++◌, [], map, replicate}
use Rattle.std.specs.List.{range_with_len}
use Rattle.rebuild.specs.Merge.{merged_set}
use Rattle.rebuild.proofs.rebuilding.fill_all.Given as goal

abbrev pub invariant-loop-set : goal.invariant-loop-set
invariant-loop-set g l =
    l.cache ≡ record l.fn.cache {
      sets = map (merged_set (g.S.Source.told l.source) l.fn.small) (range_with_len 0 l.set) ++ replicate (l.count - l.set) [];
    }
