use Rattle.std.proofs.Common.{◌≡◌, ◌∙◌, arith, ap, take, refl}
use Rattle.lru_plain.specs.Shape.{sets_of}
use Rattle.lru_plain.specs.Cache.{Cache}
use Rattle.recency_record.specs.Slots.{by_time}
use Rattle.rebuild.specs.Merge.{united, merged_set, merged}
use Rattle.rebuild.proofs.Apart.{merged_apart, merged_homes, merged_blocks}
use Rattle.rebuild.proofs.Filled.{filled, filled_length, still_empty, filled_more, all_filled}
use Rattle.rebuild.proofs.rebuilding.fill_all.Given.{Over}
use Rattle.rebuild.proofs.rebuilding.fill_all.Goals as goal

-- the sets so far
sets_are : (g : Over) (c : goal.After-as_slice g) → c.loop-set.cache.sets ≡ filled (merged_set (g.S.Source.told c.args.source.now) c.args.small) c.sets-count.result c.loop-set.set
sets_are g c = ap (λ (cache : Cache). cache.sets) c.loop-set.invariant

-- the list that is put into the next
list_is : (g : Over) (c : goal.After-as_slice g) → c.as_slice.result.now
    ≡ take c.args.small.ways (by_time (united (sets_of c.args.small) c.loop-set.set 0 (g.S.Source.told c.args.source.now).sets))
list_is g c =
    c.as_slice.ensures.value ∙ rw (c.from-ways.ensures, c.ways.ensures.value, c.sets-count.ensures.value) at c.merge-list.ensures

shape_is : (g : Over) (c : goal.After-as_slice g) → c.loop-set.cache.shape ≡ c.args.small
shape_is g c = ap (λ (cache : Cache). cache.shape) c.loop-set.invariant ∙ c.requires.small

pub fill-requires-clause-within : goal.fill-requires-clause-within
fill-requires-clause-within g c =
    rw (sets_are g c, filled_length (merged_set (g.S.Source.told c.args.source.now) c.args.small) c.sets-count.result c.loop-set.set (omega arith)) (omega arith)

pub fill-requires-clause-empty : goal.fill-requires-clause-empty
fill-requires-clause-empty g c =
    rw (sets_are g c) (still_empty (merged_set (g.S.Source.told c.args.source.now) c.args.small) c.sets-count.result c.loop-set.set (omega arith))

pub fill-requires-clause-homes : goal.fill-requires-clause-homes
fill-requires-clause-homes g c =
    rw (shape_is g c, list_is g c)
    (merged_homes (g.S.Source.told c.args.source.now) c.args.small c.loop-set.set c.args.small.ways c.requires.recency
    (rw (← c.requires.large) at c.requires.fits.sets))

pub fill-requires-clause-blocks : goal.fill-requires-clause-blocks
fill-requires-clause-blocks g c =
    rw (list_is g c) (merged_blocks (g.S.Source.told c.args.source.now) c.args.small c.loop-set.set c.args.small.ways c.requires.recency)

pub fill-requires-clause-apart : goal.fill-requires-clause-apart
fill-requires-clause-apart g c =
    rw (list_is g c) (merged_apart (g.S.Source.told c.args.source.now) c.args.small c.loop-set.set c.args.small.ways c.requires.recency)

pub loop-set-preserved : goal.loop-set-preserved
loop-set-preserved g c =
    let list : c.as_slice.result.now
    ≡ take c.args.small.ways (by_time (united (sets_of c.args.small) c.loop-set.set 0 (g.S.Source.told c.args.source.now).sets)) =
    c.as_slice.ensures.value ∙ rw (c.from-ways.ensures, c.ways.ensures.value, c.sets-count.ensures.value) at c.merge-list.ensures in
    rw (
      c.fill.ensures,
      c.loop-set.invariant,
      list,
      ← filled_more (merged_set (g.S.Source.told c.args.source.now) c.args.small) c.sets-count.result c.loop-set.set (omega arith),
    ) refl

pub returns : goal.returns
unfolding merged
returns g c =
    rw (
      c.loop-set.invariant,
      ← c.sets-count.ensures.value,
      all_filled (merged_set (g.S.Source.told c.args.source.now) c.args.small) c.sets-count.result c.loop-set.set (omega arith) (omega arith),
    ) refl
