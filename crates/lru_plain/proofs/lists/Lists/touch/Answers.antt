use Rattle.std.proofs.Common.{◌≡◌, ◌<◌, ℕ, length, drop, ◌∙◌, arith, bit_and}
use Rattle.std.proofs.lemmas.List.{take_at}
use Rattle.lru_plain.specs.Shape.{sets_of, home_of}
use Rattle.lru_plain.proofs.ListsLemmas.{used_row, used_lists, used_hit, masked_home, home_below}
use Rattle.lru_plain.proofs.lists.Lists.touch.Goals as goal

pub invariant_of-self : goal.invariant_of-self
invariant_of-self g c =
    let set : ℕ = bit_and c.block.result c.self.inside.mask in
    let ways : c.from-ways.result ≡ c.self.inside.geometry.ways = c.from-ways.ensures ∙ c.ways.ensures.value in
    let home : bit_and c.block.result c.self.inside.mask ≡ home_of c.self.inside.geometry (g.E.Listed.block_in c.args.element) =
    masked_home g.E.Listed.block_in c.self.inside.geometry c.self.inside.mask c.block.result c.args.element c.self.invariant.last c.block.ensures in
    let below : bit_and c.block.result c.self.inside.mask < sets_of c.self.inside.geometry =
    rw home (home_below c.self.inside.geometry (g.E.Listed.block_in c.args.element)) in
    rw (
      take_at c.use_at.new.row (drop (length c.use_at.new.row) c.self.inside.row.items) c.self.inside.row.len (omega arith),
      c.use_at.ensures.row,
      c.deref_mut.ensures.value,
      c.start_of-start.ensures.value,
      ways,
    ) (used_row g.E.Listed.block_in c.self.inside.geometry c.self.inside.mask c.self.inside.row.items c.self.invariant
    c.args.element set c.requires home below)

pub returns-clause-hit : goal.returns-clause-hit
returns-clause-hit g c =
    let set : ℕ = bit_and c.block.result c.self.inside.mask in
    let ways : c.from-ways.result ≡ c.self.inside.geometry.ways = c.from-ways.ensures ∙ c.ways.ensures.value in
    let home : bit_and c.block.result c.self.inside.mask ≡ home_of c.self.inside.geometry (g.E.Listed.block_in c.args.element) =
    masked_home g.E.Listed.block_in c.self.inside.geometry c.self.inside.mask c.block.result c.args.element c.self.invariant.last c.block.ensures in
    let below : bit_and c.block.result c.self.inside.mask < sets_of c.self.inside.geometry =
    rw home (home_below c.self.inside.geometry (g.E.Listed.block_in c.args.element)) in
    rw (← c.self.view_is, c.use_at.ensures.hit, c.deref_mut.ensures.value, c.start_of-start.ensures.value, ways)
    (used_hit g.E.Listed.block_in c.self.inside.geometry c.self.inside.mask c.self.inside.row.items c.self.invariant
    c.args.element set c.requires home below)

pub returns-clause-value : goal.returns-clause-value
returns-clause-value g c =
    let set : ℕ = bit_and c.block.result c.self.inside.mask in
    let ways : c.from-ways.result ≡ c.self.inside.geometry.ways = c.from-ways.ensures ∙ c.ways.ensures.value in
    let home : bit_and c.block.result c.self.inside.mask ≡ home_of c.self.inside.geometry (g.E.Listed.block_in c.args.element) =
    masked_home g.E.Listed.block_in c.self.inside.geometry c.self.inside.mask c.block.result c.args.element c.self.invariant.last c.block.ensures in
    let below : bit_and c.block.result c.self.inside.mask < sets_of c.self.inside.geometry =
    rw home (home_below c.self.inside.geometry (g.E.Listed.block_in c.args.element)) in
    rw (
      ← c.self.view_is,
      take_at c.use_at.new.row (drop (length c.use_at.new.row) c.self.inside.row.items) c.self.inside.row.len (omega arith),
      c.use_at.ensures.row,
      c.deref_mut.ensures.value,
      c.start_of-start.ensures.value,
      ways,
    ) (used_lists g.E.Listed.block_in c.self.inside.geometry c.self.inside.mask c.self.inside.row.items c.self.invariant
    c.args.element set c.requires home below)
