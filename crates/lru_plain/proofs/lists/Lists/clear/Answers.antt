use Rattle.std.proofs.Common.{◌≡◌, ◌*◌, ◌∙◌, length, drop, ap, arith, refl}
use Rattle.std.proofs.lemmas.List.{take_at}
use Rattle.lru_plain.specs.Shape.{sets_of}
use Rattle.lru_plain.proofs.ListsLemmas.{row_free, lists_free}
use Rattle.lru_plain.proofs.lists.Lists.clear.Goals as goal

pub invariant_of-self : goal.invariant_of-self
invariant_of-self g c =
    let long : length c.deref_mut.result.now ≡ sets_of c.self.inside.geometry * c.self.inside.geometry.ways =
    ap length c.deref_mut.ensures.value ∙ c.self.invariant.long in
    rw (
      take_at c.free_all.new.row (drop (length c.free_all.new.row) c.self.inside.row.items) c.self.inside.row.len (omega arith),
      c.free_all.ensures,
    ) (row_free g.E.Listed.block_in c.free.result c.free.ensures c.self.inside.geometry c.self.inside.mask
    (length c.deref_mut.result.now) c.self.invariant.shape c.self.invariant.last long)

pub returns : goal.returns
returns g c =
    rw (
      ← c.self.view_is,
      take_at c.free_all.new.row (drop (length c.free_all.new.row) c.self.inside.row.items) c.self.inside.row.len (omega arith),
      c.free_all.ensures,
      lists_free g.E.Listed.block_in c.free.result c.free.ensures c.self.inside.geometry (length c.deref_mut.result.now),
    ) refl
