use Rattle.std.proofs.Common.{◌≡◌, ◌*◌, ◌-◌, ◌∙◌, arith, refl, ap₂}
use Rattle.lru_plain.specs.Shape.{sets_of}
use Rattle.lru_plain.proofs.ListsLemmas.{row_free, lists_free}
use Rattle.lru_plain.proofs.lists.Lists.new.Goals as goal

pub invariant_of-result : goal.invariant_of-result
invariant_of-result g c =
    let ways : c.from.result ≡ c.args.geometry.ways = c.from.ensures ∙ c.ways.ensures.value in
    let end : c.loop-place._place ≡ c.sets-sets.result * c.from.result = omega (arith, c.loop-place.auto._place-end, c.loop-place-test.false) in
    let long : c.loop-place._place ≡ sets_of c.args.geometry * c.args.geometry.ways =
    end ∙ ap₂ (λ m n. m * n) c.sets-sets.ensures.value ways in
    rw (c.loop-place.invariant.free, c.sets-sets.ensures.value)
    (row_free g.E.Listed.block_in c.free-free.result c.free-free.ensures c.args.geometry (sets_of c.args.geometry - 1)
    c.loop-place._place c.sets-sets.ensures.shape refl long)

pub returns : goal.returns
returns g c =
    rw (c.loop-place.invariant.free, lists_free g.E.Listed.block_in c.free-free.result c.free-free.ensures c.args.geometry c.loop-place._place) refl
