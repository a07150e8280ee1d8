use Rattle.std.proofs.Common.{◌≡◌, ◌<◌, ℕ, List, length, ◌+◌, ◌-◌, ◌%◌, sym, ◌∙◌, arith}
use Rattle.std.specs.List.{range_with_len}
use Rattle.std.proofs.lemmas.List.Sorted.{IsPermutation-refl, IsPermutation-swap, IsPermutation-trans}
use Rattle.std.proofs.lemmas.List.FromFn.{length-range_with_len}
use Rattle.std.proofs.lemmas.List.Edits.{length-swap}
use Rattle.sample_design.proofs.Orders.{exchange_more, exchange_none, order_starts, places_below}
use Rattle.sample_design.proofs.order.visit_order.Goals as goal

pub loop-i-init : goal.loop-i-init
loop-i-init c =
    rw c.in_ok-places.ensures
    (record {
      wide = length-range_with_len 0 c.args.n;
      rest = order_starts c.args.n c.args.seed;
      shuffled = IsPermutation-refl (range_with_len 0 c.args.n);
    })

pub loop-i-preserved : goal.loop-i-preserved
loop-i-preserved c =
    let i : ℕ = c.loop-i.i - 1 in
    let old : List ℕ = c.loop-i.places.items in
    let positive : 0 < i = omega arith in
    let wide : length old ≡ c.args.n = c.loop-i.invariant.wide in
    let within : i < length old = omega arith in
    let other : ℕ = c.draw.result % (i + 1) in
    let other_within : other < length old = omega arith in
    record {
      wide = rw c.swap.ensures.items (length-swap old i other ∙ wide);
      rest =
          rw (c.swap.ensures.items, c.draw.ensures.state, c.draw.ensures.value)
          (exchange_more i c.loop-i.draws.state old positive ∙ c.loop-i.invariant.rest);
      shuffled = IsPermutation-trans _ old _ c.loop-i.invariant.shuffled
          (IsPermutation-swap old _ i other within other_within c.swap.ensures.items);
    }

pub returns-clause-order : goal.returns-clause-order
returns-clause-order c =
    let last : c.loop-i.i - 1 ≡ 0 = omega arith in
    sym (exchange_none c.loop-i.draws.state c.loop-i.places.items)
    ∙ (rw last at c.loop-i.invariant.rest)

pub returns-clause-below : goal.returns-clause-below
returns-clause-below c = places_below _ _ c.loop-i.invariant.shuffled
