use Rattle.std.proofs.Common.{◌≡◌, ◌<◌, ◌+◌, ◌-◌, ◌%◌, ℕ, List, length, map, swap, refl, sym, ap, ◌∙◌, arith}
use Rattle.std.specs.Prelude.{slice_index_or}
use Rattle.std.specs.List.{range_with_len}
use Rattle.std.proofs.lemmas.List.Edits.{length-swap}
use Rattle.std.proofs.lemmas.List.FromFn.{length-range_with_len}
use Rattle.live_points.specs.declared.point.LivePoint.{LivePoint}
use Rattle.sample_design.proofs.Orders.{exchange_more, exchange_none, order_starts}
use Rattle.warming.proofs.VisitingLemmas.{each_is, swap_mapped}
use Rattle.warming.proofs.visiting.put_in_visit_order.Goals as goal

pub loop-i-init : goal.loop-i-init
loop-i-init c = record {
  places = range_with_len 0 (length c.args.points.now.items);
  wide = length-range_with_len 0 (length c.args.points.now.items);
  rest = rw (c.len-i.ensures ∙ c.args.points.now.ok.0) (order_starts (length c.args.points.now.items) c.args.seed);
  are = λ d. each_is c.args.points.now.items d;
}

pub loop-i-preserved : goal.loop-i-preserved
loop-i-preserved c =
    let i : ℕ = c.loop-i.i - 1 in
    let old : List ℕ = c.loop-i.invariant.places in
    let wide : length old ≡ length c.args.points.now.items = c.loop-i.invariant.wide in
    let other : ℕ = c.draw.result % (i + 1) in
    let within : i < length old = omega arith in
    let other_within : other < length old = omega arith in
    record {
      places = swap old i other;
      wide = length-swap old i other ∙ wide;
      rest =
          rw (c.draw.ensures.state, c.draw.ensures.value)
          (exchange_more i c.loop-i.draws.state old (omega arith) ∙ c.loop-i.invariant.rest);
      are = λ d.
          c.swap.ensures.items
          ∙ ap (λ (ps : List LivePoint). swap ps i other) (c.loop-i.invariant.are d)
          ∙ swap_mapped (λ p. slice_index_or c.args.points.now.items p d) old i other within other_within;
    }

pub returns : goal.returns
returns c = λ d.
    let last : c.loop-i.i - 1 ≡ 0 = omega arith in
    c.loop-i.invariant.are d
    ∙ ap (map (λ p. slice_index_or c.args.points.now.items p d))
    (sym (exchange_none c.loop-i.draws.state c.loop-i.invariant.places) ∙ (rw last at c.loop-i.invariant.rest))
