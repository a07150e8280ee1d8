use Rattle.std.proofs.Common.{◌≡◌, [], drop, arith}
use Rattle.std.proofs.lemmas.List.{drop_all}
use Rattle.ruu_timing.proofs.EventsLemmas.{least_rest, least_small}
use Rattle.ruu_timing.proofs.events.least_next.Goals as goal

pub loop-i-init : goal.loop-i-init
loop-i-init c = record { rest = omega (arith, least_small c.args.from c.args.latest.now.items); small = omega arith }

pub loop-i-preserved : goal.loop-i-preserved
loop-i-preserved c = record {
  rest = omega (
    arith,
    c.loop-i.invariant.rest,
    c.min-t.ensures,
    c.next_at.ensures,
    least_rest c.args.from c.loop-i.i c.args.latest.now.items (omega arith),
  );
  small = omega (arith, c.loop-i.invariant.small, c.min-t.ensures);
}

pub returns : goal.returns
returns c =
    let none : drop c.loop-i.i c.args.latest.now.items ≡ [] = drop_all c.loop-i.i c.args.latest.now.items (omega arith) in
    let rest = rw none at c.loop-i.invariant.rest in
    omega (arith, rest, c.loop-i.invariant.small)
