use Rattle.std.proofs.Common.{rules, ◌≡◌, arith, ap}
use Rattle.std.proofs.lemmas.List.Elements.{All-same, All-push}
use Rattle.workers.specs.Crew.{IsFresh, share}
use Rattle.workers.proofs.CrewLemmas.{sum_pushed, all_popped, fresh_child}
use Rattle.workers.proofs.member.members_of.Goals as goal

pub loop-simulator-preserved : goal.loop-simulator-preserved
loop-simulator-preserved g c = record {
  fresh = search rules;
  merged = search rules;
  spare = search rules;
  members = All-same (λ m. IsFresh c.args.board.now m.pass) _ _ c.push_reserved.ensures.items
      (All-push (λ m. IsFresh c.args.board.now m.pass) _ _ c.loop-simulator.invariant.members
      (fresh_child c.args.board.now c.loop-simulator.first c.split.result c.loop-simulator.invariant.fresh c.split.ensures.board c.split.ensures.child));
  shares =
      let one : share c.split.result.view ≡ 1 = ap share c.split.ensures.child in
      let more = sum_pushed (λ m. share m.pass.view) c.loop-simulator.members.items c.push_reserved.new.self.items _ c.push_reserved.ensures.items in
      omega (arith, one, more, c.loop-simulator.invariant.shares, c.push_reserved.ensures.len);
  long = search rules;
  reserved = search rules;
  room = search rules;
  alike = λ u all.
      let was = c.loop-simulator.invariant.alike u all in
      let popped = all_popped (λ s. g.S.Simulator.setup s ≡ u) _ _ _ _ c.pop-in-loop-simulator.ensures.items c.in-Some-pop.is was.1 in (
        was.0,
        popped.0,
        All-same (λ m. g.S.Simulator.setup m.simulator ≡ u) _ _ c.push_reserved.ensures.items
            (All-push (λ m. g.S.Simulator.setup m.simulator ≡ u) _ _ was.2 popped.1),
      );
}

pub returns-clause-fresh : goal.returns-clause-fresh
returns-clause-fresh g c =
    All-same (λ m. IsFresh c.args.board.now m.pass) _ _ c.push_reserved-2.ensures.items
    (All-push (λ m. IsFresh c.args.board.now m.pass) _ _ c.loop-simulator.invariant.members c.loop-simulator.invariant.fresh)

pub returns-clause-alike : goal.returns-clause-alike
returns-clause-alike g c = λ u all.
    All-same (λ m. g.S.Simulator.setup m.simulator ≡ u) _ _ c.push_reserved-2.ensures.items
    (All-push (λ m. g.S.Simulator.setup m.simulator ≡ u) _ _ (c.loop-simulator.invariant.alike u all).2 (c.loop-simulator.invariant.alike u all).0)
