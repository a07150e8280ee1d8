use Rattle.std.proofs.Common.{rules, ◌≡◌, arith, sym, ap, subst, ◌∙◌}
use Rattle.std.proofs.lemmas.List.Elements.{All-same, All-push}
use Rattle.claim_table.specs.Board.{list_at}
use Rattle.workers.specs.Worker.{IsOver}
use Rattle.workers.specs.Crew.{IsSpent, share}
use Rattle.workers.proofs.CrewLemmas.{all_popped, sum_popped, all_of_none, longer, only_share, over_joined}
use Rattle.workers.proofs.member.join_members.Goals as goal

pub loop-member-init : goal.loop-member-init
loop-member-init g c =
    let popped = all_popped (λ m. IsSpent c.args.board.now (list_at g.L.Listed.lists c.args.board.now.which) m.pass m.answered) _ _ _ _ c.pop.ensures.items c.in-Some.is c.requires.spent in
    let shares = sum_popped (λ m. share m.pass.view) c.args.members.items c.pop.new.self.items c.pop.result _ c.pop.ensures.items c.in-Some.is in
    record {
      own = popped.1.own;
      hand = popped.1.hand;
      over = popped.1.over;
      points = popped.1.points;
      bound = omega (arith, popped.1.few, c.requires.most, longer _ _ _ _ c.pop.ensures.items c.in-Some.is);
      members = popped.0;
      shares = omega (arith, shares, c.requires.shares);
      long = search rules;
      some = search rules;
      room = search rules;
      alone = λ one. popped.1.alone (only_share _ _ _ _ (λ m. share m.pass.view) c.pop.ensures.items c.in-Some.is one c.requires.shares);
      alike = λ u all.
          let back = all_popped (λ m. g.S.Simulator.setup m.simulator ≡ u) _ _ _ _ c.pop.ensures.items c.in-Some.is all in (
            All-same (λ s. g.S.Simulator.setup s ≡ u) _ _ c.push_reserved.ensures.items
                (All-push (λ s. g.S.Simulator.setup s ≡ u) _ _ (all_of_none (λ s. g.S.Simulator.setup s ≡ u) _ c.requires.room.0) back.1),
            back.0,
          );
    }

pub join-requires-clause-other : goal.join-requires-clause-other
join-requires-clause-other g c =
    (all_popped (λ m. IsSpent c.args.board.now (list_at g.L.Listed.lists c.args.board.now.which) m.pass m.answered) _ _ _ _
    c.pop-in-loop-member.ensures.items c.in-Some-pop.is c.loop-member.invariant.members).1.own

pub join-requires-clause-other_hand : goal.join-requires-clause-other_hand
join-requires-clause-other_hand g c =
    (all_popped (λ m. IsSpent c.args.board.now (list_at g.L.Listed.lists c.args.board.now.which) m.pass m.answered) _ _ _ _
    c.pop-in-loop-member.ensures.items c.in-Some-pop.is c.loop-member.invariant.members).1.hand

pub overflow_add-total : goal.overflow_add-total
overflow_add-total g c =
    let popped = all_popped (λ m. IsSpent c.args.board.now (list_at g.L.Listed.lists c.args.board.now.which) m.pass m.answered) _ _ _ _
    c.pop-in-loop-member.ensures.items c.in-Some-pop.is c.loop-member.invariant.members in
    search (rules, popped.1.few, c.requires.most, longer _ _ _ _ c.pop-in-loop-member.ensures.items c.in-Some-pop.is)

pub loop-member-preserved : goal.loop-member-preserved
loop-member-preserved g c =
    let was = c.loop-member.invariant in
    let popped = all_popped (λ m. IsSpent c.args.board.now (list_at g.L.Listed.lists c.args.board.now.which) m.pass m.answered) _ _ _ _
    c.pop-in-loop-member.ensures.items c.in-Some-pop.is was.members in
    let shares = sum_popped (λ m. share m.pass.view) c.loop-member.members.items c.pop-in-loop-member.new.self.items c.pop-in-loop-member.result _
    c.pop-in-loop-member.ensures.items c.in-Some-pop.is in
    let longer_by = longer _ _ _ _ c.pop-in-loop-member.ensures.items c.in-Some-pop.is in
    record {
      own = search rules;
      hand = search rules;
      over = subst IsOver (sym c.join.ensures.view) (over_joined c.loop-member.first.view c.in-Some-pop.member.pass.view was.over);
      points = ap (λ v. v.points) c.join.ensures.view ∙ omega (arith, was.points, popped.1.points);
      bound = omega (arith, popped.1.few, c.requires.most, was.bound, longer_by);
      members = popped.0;
      shares =
          let spare = ap (λ v. v.spare) c.join.ensures.view in
          let merged = ap (λ v. v.merged) c.join.ensures.view in
          omega (arith, spare, merged, shares, was.shares);
      long = search rules;
      some = search rules;
      room = search rules;
      alone = λ one. absurd (omega (arith, one, was.long, was.some, longer_by));
      alike = λ u all.
          let both = was.alike u all in
          let back = all_popped (λ m. g.S.Simulator.setup m.simulator ≡ u) _ _ _ _ c.pop-in-loop-member.ensures.items c.in-Some-pop.is both.1 in (
            All-same (λ s. g.S.Simulator.setup s ≡ u) _ _ c.push_reserved-in-Some-pop.ensures.items
                (All-push (λ s. g.S.Simulator.setup s ≡ u) _ _ both.0 back.1),
            back.0,
          );
    }

pub returns-clause-alike : goal.returns-clause-alike
returns-clause-alike g c = λ u all. (c.loop-member.invariant.alike u all).0
