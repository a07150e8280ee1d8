use Rattle.std.proofs.Common.{◌≡◌, length, map, sym, ap, subst, ◌∙◌}
use Rattle.std.specs.List.{All}
use Rattle.std.proofs.lemmas.List.Elements.{All-same}
use Rattle.ordered_fold.specs.Batch.{IsBatch}
use Rattle.claim_table.specs.Board.{list_at}
use Rattle.claim_table.specs.Shown.{BoardShown}
use Rattle.workers.specs.Crew.{IsSpent}
use Rattle.workers.proofs.CrewLemmas.{each_alike, whole_slice, first_list, batch_run}
use Rattle.workers.proofs.crew.fold_batch.Goals as goal

pub run_members-requires-clause-list : goal.run_members-requires-clause-list
run_members-requires-clause-list g c κs within =
    let is = c.requires.list in
    each_alike (λ u. list_at g.L.Listed.lists c.in_ok-board.board.which ≡ map (g.S.Simulator.answer u) c.args.points.now)
    (λ m. g.S.Simulator.setup m.simulator) is.0 c.deref_mut.result.now
    (All-same (λ m. g.S.Simulator.setup m.simulator ≡ is.0) _ _ c.deref_mut.ensures.value (c.in_ok-members.ensures.alike is.0 is.1))
    (first_list g.L.Listed.lists _ c.in_ok-board.board.which is.3 c.in_ok-board.ensures.board.0)

pub run_members-requires-clause-takes : goal.run_members-requires-clause-takes
run_members-requires-clause-takes g c κs within =
    let is = c.requires.list in
    each_alike (λ u. All (g.S.Simulator.takes u) c.args.points.now) (λ m. g.S.Simulator.setup m.simulator) is.0 c.deref_mut.result.now
    (All-same (λ m. g.S.Simulator.setup m.simulator ≡ is.0) _ _ c.deref_mut.ensures.value (c.in_ok-members.ensures.alike is.0 is.1))
    is.2

pub join_members-pass-requires-clause-spent : goal.join_members-pass-requires-clause-spent
join_members-pass-requires-clause-spent g c =
    All-same (λ m. IsSpent c.in_ok-board.board (list_at g.L.Listed.lists c.in_ok-board.board.which) m.pass m.answered) _ _
    (whole_slice c.run_members.new.members c.in_ok-members.members.items c.in_ok-members.members.len
    (c.run_members.ensures.long ∙ ap length c.deref_mut.ensures.value) (ap length (sym c.deref_mut.ensures.value) ∙ c.deref_mut.ensures.len))
    c.run_members.ensures.spent

pub returns-clause-run : goal.returns-clause-run
returns-clause-run g c = λ answers is.
    batch_run g.L.Listed.lists answers c.in_ok-board.board c.args.start c.close.result (length c.args.simulators.now.items)
    c.join_members-pass.result.1 c.join_members-pass.result.0.view.points is c.in_ok-board.ensures.board.0 c.in_ok-board.ensures.board.2
    (subst (λ (b : BoardShown). b.size ≡ length (list_at g.L.Listed.lists b.which)) c.board.view_is c.board.invariant.size)
    (subst (λ (b : BoardShown). IsBatch b.start (list_at g.L.Listed.lists b.which)) c.board.view_is c.board.invariant.batch)
    c.close.ensures.front c.close.ensures.sound c.close.ensures.points c.join_members-pass.ensures.points
    (λ one. c.join_members-pass.ensures.alone
    (ap length (whole_slice c.run_members.new.members c.in_ok-members.members.items c.in_ok-members.members.len
    (c.run_members.ensures.long ∙ ap length c.deref_mut.ensures.value) (ap length (sym c.deref_mut.ensures.value) ∙ c.deref_mut.ensures.len))
    ∙ c.run_members.ensures.long ∙ ap length c.deref_mut.ensures.value ∙ c.in_ok-members.ensures.long ∙ one))

pub returns-clause-alike : goal.returns-clause-alike
returns-clause-alike g c = λ u alike.
    c.join_members-pass.ensures.alike u
    (All-same (λ m. g.S.Simulator.setup m.simulator ≡ u) _ _
    (whole_slice c.run_members.new.members c.in_ok-members.members.items c.in_ok-members.members.len
    (c.run_members.ensures.long ∙ ap length c.deref_mut.ensures.value) (ap length (sym c.deref_mut.ensures.value) ∙ c.deref_mut.ensures.len))
    (c.run_members.ensures.alike u
    (All-same (λ m. g.S.Simulator.setup m.simulator ≡ u) _ _ c.deref_mut.ensures.value (c.in_ok-members.ensures.alike u alike))))
