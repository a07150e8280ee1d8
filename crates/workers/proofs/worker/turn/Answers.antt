use Rattle.std.proofs.Common.{Some, length, inl, inr, sym, ap, subst, ◌∙◌}
use Rattle.std.proofs.lemmas.List.{length-map}
use Rattle.std.specs.Option.{is_some}
use Rattle.claim_table.specs.declared.claim.Claim.TheVariants.{Point, Past}
use Rattle.workers.specs.Worker.{Stopped}
use Rattle.workers.proofs.WorkerLemmas.{over_before, past_drawn, point_answered, own_batch, own_draws, is_seen, end_told, no_end, is_unseen, answered_point}
use Rattle.workers.proofs.worker.turn.Goals.{then-past-via-then-past, then-past-via-else-past+then-is_some, then-past-via-else-past+else-is_some+then-is_some-2}
use Rattle.workers.proofs.worker.turn.Goals as goal

pub returns-then-past-clause-turned : goal.returns-then-past-clause-turned
returns-then-past-clause-turned g c = elim c.then-past.branch [
  | then-past-via-then-past w ↦
      subst (λ p. Stopped g.L.Listed.lists c.args.pass.now.view p.view) (sym w.pass-is)
      (over_before g.L.Listed.lists c.args.pass.now.view c.requires.hand (inl (sym c.past.ensures ∙ w.if-past.true)))
  | then-past-via-else-past+then-is_some w ↦
      subst (λ p. Stopped g.L.Listed.lists c.args.pass.now.view p.view) (sym w.pass-is)
      (over_before g.L.Listed.lists c.args.pass.now.view c.requires.hand
      (inr (is_seen c.args.pass.now.view.seat.seen_end (ap is_some (sym w.seen_end.ensures) ∙ sym w.is_some.ensures ∙ w.if-is_some.true))))
  | then-past-via-else-past+else-is_some+then-is_some-2 w ↦
      subst (λ p. Stopped g.L.Listed.lists c.args.pass.now.view p.view) (sym w.pass-is)
      (end_told g.L.Listed.lists c.args.pass.now.view w.ended.new.pass.view w.ended.result
      (sym w.is_some-else-is_some.ensures ∙ w.if-is_some-2.true) c.requires.hand
      (own_batch g.L.Listed.lists c.args.board.now c.args.pass.now c.requires.own c.requires.batch)
      w.ended.ensures.ends)
]

pub returns-in_default-clause-turned : goal.returns-in_default-clause-turned
returns-in_default-clause-turned g c =
    past_drawn g.L.Listed.lists c.args.pass.now.view c.ended.new.pass.view c.claim.new.pass.view c.in_default.field-0
    c.requires.hand (own_batch g.L.Listed.lists c.args.board.now c.args.pass.now c.requires.own c.requires.batch)
    (no_end g.L.Listed.lists c.args.pass.now.view c.ended.new.pass.view c.ended.result
    (sym c.is_some-else-is_some.ensures ∙ c.if-is_some-2.false) c.ended.ensures.ends)
    (own_draws g.L.Listed.lists c.args.board.now c.args.pass.now c.ended.new.pass.view c.claim.new.pass.view c.claim.result
    (Past c.in_default.field-0) c.requires.own (c.requires.size ∙ sym (length-map c.args.points.now _) ∙ ap length (sym c.requires.list)) c.in_default.is c.claim.ensures.draws)

pub report-requires-clause-hand : goal.report-requires-clause-hand
report-requires-clause-hand g c =
    let is = answered_point g.L.Listed.lists c.args.board.now c.args.pass.now c.ended.new.pass.view c.claim.new.pass.view
    c.in-Point.number (g.S.Simulator.answer (g.S.Simulator.setup c.args.simulator.now)) c.args.points.now c.index-points-number.result
    c.requires.own (no_end g.L.Listed.lists c.args.pass.now.view c.ended.new.pass.view c.ended.result
    (sym c.is_some-else-is_some.ensures ∙ c.if-is_some-2.false) c.ended.ensures.ends)
    c.in-Point.ensures.draws (c.requires.size ∙ sym (length-map c.args.points.now _) ∙ ap length (sym c.requires.list)) c.requires.list c.index-points-number.is in
    (c.in-Point.number, is.hand, is.answer_is ∙ ap Some (sym c.simulate-answer.ensures.answer))

pub returns-clause-turned : goal.returns-clause-turned
returns-clause-turned g c =
    point_answered g.L.Listed.lists c.args.pass.now.view c.ended.new.pass.view c.claim.new.pass.view c.report.new.pass.view
    c.advance.new.pass.view c.in-Point.number c.advance.result
    (sym c.past.ensures ∙ c.if-past.false, is_unseen c.args.pass.now.view.seat.seen_end (ap is_some (sym c.seen_end.ensures) ∙ sym c.is_some.ensures ∙ c.if-is_some.false))
    (no_end g.L.Listed.lists c.args.pass.now.view c.ended.new.pass.view c.ended.result
    (sym c.is_some-else-is_some.ensures ∙ c.if-is_some-2.false) c.ended.ensures.ends)
    (own_draws g.L.Listed.lists c.args.board.now c.args.pass.now c.ended.new.pass.view c.claim.new.pass.view c.claim.result
    (Point c.in-Point.number) c.requires.own (c.requires.size ∙ sym (length-map c.args.points.now _) ∙ ap length (sym c.requires.list)) c.in-Point.is c.claim.ensures.draws)
    c.report.ensures.view c.advance.ensures.advances
