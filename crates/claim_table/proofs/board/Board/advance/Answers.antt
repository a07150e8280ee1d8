use Rattle.std.proofs.Common.{◌||◌, not, sym, ap, subst, ◌∙◌}
use Rattle.ordered_fold.specs.Front.{is_going}
use Rattle.claim_table.specs.Shown.{PassShown}
use Rattle.claim_table.specs.Steps.{Holding, released_view}
use Rattle.claim_table.specs.Calls.{Moves}
use Rattle.claim_table.proofs.MoveLemmas.{IsTurn, turns}
use Rattle.claim_table.proofs.board.Board.advance.Goals as goal

pub returns-clause-advances : goal.returns-clause-advances
returns-clause-advances g c =
    let lists = g.L.Listed.lists in
    let taken = c.in-Ok.ensures.taken in
    let told = c.announce_end-pass-inside.ensures in
    let turn : IsTurn lists c.pass.inside.seat.me.0 c.take_front.new.seat.me.0 c.fold_cells-front.new.seat.me.0
    c.announce_end-pass-inside.new.seat.me.0 c.fold_cells-front.result taken.1.0 c.announce_end-pass-inside.result =
    record {
      free = c.pass.invariant.free;
      takes = taken.1.1;
      folds = c.fold_cells-front.ensures.folds;
      tells = told.view;
      later = told.later;
      said = told.told ∙ ap (λ b. b || not (is_going c.fold_cells-front.result.ending)) (sym c.pass.invariant.announced_is);
      front_is = told.front.front_is;
      within = told.front.within;
      drawn = told.front.drawn;
    } in
    let moves = turns lists c.pass.inside.seat.me.0 c.take_front.new.seat.me.0 c.fold_cells-front.new.seat.me.0
    c.announce_end-pass-inside.new.seat.me.0 c.fold_cells-front.result taken.1.0 c.announce_end-pass-inside.result turn in
    let after = ap (λ (m : Holding). m.0) c.put_front.ensures.view in
    subst (λ e. Moves lists c.args.pass.now.view c.put_front.new.seat.me.0 e) (sym c.ending-ending.ensures)
    (subst (λ v. Moves lists c.args.pass.now.view v c.fold_cells-front.result.ending) (sym after)
    (subst (λ (p : PassShown). Moves lists p.view (released_view c.announce_end-pass-inside.new.seat.me.0) c.fold_cells-front.result.ending) c.pass.view_is moves))
