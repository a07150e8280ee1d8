use Rattle.std.proofs.Common.{◌≡◌, ◌≤◌, length, sym, ap, subst, ◌∙◌}
use Rattle.std.specs.Slots.{slots_items}
use Rattle.atomic_table.specs.Table.{Final, Seen}
use Rattle.ordered_fold.specs.Front.{IsSound}
use Rattle.ordered_fold.specs.Batch.{fold_from, folded_number}
use Rattle.claim_table.specs.Board.{list_at, IsBoard}
use Rattle.claim_table.specs.Shown.{BoardShown, PassShown}
use Rattle.claim_table.specs.Closing.{HasCells}
use Rattle.claim_table.proofs.ClosingLemmas.{closes}
use Rattle.claim_table.proofs.board.Board.close.Goals as goal

pub fold_words-front-requires-clause-cells : goal.fold_words-front-requires-clause-cells
fold_words-front-requires-clause-cells g c =
    let lists = g.L.Listed.lists in
    let size = subst (λ (b : BoardShown). b.size ≡ length (list_at lists b.which)) c.self.view_is c.self.invariant.size in
    let live = ap (λ (p : PassShown). p.view.seat.live) (sym c.pass.view_is) ∙ c.pass.invariant.live in
    let told = closes lists c.self.inside.table.shared.key c.args.self c.args.pass (slots_items c.close_with-closed.result.words) (slots_items c.close_with-closed.result.slots)
    (subst (λ (p : PassShown). Final (Seen (IsBoard lists c.self.inside.table.shared.key) p.id p.view) (slots_items c.close_with-closed.result.words) (slots_items c.close_with-closed.result.slots)) c.pass.view_is c.close_with-closed.ensures.values.2) c.requires.pass size live c.requires.hand c.requires.alone c.requires.done in
    subst (λ (b : BoardShown). HasCells b.start (list_at lists b.which) (slots_items c.close_with-closed.result.words)) (sym c.self.view_is) told.cells

pub returns-clause-sound : goal.returns-clause-sound
returns-clause-sound g c =
    let lists = g.L.Listed.lists in
    let size = subst (λ (b : BoardShown). b.size ≡ length (list_at lists b.which)) c.self.view_is c.self.invariant.size in
    let live = ap (λ (p : PassShown). p.view.seat.live) (sym c.pass.view_is) ∙ c.pass.invariant.live in
    let told = closes lists c.self.inside.table.shared.key c.args.self c.args.pass (slots_items c.close_with-closed.result.words) (slots_items c.close_with-closed.result.slots)
    (subst (λ (p : PassShown). Final (Seen (IsBoard lists c.self.inside.table.shared.key) p.id p.view) (slots_items c.close_with-closed.result.words) (slots_items c.close_with-closed.result.slots)) c.pass.view_is c.close_with-closed.ensures.values.2) c.requires.pass size live c.requires.hand c.requires.alone c.requires.done in
    let same = subst (λ (b : BoardShown). c.fold_words-front.result ≡ fold_from b.start (list_at lists b.which) b.size) c.self.view_is c.fold_words-front.ensures in
    subst IsSound (sym same) told.sound

pub returns-clause-points : goal.returns-clause-points
returns-clause-points g c =
    let lists = g.L.Listed.lists in
    let size = subst (λ (b : BoardShown). b.size ≡ length (list_at lists b.which)) c.self.view_is c.self.invariant.size in
    let live = ap (λ (p : PassShown). p.view.seat.live) (sym c.pass.view_is) ∙ c.pass.invariant.live in
    let told = closes lists c.self.inside.table.shared.key c.args.self c.args.pass (slots_items c.close_with-closed.result.words) (slots_items c.close_with-closed.result.slots)
    (subst (λ (p : PassShown). Final (Seen (IsBoard lists c.self.inside.table.shared.key) p.id p.view) (slots_items c.close_with-closed.result.words) (slots_items c.close_with-closed.result.slots)) c.pass.view_is c.close_with-closed.ensures.values.2) c.requires.pass size live c.requires.hand c.requires.alone c.requires.done in
    let same = subst (λ (b : BoardShown). c.fold_words-front.result ≡ fold_from b.start (list_at lists b.which) b.size) c.self.view_is c.fold_words-front.ensures in
    (subst (λ f. folded_number c.args.self.start f ≤ c.args.pass.view.points) (sym same) told.folded, told.points)
