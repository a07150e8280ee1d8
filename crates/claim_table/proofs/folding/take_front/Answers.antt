use Rattle.std.proofs.Common.{rules, ◌/◌, Some, sym, ap, ◌∙◌, ◌∷◌}
use Rattle.claim_table.specs.Steps.{front_at}
use Rattle.atomic_table.specs.Table.{rest}
use Rattle.ordered_fold.proofs.MachineLemmas.{IsIdle}
use Rattle.claim_table.proofs.LockLemmas.{tries}
use Rattle.claim_table.proofs.FoldingLemmas.{even_of, taken_slot}
use Rattle.claim_table.proofs.folding.take_front.Goals as goal

pub fetch_or-found-requires : goal.fetch_or-found-requires
fetch_or-found-requires g c =
    let idle : IsIdle c.args.seat.now.me.0.seat =
    record { live = c.requires.idle.live; hand = c.requires.idle.hand; holder = c.requires.idle.free } in
    (c.requires.table, c.requires.words, tries g.L.Listed.lists _ _ _ c.args.seat.now.me idle)

pub exchange-requires : goal.exchange-requires
exchange-requires g c =
    let slot = taken_slot g.L.Listed.lists c.args.seat.now.me c.fetch_or-found.new.seat.me c.fetch_or-found.result c.requires.idle
    c.fetch_or-found.ensures.2 (even_of c.fetch_or-found.result c.if-found-eq1.false) in
    (search rules, (Some (front_at g.L.Listed.lists c.args.seat.now.me.0 (c.fetch_or-found.result / 2)), slot ∙ ap (λ l. (0, Some (front_at g.L.Listed.lists c.args.seat.now.me.0 (c.fetch_or-found.result / 2))) ∷ rest l) (sym slot)))
