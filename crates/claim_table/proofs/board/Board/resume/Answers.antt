use Rattle.std.proofs.Common.{◌+◌, replicate, ap, ◌∙◌}
use Rattle.claim_table.proofs.PassLemmas.{opens}
use Rattle.claim_table.proofs.board.Board.resume.Goals as goal

pub new-requires : goal.new-requires
new-requires g c =
    let copies = c.in_ok-words.ensures.items_if_clones_equal in
    rw (c.deref.ensures.value, c.push_reserved.ensures.items, c.in_ok-slots.ensures.items)
    (opens g.L.Listed.lists (record { which = c.args.which; start = c.args.start }) c.in_ok-words.words.items c.requires.batch
    (copies (λ y e. e) ∙ ap (λ n. replicate (n + 3) 0) c.requires.listed))
