use Rattle.std.proofs.Common.{◌++◌, ◌-◌, ℕ, List, arith, ap, ◌∙◌, vec_len}
use Rattle.rv_machine.specs.Start.{zeros}
use Rattle.rv_machine.proofs.BlockLemmas.{longer_front}
use Rattle.rv_machine.proofs.block.grow.Goals as goal

pub returns-clause-same : goal.returns-clause-same
returns-clause-same c =
    let filled = c.if-prove.ensures.value in
    let old = c.args.front.now in
    let items = rw (← filled) at c.resize.ensures.items in
    let len = rw (← filled) at c.resize.ensures.len in
    ap (λ n. c.resize.new.self.items ++ zeros (c.args.size - n)) len
    ∙ ap (λ (ws : List ℕ). ws ++ zeros (c.args.size - c.min-len.result)) items
    ∙ longer_front old.items (vec_len old) c.min-len.result c.args.size (omega arith)
    (omega arith) (omega arith)
