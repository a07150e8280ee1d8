use Rattle.std.proofs.Common.{◌-◌, ℕ, List, arith, ap, sym, ◌∙◌, vec_len}
use Rattle.std.specs.Prelude.{slice_get}
use Rattle.rv_machine.proofs.BlockLemmas.{zero_word, no_word}
use Rattle.rv_machine.proofs.block.Block.get.Goals as goal

pub returns-then-at-self : goal.returns-then-at-self
returns-then-at-self c =
    let block = c.self.inside in
    sym (ap (λ (ws : List ℕ). slice_get ws c.args.at) (sym c.self.view_is)
    ∙ zero_word block.front.items c.args.at (block.size - vec_len block.front) (omega arith)
    (omega arith))

pub returns-else-at-self : goal.returns-else-at-self
returns-else-at-self c =
    let block = c.self.inside in
    sym (ap (λ (ws : List ℕ). slice_get ws c.args.at) (sym c.self.view_is)
    ∙ no_word block.front.items c.args.at (vec_len block.front) block.size (omega arith)
    (omega arith) (omega arith))
