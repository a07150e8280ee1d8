use Rattle.std.proofs.Common.{◌≡◌, ◌-◌, ℕ, List, length, arith, ap, sym, ◌∙◌, vec_len}
use Rattle.std.specs.Prelude.{slice_set}
use Rattle.std.proofs.lemmas.Bool.Decides.{nat_tests}
use Rattle.rv_machine.proofs.BlockLemmas.{length_words, front_set}
use Rattle.rv_machine.proofs.block.Block.set.Goals as goal

pub returns-then-at-self-clause-held : goal.returns-then-at-self-clause-held
returns-then-at-self-clause-held c =
    let block = c.self.inside in
    let all : length c.args.self.now ≡ block.size =
    ap length (sym c.self.view_is)
    ∙ length_words block.front.items (vec_len block.front) block.size (omega arith) (omega arith)
    in
    grind (arith, nat_tests)

pub returns-clause-words : goal.returns-clause-words
returns-clause-words c =
    let front = c.grow.new.front in
    front_set front.items c.args.at c.args.value (c.self.inside.size - vec_len front) (omega arith)
    ∙ ap (λ (ws : List ℕ). slice_set ws c.args.at c.args.value)
    (c.grow.ensures.same ∙ c.self.view_is)
