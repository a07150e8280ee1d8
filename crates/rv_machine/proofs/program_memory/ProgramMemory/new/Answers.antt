use Rattle.std.proofs.Common.{◌≡◌, ◌+◌, ◌-◌, ◌/◌, ◌^◌, ℕ, List, length, length-append, arith, ap, ◌∙◌, vec_len}
use Rattle.rv_machine.specs.Start.{zeros}
use Rattle.rv_machine.proofs.StartBlockLemmas.{filled}
use Rattle.rv_machine.proofs.BlockLemmas.{length_words, length_zeros}
use Rattle.rv_machine.proofs.program_memory.ProgramMemory.new.Goals as goal

pub returns-clause-words : goal.returns-clause-words
returns-clause-words c =
    let count = (c.heap_low-heap_low.result - c.low-low.result) / 4 in
    c.new.ensures
    ∙ filled c.args.image.now.words c.loop-i.words.items c.loop-i.i (vec_len c.loop-i.words)
    (count + 2 ^ 24) (2 ^ 24) c.loop-i.invariant.words (omega arith) (omega arith) (omega arith)

pub returns-clause-blocks : goal.returns-clause-blocks
returns-clause-blocks c =
    let image = c.args.image.now in
    let words : length c.new.result ≡ length image.words + 2 ^ 24 =
    ap (λ (ws : List ℕ). length ws) (returns-clause-words c)
    ∙ length-append image.words (zeros (2 ^ 24))
    ∙ ap (λ n. length image.words + n) (length_zeros (2 ^ 24)) in
    let stack : length c.new-2.result ≡ 2 ^ 18 =
    ap (λ (ws : List ℕ). length ws) c.new-2.ensures
    ∙ length_words c.in_ok-stack.stack.items (vec_len c.in_ok-stack.stack) (2 ^ 18) (omega arith)
    (omega (arith, c.in_ok-stack.ensures.len)) in
    record {
      aligned = omega arith;
      highest = omega arith;
      words = omega arith;
      size = omega arith;
      stack = stack;
    }
