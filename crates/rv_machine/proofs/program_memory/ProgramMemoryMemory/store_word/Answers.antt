use Rattle.std.proofs.Common.{List, ℕ, ap, arith, ◌∙◌}
use Rattle.rv_machine.specs.ProgramMemory.{words_of}
use Rattle.rv_machine.proofs.ProgramMemoryLemmas.{first_written, second_written}
use Rattle.rv_machine.proofs.program_memory.ProgramMemoryMemory.store_word.Goals as goal

pub returns-then-addr-lt-STACK_LOW-clause-held : goal.returns-then-addr-lt-STACK_LOW-clause-held
returns-then-addr-lt-STACK_LOW-clause-held c =
    let self = c.args.self.now in
    (first_written self.low self.heap_low c.args.addr c.place.result c.args.value c.set.result
    self.words self.stack c.requires c.place.ensures (omega arith) c.set.ensures.held).0

pub returns-then-addr-lt-STACK_LOW-clause-words : goal.returns-then-addr-lt-STACK_LOW-clause-words
returns-then-addr-lt-STACK_LOW-clause-words c =
    let self = c.args.self.now in
    ap (λ (ws : List ℕ). words_of self.low ws self.stack) c.set.ensures.words
    ∙ (first_written self.low self.heap_low c.args.addr c.place.result c.args.value c.set.result
    self.words self.stack c.requires c.place.ensures (omega arith) c.set.ensures.held).1

pub returns-else-addr-lt-STACK_LOW-clause-held : goal.returns-else-addr-lt-STACK_LOW-clause-held
returns-else-addr-lt-STACK_LOW-clause-held c =
    let self = c.args.self.now in
    let set = c.set-else-addr-lt-STACK_LOW in
    (second_written self.low self.heap_low c.args.addr c.place-else-addr-lt-STACK_LOW.result
    c.args.value set.result self.words self.stack c.requires
    c.place-else-addr-lt-STACK_LOW.ensures (omega arith) set.ensures.held).0

pub returns-else-addr-lt-STACK_LOW-clause-words : goal.returns-else-addr-lt-STACK_LOW-clause-words
returns-else-addr-lt-STACK_LOW-clause-words c =
    let self = c.args.self.now in
    let set = c.set-else-addr-lt-STACK_LOW in
    ap (λ (ws : List ℕ). words_of self.low self.words ws) set.ensures.words
    ∙ (second_written self.low self.heap_low c.args.addr c.place-else-addr-lt-STACK_LOW.result
    c.args.value set.result self.words self.stack c.requires
    c.place-else-addr-lt-STACK_LOW.ensures (omega arith) set.ensures.held).1
