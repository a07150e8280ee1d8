-- The instructions of the generated program.
use Rattle.std.specs.Prelude.{◌+◌, ◌*◌, ◌/◌, ℕ, ℤ, pos, neg_ℤ, ◌-ℤ◌, ◌*ℤ◌, List, [], ◌∷◌, ◌++◌, map}
use Rattle.std.specs.List.{range_with_len, flat_map}
use Rattle.rv_isa.specs.declared.inst.Inst.{Inst}
use Rattle.rv_isa.specs.declared.inst.Inst.TheVariants.{Lui, Addi, Andi, Add, Xor, And, Mul, Lw, Sw, Beq, Bne, Ecall}
use Rattle.image_maker.specs.declared.choice.Kind.{Kind}
use Rattle.image_maker.specs.declared.choice.Kind.TheVariants as kind
use Rattle.image_maker.specs.declared.choice.Choice.{Choice}
use Rattle.image_maker.specs.Choice.{choice_of}

-- register 8 is where the data begins, 18 keeps the places of its words, and 9 counts the turns
-- that are to come
unfoldable pub start : ℕ → List Inst
start size =
    let high = pos (4096 * ((size + 2048) / 4096)) in
    Lui 8 (pos 0x20000) ∷ Lui 18 (pos 0x10000) ∷ Addi 18 18 (neg_ℤ (pos 4))
    ∷ Lui 9 high ∷ Addi 9 9 (pos size -ℤ high) ∷ []

-- register 6 is the address of the next word of data, at a distance from the last one
abbrev pub next_word : ℤ → List Inst
next_word distance = Addi 7 7 distance ∷ And 7 7 18 ∷ Add 6 7 8 ∷ []

-- four instructions of a kind. The branch goes to the instruction behind it, taken or not
abbrev pub group_by : Kind → ℕ → ℕ → ℤ → List Inst
group_by kind.Mix a b m = Add a a b ∷ Xor b b a ∷ Addi a a m ∷ Mul b b a ∷ []
group_by kind.Load a b m = next_word (pos 4 *ℤ m) ++ Lw a 6 (pos 0) ∷ []
group_by kind.Store a b m = next_word (pos 4 *ℤ m) ++ Sw 6 b (pos 0) ∷ []
group_by kind.Branch a b m = Andi 6 a (pos 1) ∷ Beq 6 0 (pos 4) ∷ Addi a a m ∷ Xor b b a ∷ []

abbrev pub group_of : Choice → List Inst
group_of choice = group_by choice.kind choice.first choice.second choice.amount

-- the first so many groups
unfoldable pub groups : ℕ → ℕ → List Inst
groups seed count = flat_map group_of (map (choice_of seed) (range_with_len 0 count))

-- back to the first group, until no turn is to come
abbrev pub turn_end : List Inst
turn_end = Addi 9 9 (neg_ℤ (pos 1)) ∷ Bne 9 0 (neg_ℤ (pos 1028)) ∷ []

-- exit with code 0
abbrev pub exit : List Inst
exit = Addi 17 0 (pos 93) ∷ Addi 10 0 (pos 0) ∷ Ecall ∷ []

-- the program whose loop turns `size` times
unfoldable pub program : ℕ → ℕ → List Inst
program size seed = start size ++ groups seed 64 ++ turn_end ++ exit
