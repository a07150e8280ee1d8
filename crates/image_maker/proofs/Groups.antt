-- Each group of the generated program takes four instructions and leaves what the loop rests on.
use Rattle.std.proofs.Common.{◌≡◌, ◌<◌, ◌≤◌, ◌+◌, ◌%◌, ◌^◌, ℕ, pos, List, get_or, refl, ap, ◌∙◌, arith}
use Rattle.std.specs.Prelude.{slice_index, bit_and, ◌*ℤ◌}
use Rattle.std.proofs.lemmas.Int.{ints}
use Rattle.std.proofs.lemmas.Nat.{and_le_r}
use Rattle.std.proofs.lemmas.Nat.Bits.{bit_at_and}
use Rattle.rv_isa.specs.declared.inst.Inst.{Inst}
use Rattle.rv_isa.specs.declared.inst.Inst.TheVariants.{Addi, Andi, Add, Xor, And, Mul, Lw, Sw, Beq, Ecall}
use Rattle.rv_exec.specs.Arithmetic.{sum_of}
use Rattle.rv_exec.specs.Word.{offset_by}
use Rattle.rv_exec.specs.Machine.{State}
use Rattle.image_maker.specs.declared.choice.Kind.{Kind}
use Rattle.image_maker.specs.declared.choice.Kind.TheVariants as kind
use Rattle.image_maker.specs.Choice.{IsDrawnRegister}
use Rattle.image_maker.specs.Program.{group_by}
use Rattle.image_maker.proofs.Stands.{Stands, IsFree, IsData, free_low, drawn_free, read_new, compute, load, store, pass}

-- four instructions of the code
pub record IsGroup (code : List Inst) (place : ℕ) (group : List Inst) : Type 0 where
  pub first : get_or code place Ecall ≡ get_or group 0 Ecall
  pub second : get_or code (place + 1) Ecall ≡ get_or group 1 Ecall
  pub third : get_or code (place + 2) Ecall ≡ get_or group 2 Ecall
  pub fourth : get_or code (place + 3) Ecall ≡ get_or group 3 Ecall

masked : (x : ℕ) → bit_and x 0xFFFC % 4 ≡ 0
masked x = omega (arith, bit_at_and x 0xFFFC 0, bit_at_and x 0xFFFC 1)

is_data : (x : ℕ) → IsData (sum_of (bit_and x 0xFFFC) 0x00020000)
unfolding sum_of
is_data x =
    let most : bit_and x 0xFFFC ≤ 0xFFFC = and_le_r x 0xFFFC in
    let even : bit_and x 0xFFFC % 4 ≡ 0 = masked x in
    record { aligned = omega arith; low = omega arith; high = omega arith }

no_offset : (x : ℕ) → x < 2 ^ 32 → offset_by x (pos 0) ≡ x
no_offset x h = omega (arith, ints)

data_at : (x : ℕ) → IsData x → IsData (offset_by x (pos 0))
data_at x there = rw (no_offset x (omega (arith, there.high))) there

free_7 : IsFree 7
free_7 = free_low 7 (omega arith) (omega arith)

free_6 : IsFree 6
free_6 = free_low 6 (omega arith) (omega arith)

mix :
    (start : State) (code : List Inst) (n place turns a b d : ℕ)
    → IsDrawnRegister a → IsDrawnRegister b → d ≤ 500 → place + 4 ≤ 266
    → IsGroup code place (group_by kind.Mix a b (pos d))
    → Stands start code n place turns → Stands start code (n + 4) (place + 4) turns
mix start code n place turns a b d ha hb few below group s0 =
    let free_a = drawn_free a ha in
    let free_b = drawn_free b hb in
    let s1 =
    compute start code n place turns s0 (Add a a b) a _ (n + 1) (place + 1) refl refl (omega arith)
    group.first free_a refl in
    let s2 =
    compute start code (n + 1) (place + 1) turns s1.0 (Xor b b a) b _ (n + 2) (place + 2) (omega arith) (omega arith) (omega arith)
    group.second free_b refl in
    let s3 =
    compute start code (n + 2) (place + 2) turns s2.0 (Addi a a (pos d)) a _ (n + 3) (place + 3) (omega arith) (omega arith) (omega arith)
    group.third free_a refl in
    let s4 =
    compute start code (n + 3) (place + 3) turns s3.0 (Mul b b a) b _ (n + 4) (place + 4) (omega arith) (omega arith) (omega arith)
    group.fourth free_b refl in
    s4.0

branch :
    (start : State) (code : List Inst) (n place turns a b d : ℕ)
    → IsDrawnRegister a → IsDrawnRegister b → d ≤ 500 → place + 4 ≤ 266
    → IsGroup code place (group_by kind.Branch a b (pos d))
    → Stands start code n place turns → Stands start code (n + 4) (place + 4) turns
branch start code n place turns a b d ha hb few below group s0 =
    let free_a = drawn_free a ha in
    let free_b = drawn_free b hb in
    let s1 =
    compute start code n place turns s0 (Andi 6 a (pos 1)) 6 _ (n + 1) (place + 1) refl refl (omega arith)
    group.first free_6 refl in
    let s2 =
    pass start code (n + 1) (place + 1) turns s1.0 (Beq 6 0 (pos 4)) _ (n + 2) (place + 2) (omega arith) (omega arith) (omega arith)
    group.second refl in
    let s3 =
    compute start code (n + 2) (place + 2) turns s2 (Addi a a (pos d)) a _ (n + 3) (place + 3) (omega arith) (omega arith) (omega arith)
    group.third free_a refl in
    let s4 =
    compute start code (n + 3) (place + 3) turns s3.0 (Xor b b a) b _ (n + 4) (place + 4) (omega arith) (omega arith) (omega arith)
    group.fourth free_b refl in
    s4.0

-- the three instructions that find the next word of data
pub record Finds (start : State) (code : List Inst) (n place turns : ℕ) : Type 0 where
  pub stands : Stands start code n place turns
  pub found : IsData (slice_index stands.state.regs 6)

finds :
    (start : State) (code : List Inst) (n place turns d : ℕ)
    → d ≤ 500 → place + 4 ≤ 266
    → get_or code place Ecall ≡ Addi 7 7 (pos 4 *ℤ pos d)
    → get_or code (place + 1) Ecall ≡ And 7 7 18
    → get_or code (place + 2) Ecall ≡ Add 6 7 8
    → Stands start code n place turns → Finds start code (n + 3) (place + 3) turns
finds start code n place turns d few below one two three s0 =
    let s1 =
    compute start code n place turns s0 (Addi 7 7 (pos 4 *ℤ pos d)) 7 _ (n + 1) (place + 1) refl refl (omega arith)
    one free_7 refl in
    let r1 : List ℕ = s1.0.state.regs in
    let anded : ℕ = bit_and (slice_index r1 7) (slice_index r1 18) in
    let s2 =
    compute start code (n + 1) (place + 1) turns s1.0 (And 7 7 18) 7 anded (n + 2) (place + 2) (omega arith) (omega arith) (omega arith)
    two free_7 refl in
    let r2 : List ℕ = s2.0.state.regs in
    let found : ℕ = sum_of (slice_index r2 7) (slice_index r2 8) in
    let s3 =
    compute start code (n + 2) (place + 2) turns s2.0 (Add 6 7 8) 6 found (n + 3) (place + 3) (omega arith) (omega arith) (omega arith)
    three free_6 refl in
    let seven : slice_index r2 7 ≡ bit_and (slice_index r1 7) 0xFFFC =
    ap (λ (r : List ℕ). slice_index r 7) s2.1
    ∙ read_new r1 7 anded (omega arith) (omega (arith, s1.0.set.size))
    ∙ ap (bit_and (slice_index r1 7)) s1.0.set.mask in
    let six : slice_index s3.0.state.regs 6 ≡ sum_of (bit_and (slice_index r1 7) 0xFFFC) 0x00020000 =
    ap (λ (r : List ℕ). slice_index r 6) s3.1
    ∙ read_new r2 6 found (omega arith) (omega (arith, s2.0.set.size))
    ∙ ap (λ (x : ℕ). sum_of x (slice_index r2 8)) seven
    ∙ ap (sum_of (bit_and (slice_index r1 7) 0xFFFC)) s2.0.set.base in
    record { stands = s3.0; found = rw six (is_data (slice_index r1 7)) }

loading :
    (start : State) (code : List Inst) (n place turns a b d : ℕ)
    → IsDrawnRegister a → IsDrawnRegister b → d ≤ 500 → place + 4 ≤ 266
    → IsGroup code place (group_by kind.Load a b (pos d))
    → Stands start code n place turns → Stands start code (n + 4) (place + 4) turns
loading start code n place turns a b d ha hb few below group s0 =
    let f = finds start code n place turns d few below group.first group.second group.third s0 in
    load start code (n + 3) (place + 3) turns f.stands (Lw a 6 (pos 0)) a _ (n + 4) (place + 4) (omega arith) (omega arith) (omega arith)
    group.fourth (drawn_free a ha) refl
    (data_at (slice_index f.stands.state.regs 6) f.found)

storing :
    (start : State) (code : List Inst) (n place turns a b d : ℕ)
    → IsDrawnRegister a → IsDrawnRegister b → d ≤ 500 → place + 4 ≤ 266
    → IsGroup code place (group_by kind.Store a b (pos d))
    → Stands start code n place turns → Stands start code (n + 4) (place + 4) turns
storing start code n place turns a b d ha hb few below group s0 =
    let f = finds start code n place turns d few below group.first group.second group.third s0 in
    store start code (n + 3) (place + 3) turns f.stands (Sw 6 b (pos 0)) _ _ (n + 4) (place + 4) (omega arith) (omega arith) (omega arith)
    group.fourth refl
    (data_at (slice_index f.stands.state.regs 6) f.found)

pub group_goes :
    (start : State) (code : List Inst) (n place turns a b d : ℕ) (k : Kind)
    → IsDrawnRegister a → IsDrawnRegister b → d ≤ 500 → place + 4 ≤ 266
    → IsGroup code place (group_by k a b (pos d))
    → Stands start code n place turns → Stands start code (n + 4) (place + 4) turns
group_goes start code n place turns a b d kind.Mix ha hb few below group s =
    mix start code n place turns a b d ha hb few below group s
group_goes start code n place turns a b d kind.Load ha hb few below group s =
    loading start code n place turns a b d ha hb few below group s
group_goes start code n place turns a b d kind.Store ha hb few below group s =
    storing start code n place turns a b d ha hb few below group s
group_goes start code n place turns a b d kind.Branch ha hb few below group s =
    branch start code n place turns a b d ha hb few below group s
