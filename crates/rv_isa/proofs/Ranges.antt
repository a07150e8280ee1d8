-- The fields of a word are in range.
use Rattle.std.proofs.Common.{◌≡◌, ◌<◌, ◌^◌, ◌+◌, ◌*◌, ◌%◌, ℕ, Option, Some, None, IfSome, arith}
use Rattle.std.proofs.lemmas.Int.{ints}
use Rattle.std.proofs.lemmas.Bool.Decides.{nat_tests}
use Rattle.rv_isa.specs.declared.inst.Inst.{Inst}
use Rattle.rv_isa.specs.Field.{bits, sign_extended}
use Rattle.rv_isa.specs.Table.{Row, R, I, Shift, S, B, U, J, Order, Whole, row, Holds, InRange, IsWordOf, IsEncodable, IsSigned, IsMultipleOf}

signed_12 : (n : ℕ) → n < 2 ^ 12 → IsSigned 12 (sign_extended 12 n)
signed_12 n h = (grind (arith, ints, nat_tests), grind (arith, ints, nat_tests))

signed_13 : (n : ℕ) → n < 2 ^ 13 → IsSigned 13 (sign_extended 13 n)
signed_13 n h = (grind (arith, ints, nat_tests), grind (arith, ints, nat_tests))

signed_21 : (n : ℕ) → n < 2 ^ 21 → IsSigned 21 (sign_extended 21 n)
signed_21 n h = (grind (arith, ints, nat_tests), grind (arith, ints, nat_tests))

signed_32 : (n : ℕ) → n < 2 ^ 32 → IsSigned 32 (sign_extended 32 n)
signed_32 n h = (grind (arith, ints, nat_tests), grind (arith, ints, nat_tests))

even_13 : (n : ℕ) → n < 2 ^ 13 → n % 2 ≡ 0 → IsMultipleOf 2 (sign_extended 13 n)
even_13 n h even = grind (arith, ints, nat_tests)

even_21 : (n : ℕ) → n < 2 ^ 21 → n % 2 ≡ 0 → IsMultipleOf 2 (sign_extended 21 n)
even_21 n h even = grind (arith, ints, nat_tests)

pages_32 : (n : ℕ) → n < 2 ^ 32 → n % 2 ^ 12 ≡ 0 → IsMultipleOf (2 ^ 12) (sign_extended 32 n)
pages_32 n h pages = grind (arith, ints, nat_tests)

-- the fields of a row that a word of 32 bits holds are in range
range_of_word : (w : ℕ) (r : Row) → w < 2 ^ 32 → Holds w r → InRange r
range_of_word w (R opcode funct3 funct7 rd rs1 rs2) b h = (omega arith, omega arith, omega arith)
range_of_word w (I opcode funct3 rd rs1 imm) b h =
    (omega arith, omega arith, rw (← h.4) (signed_12 (bits w 31 20) (omega arith)))
range_of_word w (Shift opcode funct3 funct7 rd rs1 amount) b h =
    (omega arith, omega arith, omega (arith, ints), omega (arith, ints))
range_of_word w (S opcode funct3 rs1 rs2 imm) b h =
    (omega arith, omega arith, rw (← h.4) (signed_12 (bits w 31 25 * 2 ^ 5 + bits w 11 7) (omega arith)))
range_of_word w (B opcode funct3 rs1 rs2 imm) b h =
    let n : ℕ =
    bits w 31 31 * 2 ^ 12 + bits w 7 7 * 2 ^ 11 + bits w 30 25 * 2 ^ 5 + bits w 11 8 * 2 ^ 1 in
    let fits : n < 2 ^ 13 = omega arith in
    let even : n % 2 ≡ 0 = omega arith in
    (omega arith, omega arith, rw (← h.4) (signed_13 n fits), rw (← h.4) (even_13 n fits even))
range_of_word w (U opcode rd imm) b h =
    let n : ℕ = bits w 31 12 * 2 ^ 12 in
    let fits : n < 2 ^ 32 = omega arith in
    let pages : n % 2 ^ 12 ≡ 0 = omega arith in
    (omega arith, rw (← h.2) (signed_32 n fits), rw (← h.2) (pages_32 n fits pages))
range_of_word w (J opcode rd imm) b h =
    let n : ℕ =
    bits w 31 31 * 2 ^ 20 + bits w 19 12 * 2 ^ 12 + bits w 20 20 * 2 ^ 11 + bits w 30 21 * 2 ^ 1 in
    let fits : n < 2 ^ 21 = omega arith in
    let even : n % 2 ≡ 0 = omega arith in
    (omega arith, rw (← h.2) (signed_21 n fits), rw (← h.2) (even_21 n fits even))
range_of_word w (Order opcode funct3 rest) b h = rw (← h.2) (omega arith)
range_of_word w (Whole word) b h = tt

-- what a word of 32 bits stands for can be encoded
pub in_range : (w : ℕ) (i : Inst) → w < 2 ^ 32 → IsWordOf w i → IsEncodable i
in_range w i b h = range_of_word w (row i) b h

pub encodable :
    (w : ℕ) (r : Option Inst) → w < 2 ^ 32 → IfSome r (IsWordOf w) → IfSome r IsEncodable
encodable w (Some i) b h = in_range w i b h
encodable w None b h = tt
