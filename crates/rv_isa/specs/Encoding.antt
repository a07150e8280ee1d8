-- The word of an instruction: the sum of its fields, each at its place.
use Rattle.std.specs.Prelude.{ℕ, ◌+◌, ◌*◌, ◌^◌, ℤ}
use Rattle.std.specs.Int.{cast_unsigned, w32}
use Rattle.rv_isa.specs.declared.inst.Inst.{Inst}
use Rattle.rv_isa.specs.Field.{bits}
use Rattle.rv_isa.specs.Table.{Row, R, I, Shift, S, B, U, J, Order, Whole, row}

-- the bits from high down to low of an immediate's two's complement
abbrev pub imm_bits : ℤ → ℕ → ℕ → ℕ
imm_bits imm high low = bits (cast_unsigned w32 imm) high low

abbrev pub word_of_row : Row → ℕ
word_of_row (R opcode funct3 funct7 rd rs1 rs2) =
    opcode + rd * 2 ^ 7 + funct3 * 2 ^ 12 + rs1 * 2 ^ 15 + rs2 * 2 ^ 20 + funct7 * 2 ^ 25
word_of_row (I opcode funct3 rd rs1 imm) =
    opcode + rd * 2 ^ 7 + funct3 * 2 ^ 12 + rs1 * 2 ^ 15 + imm_bits imm 11 0 * 2 ^ 20
word_of_row (Shift opcode funct3 funct7 rd rs1 amount) =
    opcode + rd * 2 ^ 7 + funct3 * 2 ^ 12 + rs1 * 2 ^ 15 + imm_bits amount 4 0 * 2 ^ 20
    + funct7 * 2 ^ 25
word_of_row (S opcode funct3 rs1 rs2 imm) =
    opcode + imm_bits imm 4 0 * 2 ^ 7 + funct3 * 2 ^ 12 + rs1 * 2 ^ 15 + rs2 * 2 ^ 20
    + imm_bits imm 11 5 * 2 ^ 25
word_of_row (B opcode funct3 rs1 rs2 imm) =
    opcode + imm_bits imm 11 11 * 2 ^ 7 + imm_bits imm 4 1 * 2 ^ 8 + funct3 * 2 ^ 12
    + rs1 * 2 ^ 15 + rs2 * 2 ^ 20 + imm_bits imm 10 5 * 2 ^ 25 + imm_bits imm 12 12 * 2 ^ 31
word_of_row (U opcode rd imm) = opcode + rd * 2 ^ 7 + imm_bits imm 31 12 * 2 ^ 12
word_of_row (J opcode rd imm) =
    opcode + rd * 2 ^ 7 + imm_bits imm 19 12 * 2 ^ 12 + imm_bits imm 11 11 * 2 ^ 20
    + imm_bits imm 10 1 * 2 ^ 21 + imm_bits imm 20 20 * 2 ^ 31
word_of_row (Order opcode funct3 rest) = opcode + funct3 * 2 ^ 12 + rest
word_of_row (Whole word) = word

abbrev pub word_of : Inst → ℕ
word_of i = word_of_row (row i)
