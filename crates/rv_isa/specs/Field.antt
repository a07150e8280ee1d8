-- The fields of an instruction word, by the places that the RISC-V formats give them.
use Rattle.std.specs.Prelude.{ℕ, ◌+◌, ◌-◌, ◌*◌, ◌/◌, ◌%◌, ◌^◌, ℤ, pos, ◌-ℤ◌, nat_lt, if◌then◌else◌}

-- the bits from high down to low of a word, as a number
abbrev pub bits : ℕ → ℕ → ℕ → ℕ
bits w high low = w / 2 ^ low % 2 ^ (high + 1 - low)

-- the number that count bits stand for in two's complement
abbrev pub sign_extended : ℕ → ℕ → ℤ
sign_extended count n =
    if nat_lt n (2 ^ (count - 1)) then pos n else pos n -ℤ pos (2 ^ count)

abbrev pub opcode_of : ℕ → ℕ
opcode_of w = bits w 6 0

abbrev pub funct3_of : ℕ → ℕ
funct3_of w = bits w 14 12

abbrev pub funct7_of : ℕ → ℕ
funct7_of w = bits w 31 25

abbrev pub rd_of : ℕ → ℕ
rd_of w = bits w 11 7

abbrev pub rs1_of : ℕ → ℕ
rs1_of w = bits w 19 15

abbrev pub rs2_of : ℕ → ℕ
rs2_of w = bits w 24 20

-- the amount of a shift by an immediate
abbrev pub shamt_of : ℕ → ℤ
shamt_of w = pos (bits w 24 20)

abbrev pub imm_i : ℕ → ℤ
imm_i w = sign_extended 12 (bits w 31 20)

abbrev pub imm_s : ℕ → ℤ
imm_s w = sign_extended 12 (bits w 31 25 * 2 ^ 5 + bits w 11 7)

abbrev pub imm_b : ℕ → ℤ
imm_b w =
    sign_extended 13
    (bits w 31 31 * 2 ^ 12 + bits w 7 7 * 2 ^ 11 + bits w 30 25 * 2 ^ 5 + bits w 11 8 * 2 ^ 1)

abbrev pub imm_u : ℕ → ℤ
imm_u w = sign_extended 32 (bits w 31 12 * 2 ^ 12)

abbrev pub imm_j : ℕ → ℤ
imm_j w =
    sign_extended 21
    (bits w 31 31 * 2 ^ 20 + bits w 19 12 * 2 ^ 12 + bits w 20 20 * 2 ^ 11
    + bits w 30 21 * 2 ^ 1)

-- a fence's word without its opcode and funct3
abbrev pub rest_of : ℕ → ℕ
rest_of w = bits w 31 15 * 2 ^ 15 + bits w 11 7 * 2 ^ 7
