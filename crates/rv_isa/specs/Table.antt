-- The instruction table: the row of each instruction, and the words that hold a row.
use Rattle.std.specs.Prelude.{◌≡◌, ℕ, ◌<◌, ◌%◌, ◌^◌, ◌-◌, ℤ, pos, neg_ℤ, ◌≤ℤ◌, ◌<ℤ◌, unsigned_abs}
use Rattle.rv_isa.specs.declared.inst.Inst.{Inst}
use Rattle.rv_isa.specs.declared.inst.Inst.TheVariants.{Lui, Auipc, Jal, Jalr, Beq, Bne, Blt, Bge, Bltu, Bgeu, Lb, Lh, Lw, Lbu, Lhu, Sb, Sh, Sw, Addi, Slti, Sltiu, Xori, Ori, Andi, Slli, Srli, Srai, Add, Sub, Sll, Slt, Sltu, Xor, Srl, Sra, Or, And, Mul, Mulh, Mulhsu, Mulhu, Div, Divu, Rem, Remu, Fence, FenceI, Ecall, Ebreak}
use Rattle.rv_isa.specs.Field.{opcode_of, funct3_of, funct7_of, rd_of, rs1_of, rs2_of, shamt_of, imm_i, imm_s, imm_b, imm_u, imm_j, rest_of}

-- an instruction's format, the numbers that pick it, and its fields. `Shift` is the I format with a
-- shift amount, `Order` a fence, `Whole` a word of which every bit is given
pub data Row : Type 0 where
  R : (opcode funct3 funct7 rd rs1 rs2 : ℕ) → Row
  I : (opcode funct3 rd rs1 : ℕ) (imm : ℤ) → Row
  Shift : (opcode funct3 funct7 rd rs1 : ℕ) (amount : ℤ) → Row
  S : (opcode funct3 rs1 rs2 : ℕ) (imm : ℤ) → Row
  B : (opcode funct3 rs1 rs2 : ℕ) (imm : ℤ) → Row
  U : (opcode rd : ℕ) (imm : ℤ) → Row
  J : (opcode rd : ℕ) (imm : ℤ) → Row
  Order : (opcode funct3 rest : ℕ) → Row
  Whole : (word : ℕ) → Row

-- the table
abbrev pub row : Inst → Row
row (Lui rd imm) = U 0x37 rd imm
row (Auipc rd imm) = U 0x17 rd imm
row (Jal rd imm) = J 0x6F rd imm
row (Jalr rd rs1 imm) = I 0x67 0 rd rs1 imm
row (Beq rs1 rs2 imm) = B 0x63 0 rs1 rs2 imm
row (Bne rs1 rs2 imm) = B 0x63 1 rs1 rs2 imm
row (Blt rs1 rs2 imm) = B 0x63 4 rs1 rs2 imm
row (Bge rs1 rs2 imm) = B 0x63 5 rs1 rs2 imm
row (Bltu rs1 rs2 imm) = B 0x63 6 rs1 rs2 imm
row (Bgeu rs1 rs2 imm) = B 0x63 7 rs1 rs2 imm
row (Lb rd rs1 imm) = I 0x03 0 rd rs1 imm
row (Lh rd rs1 imm) = I 0x03 1 rd rs1 imm
row (Lw rd rs1 imm) = I 0x03 2 rd rs1 imm
row (Lbu rd rs1 imm) = I 0x03 4 rd rs1 imm
row (Lhu rd rs1 imm) = I 0x03 5 rd rs1 imm
row (Sb rs1 rs2 imm) = S 0x23 0 rs1 rs2 imm
row (Sh rs1 rs2 imm) = S 0x23 1 rs1 rs2 imm
row (Sw rs1 rs2 imm) = S 0x23 2 rs1 rs2 imm
row (Addi rd rs1 imm) = I 0x13 0 rd rs1 imm
row (Slti rd rs1 imm) = I 0x13 2 rd rs1 imm
row (Sltiu rd rs1 imm) = I 0x13 3 rd rs1 imm
row (Xori rd rs1 imm) = I 0x13 4 rd rs1 imm
row (Ori rd rs1 imm) = I 0x13 6 rd rs1 imm
row (Andi rd rs1 imm) = I 0x13 7 rd rs1 imm
row (Slli rd rs1 imm) = Shift 0x13 1 0 rd rs1 imm
row (Srli rd rs1 imm) = Shift 0x13 5 0 rd rs1 imm
row (Srai rd rs1 imm) = Shift 0x13 5 0x20 rd rs1 imm
row (Add rd rs1 rs2) = R 0x33 0 0 rd rs1 rs2
row (Sub rd rs1 rs2) = R 0x33 0 0x20 rd rs1 rs2
row (Sll rd rs1 rs2) = R 0x33 1 0 rd rs1 rs2
row (Slt rd rs1 rs2) = R 0x33 2 0 rd rs1 rs2
row (Sltu rd rs1 rs2) = R 0x33 3 0 rd rs1 rs2
row (Xor rd rs1 rs2) = R 0x33 4 0 rd rs1 rs2
row (Srl rd rs1 rs2) = R 0x33 5 0 rd rs1 rs2
row (Sra rd rs1 rs2) = R 0x33 5 0x20 rd rs1 rs2
row (Or rd rs1 rs2) = R 0x33 6 0 rd rs1 rs2
row (And rd rs1 rs2) = R 0x33 7 0 rd rs1 rs2
row (Mul rd rs1 rs2) = R 0x33 0 1 rd rs1 rs2
row (Mulh rd rs1 rs2) = R 0x33 1 1 rd rs1 rs2
row (Mulhsu rd rs1 rs2) = R 0x33 2 1 rd rs1 rs2
row (Mulhu rd rs1 rs2) = R 0x33 3 1 rd rs1 rs2
row (Div rd rs1 rs2) = R 0x33 4 1 rd rs1 rs2
row (Divu rd rs1 rs2) = R 0x33 5 1 rd rs1 rs2
row (Rem rd rs1 rs2) = R 0x33 6 1 rd rs1 rs2
row (Remu rd rs1 rs2) = R 0x33 7 1 rd rs1 rs2
row (Fence rest) = Order 0x0F 0 rest
row (FenceI rest) = Order 0x0F 1 rest
row Ecall = Whole 0x73
row Ebreak = Whole 0x00100073

-- the word has the numbers and fields of the row, each at its place
abbrev pub Holds : ℕ → Row → Type 0
Holds w (R opcode funct3 funct7 rd rs1 rs2) =
    (opcode_of w ≡ opcode) × (funct3_of w ≡ funct3) × (funct7_of w ≡ funct7)
    × (rd_of w ≡ rd) × (rs1_of w ≡ rs1) × (rs2_of w ≡ rs2)
Holds w (I opcode funct3 rd rs1 imm) =
    (opcode_of w ≡ opcode) × (funct3_of w ≡ funct3)
    × (rd_of w ≡ rd) × (rs1_of w ≡ rs1) × (imm_i w ≡ imm)
Holds w (Shift opcode funct3 funct7 rd rs1 amount) =
    (opcode_of w ≡ opcode) × (funct3_of w ≡ funct3) × (funct7_of w ≡ funct7)
    × (rd_of w ≡ rd) × (rs1_of w ≡ rs1) × (shamt_of w ≡ amount)
Holds w (S opcode funct3 rs1 rs2 imm) =
    (opcode_of w ≡ opcode) × (funct3_of w ≡ funct3)
    × (rs1_of w ≡ rs1) × (rs2_of w ≡ rs2) × (imm_s w ≡ imm)
Holds w (B opcode funct3 rs1 rs2 imm) =
    (opcode_of w ≡ opcode) × (funct3_of w ≡ funct3)
    × (rs1_of w ≡ rs1) × (rs2_of w ≡ rs2) × (imm_b w ≡ imm)
Holds w (U opcode rd imm) = (opcode_of w ≡ opcode) × (rd_of w ≡ rd) × (imm_u w ≡ imm)
Holds w (J opcode rd imm) = (opcode_of w ≡ opcode) × (rd_of w ≡ rd) × (imm_j w ≡ imm)
Holds w (Order opcode funct3 rest) =
    (opcode_of w ≡ opcode) × (funct3_of w ≡ funct3) × (rest_of w ≡ rest)
Holds w (Whole word) = w ≡ word

-- the word stands for the instruction
abbrev pub IsWordOf : ℕ → Inst → Type 0
IsWordOf w i = Holds w (row i)

abbrev pub IsRegister : ℕ → Type 0
IsRegister r = r < 32

-- the number fits so many bits of two's complement
abbrev pub IsSigned : ℕ → ℤ → Type 0
IsSigned count imm = (neg_ℤ (pos (2 ^ (count - 1))) ≤ℤ imm) × (imm <ℤ pos (2 ^ (count - 1)))

abbrev pub IsMultipleOf : ℕ → ℤ → Type 0
IsMultipleOf n imm = unsigned_abs imm % n ≡ 0

-- the fields are such as some word has at their places
abbrev pub InRange : Row → Type 0
InRange (R opcode funct3 funct7 rd rs1 rs2) = IsRegister rd × IsRegister rs1 × IsRegister rs2
InRange (I opcode funct3 rd rs1 imm) = IsRegister rd × IsRegister rs1 × IsSigned 12 imm
InRange (Shift opcode funct3 funct7 rd rs1 amount) =
    IsRegister rd × IsRegister rs1 × (pos 0 ≤ℤ amount) × (amount <ℤ pos 32)
InRange (S opcode funct3 rs1 rs2 imm) = IsRegister rs1 × IsRegister rs2 × IsSigned 12 imm
InRange (B opcode funct3 rs1 rs2 imm) =
    IsRegister rs1 × IsRegister rs2 × IsSigned 13 imm × IsMultipleOf 2 imm
InRange (U opcode rd imm) = IsRegister rd × IsSigned 32 imm × IsMultipleOf (2 ^ 12) imm
InRange (J opcode rd imm) = IsRegister rd × IsSigned 21 imm × IsMultipleOf 2 imm
InRange (Order opcode funct3 rest) = rest_of rest ≡ rest
InRange (Whole word) = Unit {0}

-- some word stands for the instruction
abbrev pub IsEncodable : Inst → Type 0
IsEncodable i = InRange (row i)
