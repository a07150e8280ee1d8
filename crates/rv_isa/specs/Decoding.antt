-- The instruction that a word stands for, looked up in the table.
use Rattle.std.specs.Prelude.{ℕ, Bool, ◌==◌, ◌&&◌, if◌then◌else◌, Option, Some, None, List, [], ◌∷◌, ◌++◌, map}
use Rattle.rv_isa.specs.declared.inst.Inst.{Inst}
use Rattle.rv_isa.specs.declared.inst.Inst.TheVariants.{Lui, Auipc, Jal, Jalr, Beq, Bne, Blt, Bge, Bltu, Bgeu, Lb, Lh, Lw, Lbu, Lhu, Sb, Sh, Sw, Addi, Slti, Sltiu, Xori, Ori, Andi, Slli, Srli, Srai, Add, Sub, Sll, Slt, Sltu, Xor, Srl, Sra, Or, And, Mul, Mulh, Mulhsu, Mulhu, Div, Divu, Rem, Remu, Fence, FenceI, Ecall, Ebreak}
use Rattle.rv_isa.specs.Field.{opcode_of, funct3_of, funct7_of, rd_of, rs1_of, rs2_of, shamt_of, imm_i, imm_s, imm_b, imm_u, imm_j, rest_of}
use Rattle.rv_isa.specs.Table.{Row, R, I, Shift, S, B, U, J, Order, Whole, row}

-- the word has the numbers that pick the row, whatever its fields are
abbrev pub picks : ℕ → Row → Bool
picks w (R opcode funct3 funct7 rd rs1 rs2) =
    (opcode_of w == opcode) && ((funct7_of w == funct7) && (funct3_of w == funct3))
picks w (I opcode funct3 rd rs1 imm) = (opcode_of w == opcode) && (funct3_of w == funct3)
picks w (Shift opcode funct3 funct7 rd rs1 amount) =
    (opcode_of w == opcode) && ((funct3_of w == funct3) && (funct7_of w == funct7))
picks w (S opcode funct3 rs1 rs2 imm) = (opcode_of w == opcode) && (funct3_of w == funct3)
picks w (B opcode funct3 rs1 rs2 imm) = (opcode_of w == opcode) && (funct3_of w == funct3)
picks w (U opcode rd imm) = opcode_of w == opcode
picks w (J opcode rd imm) = opcode_of w == opcode
picks w (Order opcode funct3 rest) = (opcode_of w == opcode) && (funct3_of w == funct3)
picks w (Whole word) = w == word

-- each instruction, with the fields that the word has in its format
abbrev pub candidates : ℕ → List Inst
candidates w =
    map (λ make. make (rd_of w) (imm_u w)) (Lui ∷ Auipc ∷ [])
    ++ map (λ make. make (rd_of w) (imm_j w)) (Jal ∷ [])
    ++ map
    (λ make. make (rs1_of w) (rs2_of w) (imm_b w))
    (Beq ∷ Bne ∷ Blt ∷ Bge ∷ Bltu ∷ Bgeu ∷ [])
    ++ map (λ make. make (rs1_of w) (rs2_of w) (imm_s w)) (Sb ∷ Sh ∷ Sw ∷ [])
    ++ map
    (λ make. make (rd_of w) (rs1_of w) (imm_i w))
    (Jalr ∷ Lb ∷ Lh ∷ Lw ∷ Lbu ∷ Lhu ∷ Addi ∷ Slti ∷ Sltiu ∷ Xori ∷ Ori ∷ Andi ∷ [])
    ++ map (λ make. make (rd_of w) (rs1_of w) (shamt_of w)) (Slli ∷ Srli ∷ Srai ∷ [])
    ++ map
    (λ make. make (rd_of w) (rs1_of w) (rs2_of w))
    (Add ∷ Sub ∷ Sll ∷ Slt ∷ Sltu ∷ Xor ∷ Srl ∷ Sra ∷ Or ∷ And
    ∷ Mul ∷ Mulh ∷ Mulhsu ∷ Mulhu ∷ Div ∷ Divu ∷ Rem ∷ Remu ∷ [])
    ++ map (λ make. make (rest_of w)) (Fence ∷ FenceI ∷ [])
    ++ Ecall ∷ Ebreak ∷ []

-- the first of the instructions whose row the word picks
abbrev pub first_of : ℕ → List Inst → Option Inst
first_of w [] = None
first_of w (i ∷ is) = if picks w (row i) then Some i else first_of w is

-- the instruction that the word stands for
unfoldable pub decode_of : ℕ → Option Inst
decode_of w = first_of w (candidates w)
