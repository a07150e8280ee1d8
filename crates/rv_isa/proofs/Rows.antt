-- The table as a relation and the look-up in it agree.
use Rattle.std.proofs.Common.{◌≡◌, ℕ, Option, Some, None, IfNone}
use Rattle.rv_isa.specs.declared.inst.Inst.{Inst}
use Rattle.rv_isa.specs.declared.inst.Inst.TheVariants.{Lui, Auipc, Jal, Jalr, Beq, Bne, Blt, Bge, Bltu, Bgeu, Lb, Lh, Lw, Lbu, Lhu, Sb, Sh, Sw, Addi, Slti, Sltiu, Xori, Ori, Andi, Slli, Srli, Srai, Add, Sub, Sll, Slt, Sltu, Xor, Srl, Sra, Or, And, Mul, Mulh, Mulhsu, Mulhu, Div, Divu, Rem, Remu, Fence, FenceI, Ecall, Ebreak}
use Rattle.rv_isa.specs.Table.{IsWordOf}
use Rattle.rv_isa.specs.Decoding.{decode_of}

-- a word that stands for an instruction is decoded as it
pub decode_of_word : (w : ℕ) (i : Inst) → IsWordOf w i → decode_of w ≡ Some i
unfolding decode_of
decode_of_word w (Lui rd imm) h = rw (h.0, h.1, h.2)
decode_of_word w (Auipc rd imm) h = rw (h.0, h.1, h.2)
decode_of_word w (Jal rd imm) h = rw (h.0, h.1, h.2)
decode_of_word w (Jalr rd rs1 imm) h = rw (h.0, h.1, h.2, h.3, h.4)
decode_of_word w (Beq rs1 rs2 imm) h = rw (h.0, h.1, h.2, h.3, h.4)
decode_of_word w (Bne rs1 rs2 imm) h = rw (h.0, h.1, h.2, h.3, h.4)
decode_of_word w (Blt rs1 rs2 imm) h = rw (h.0, h.1, h.2, h.3, h.4)
decode_of_word w (Bge rs1 rs2 imm) h = rw (h.0, h.1, h.2, h.3, h.4)
decode_of_word w (Bltu rs1 rs2 imm) h = rw (h.0, h.1, h.2, h.3, h.4)
decode_of_word w (Bgeu rs1 rs2 imm) h = rw (h.0, h.1, h.2, h.3, h.4)
decode_of_word w (Lb rd rs1 imm) h = rw (h.0, h.1, h.2, h.3, h.4)
decode_of_word w (Lh rd rs1 imm) h = rw (h.0, h.1, h.2, h.3, h.4)
decode_of_word w (Lw rd rs1 imm) h = rw (h.0, h.1, h.2, h.3, h.4)
decode_of_word w (Lbu rd rs1 imm) h = rw (h.0, h.1, h.2, h.3, h.4)
decode_of_word w (Lhu rd rs1 imm) h = rw (h.0, h.1, h.2, h.3, h.4)
decode_of_word w (Sb rs1 rs2 imm) h = rw (h.0, h.1, h.2, h.3, h.4)
decode_of_word w (Sh rs1 rs2 imm) h = rw (h.0, h.1, h.2, h.3, h.4)
decode_of_word w (Sw rs1 rs2 imm) h = rw (h.0, h.1, h.2, h.3, h.4)
decode_of_word w (Addi rd rs1 imm) h = rw (h.0, h.1, h.2, h.3, h.4)
decode_of_word w (Slti rd rs1 imm) h = rw (h.0, h.1, h.2, h.3, h.4)
decode_of_word w (Sltiu rd rs1 imm) h = rw (h.0, h.1, h.2, h.3, h.4)
decode_of_word w (Xori rd rs1 imm) h = rw (h.0, h.1, h.2, h.3, h.4)
decode_of_word w (Ori rd rs1 imm) h = rw (h.0, h.1, h.2, h.3, h.4)
decode_of_word w (Andi rd rs1 imm) h = rw (h.0, h.1, h.2, h.3, h.4)
decode_of_word w (Slli rd rs1 imm) h = rw (h.0, h.1, h.2, h.3, h.4, h.5)
decode_of_word w (Srli rd rs1 imm) h = rw (h.0, h.1, h.2, h.3, h.4, h.5)
decode_of_word w (Srai rd rs1 imm) h = rw (h.0, h.1, h.2, h.3, h.4, h.5)
decode_of_word w (Add rd rs1 rs2) h = rw (h.0, h.1, h.2, h.3, h.4, h.5)
decode_of_word w (Sub rd rs1 rs2) h = rw (h.0, h.1, h.2, h.3, h.4, h.5)
decode_of_word w (Sll rd rs1 rs2) h = rw (h.0, h.1, h.2, h.3, h.4, h.5)
decode_of_word w (Slt rd rs1 rs2) h = rw (h.0, h.1, h.2, h.3, h.4, h.5)
decode_of_word w (Sltu rd rs1 rs2) h = rw (h.0, h.1, h.2, h.3, h.4, h.5)
decode_of_word w (Xor rd rs1 rs2) h = rw (h.0, h.1, h.2, h.3, h.4, h.5)
decode_of_word w (Srl rd rs1 rs2) h = rw (h.0, h.1, h.2, h.3, h.4, h.5)
decode_of_word w (Sra rd rs1 rs2) h = rw (h.0, h.1, h.2, h.3, h.4, h.5)
decode_of_word w (Or rd rs1 rs2) h = rw (h.0, h.1, h.2, h.3, h.4, h.5)
decode_of_word w (And rd rs1 rs2) h = rw (h.0, h.1, h.2, h.3, h.4, h.5)
decode_of_word w (Mul rd rs1 rs2) h = rw (h.0, h.1, h.2, h.3, h.4, h.5)
decode_of_word w (Mulh rd rs1 rs2) h = rw (h.0, h.1, h.2, h.3, h.4, h.5)
decode_of_word w (Mulhsu rd rs1 rs2) h = rw (h.0, h.1, h.2, h.3, h.4, h.5)
decode_of_word w (Mulhu rd rs1 rs2) h = rw (h.0, h.1, h.2, h.3, h.4, h.5)
decode_of_word w (Div rd rs1 rs2) h = rw (h.0, h.1, h.2, h.3, h.4, h.5)
decode_of_word w (Divu rd rs1 rs2) h = rw (h.0, h.1, h.2, h.3, h.4, h.5)
decode_of_word w (Rem rd rs1 rs2) h = rw (h.0, h.1, h.2, h.3, h.4, h.5)
decode_of_word w (Remu rd rs1 rs2) h = rw (h.0, h.1, h.2, h.3, h.4, h.5)
decode_of_word w (Fence rest) h = rw (h.0, h.1, h.2)
decode_of_word w (FenceI rest) h = rw (h.0, h.1, h.2)
decode_of_word w Ecall h = rw h
decode_of_word w Ebreak h = rw h

-- a word that is not decoded stands for no instruction
pub none_outside :
    (w : ℕ) (r : Option Inst) → r ≡ decode_of w → IfNone r ((i : Inst) → ¬ IsWordOf w i)
none_outside w None e = λ i h. cc (decode_of_word w i h)
none_outside w (Some i) e = tt
