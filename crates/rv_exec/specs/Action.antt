-- What each instruction is to do, in terms of the pc and the registers.
use Rattle.std.specs.Prelude.{ℕ, ◌*◌, ◌/◌, List, Bool, true, false, not, ◌&&◌, ◌||◌, ◌==◌, nat_lt, bit_and, bit_or, bit_xor}
use Rattle.rv_isa.specs.declared.inst.Inst.{Inst}
use Rattle.rv_isa.specs.declared.inst.Inst.TheVariants.{Lui, Auipc, Jal, Jalr, Beq, Bne, Blt, Bge, Bltu, Bgeu, Lb, Lh, Lw, Lbu, Lhu, Sb, Sh, Sw, Addi, Slti, Sltiu, Xori, Ori, Andi, Slli, Srli, Srai, Add, Sub, Sll, Slt, Sltu, Xor, Srl, Sra, Or, And, Mul, Mulh, Mulhsu, Mulhu, Div, Divu, Rem, Remu, Fence, FenceI, Ecall, Ebreak}
use Rattle.rv_exec.specs.declared.action.Action.{Action}
use Rattle.rv_exec.specs.declared.action.Action.TheVariants.{Compute, Load, Store, Branch, Jump, Pass, Call, Break}
use Rattle.rv_exec.specs.declared.action.Size.TheVariants.{Byte, Half, Word}
use Rattle.rv_exec.specs.declared.event.Flow.TheVariants as flow
use Rattle.rv_exec.specs.Word.{word, offset_by}
use Rattle.rv_exec.specs.Arithmetic.{sum_of, difference_of, flag, is_less_signed, shifted_left, shifted_right, shifted_right_signed, product_of, product_high_signed, product_high_mixed, product_high, quotient_signed, quotient_of, remainder_signed, remainder_of}
use Rattle.rv_exec.specs.Machine.{read}

-- the registers that hold return addresses
abbrev pub is_link : ℕ → Bool
is_link r = (r == 1) || (r == 5)

abbrev pub action_of : ℕ → List ℕ → Inst → Action
action_of pc regs (Lui rd imm) = Compute rd (word imm)
action_of pc regs (Auipc rd imm) = Compute rd (offset_by pc imm)
action_of pc regs (Jal rd imm) = Jump rd (offset_by pc imm) (flow.Jal (is_link rd))
action_of pc regs (Jalr rd rs1 imm) =
    Jump rd (offset_by (read regs rs1) imm / 2 * 2)
    (flow.Jalr (is_link rs1 && not (rd == rs1)) (is_link rd))
action_of pc regs (Beq rs1 rs2 imm) = Branch (read regs rs1 == read regs rs2) (offset_by pc imm)
action_of pc regs (Bne rs1 rs2 imm) =
    Branch (not (read regs rs1 == read regs rs2)) (offset_by pc imm)
action_of pc regs (Blt rs1 rs2 imm) =
    Branch (is_less_signed (read regs rs1) (read regs rs2)) (offset_by pc imm)
action_of pc regs (Bge rs1 rs2 imm) =
    Branch (not (is_less_signed (read regs rs1) (read regs rs2))) (offset_by pc imm)
action_of pc regs (Bltu rs1 rs2 imm) =
    Branch (nat_lt (read regs rs1) (read regs rs2)) (offset_by pc imm)
action_of pc regs (Bgeu rs1 rs2 imm) =
    Branch (not (nat_lt (read regs rs1) (read regs rs2))) (offset_by pc imm)
action_of pc regs (Lb rd rs1 imm) = Load rd (offset_by (read regs rs1) imm) Byte true
action_of pc regs (Lh rd rs1 imm) = Load rd (offset_by (read regs rs1) imm) Half true
action_of pc regs (Lw rd rs1 imm) = Load rd (offset_by (read regs rs1) imm) Word true
action_of pc regs (Lbu rd rs1 imm) = Load rd (offset_by (read regs rs1) imm) Byte false
action_of pc regs (Lhu rd rs1 imm) = Load rd (offset_by (read regs rs1) imm) Half false
action_of pc regs (Sb rs1 rs2 imm) = Store (offset_by (read regs rs1) imm) Byte (read regs rs2)
action_of pc regs (Sh rs1 rs2 imm) = Store (offset_by (read regs rs1) imm) Half (read regs rs2)
action_of pc regs (Sw rs1 rs2 imm) = Store (offset_by (read regs rs1) imm) Word (read regs rs2)
action_of pc regs (Addi rd rs1 imm) = Compute rd (sum_of (read regs rs1) (word imm))
action_of pc regs (Slti rd rs1 imm) =
    Compute rd (flag (is_less_signed (read regs rs1) (word imm)))
action_of pc regs (Sltiu rd rs1 imm) = Compute rd (flag (nat_lt (read regs rs1) (word imm)))
action_of pc regs (Xori rd rs1 imm) = Compute rd (bit_xor (read regs rs1) (word imm))
action_of pc regs (Ori rd rs1 imm) = Compute rd (bit_or (read regs rs1) (word imm))
action_of pc regs (Andi rd rs1 imm) = Compute rd (bit_and (read regs rs1) (word imm))
action_of pc regs (Slli rd rs1 imm) = Compute rd (shifted_left (read regs rs1) (word imm))
action_of pc regs (Srli rd rs1 imm) = Compute rd (shifted_right (read regs rs1) (word imm))
action_of pc regs (Srai rd rs1 imm) =
    Compute rd (shifted_right_signed (read regs rs1) (word imm))
action_of pc regs (Add rd rs1 rs2) = Compute rd (sum_of (read regs rs1) (read regs rs2))
action_of pc regs (Sub rd rs1 rs2) = Compute rd (difference_of (read regs rs1) (read regs rs2))
action_of pc regs (Sll rd rs1 rs2) = Compute rd (shifted_left (read regs rs1) (read regs rs2))
action_of pc regs (Slt rd rs1 rs2) =
    Compute rd (flag (is_less_signed (read regs rs1) (read regs rs2)))
action_of pc regs (Sltu rd rs1 rs2) =
    Compute rd (flag (nat_lt (read regs rs1) (read regs rs2)))
action_of pc regs (Xor rd rs1 rs2) = Compute rd (bit_xor (read regs rs1) (read regs rs2))
action_of pc regs (Srl rd rs1 rs2) = Compute rd (shifted_right (read regs rs1) (read regs rs2))
action_of pc regs (Sra rd rs1 rs2) =
    Compute rd (shifted_right_signed (read regs rs1) (read regs rs2))
action_of pc regs (Or rd rs1 rs2) = Compute rd (bit_or (read regs rs1) (read regs rs2))
action_of pc regs (And rd rs1 rs2) = Compute rd (bit_and (read regs rs1) (read regs rs2))
action_of pc regs (Mul rd rs1 rs2) = Compute rd (product_of (read regs rs1) (read regs rs2))
action_of pc regs (Mulh rd rs1 rs2) =
    Compute rd (product_high_signed (read regs rs1) (read regs rs2))
action_of pc regs (Mulhsu rd rs1 rs2) =
    Compute rd (product_high_mixed (read regs rs1) (read regs rs2))
action_of pc regs (Mulhu rd rs1 rs2) = Compute rd (product_high (read regs rs1) (read regs rs2))
action_of pc regs (Div rd rs1 rs2) = Compute rd (quotient_signed (read regs rs1) (read regs rs2))
action_of pc regs (Divu rd rs1 rs2) = Compute rd (quotient_of (read regs rs1) (read regs rs2))
action_of pc regs (Rem rd rs1 rs2) =
    Compute rd (remainder_signed (read regs rs1) (read regs rs2))
action_of pc regs (Remu rd rs1 rs2) = Compute rd (remainder_of (read regs rs1) (read regs rs2))
action_of pc regs (Fence rest) = Pass
action_of pc regs (FenceI rest) = Pass
action_of pc regs Ecall = Call
action_of pc regs Ebreak = Break
