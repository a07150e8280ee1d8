-- What an instruction does in a pipeline: its class, the registers that it reads and writes.
use Rattle.std.specs.Prelude.{ℕ, zero, suc, ◌==◌, nat_lt, if◌then◌else◌, Option, Some, None}
use Rattle.rv_isa.specs.declared.inst.Inst.{Inst}
use Rattle.rv_isa.specs.declared.roles.Class.{Class}
use Rattle.rv_isa.specs.declared.roles.Class.TheVariants.{Alu, Mul, Div, Load, Store, Control, Ecall}
use Rattle.rv_isa.specs.Table.{Row, R, I, Shift, S, B, U, J, Order, Whole, row}

abbrev pub class_of_row : Row → Class
class_of_row (R opcode funct3 funct7 rd rs1 rs2) =
    if funct7 == 1 then (if nat_lt funct3 4 then Mul else Div) else Alu
class_of_row (I opcode funct3 rd rs1 imm) =
    if opcode == 0x03 then Load else (if opcode == 0x67 then Control else Alu)
class_of_row (Shift opcode funct3 funct7 rd rs1 amount) = Alu
class_of_row (S opcode funct3 rs1 rs2 imm) = Store
class_of_row (B opcode funct3 rs1 rs2 imm) = Control
class_of_row (U opcode rd imm) = Alu
class_of_row (J opcode rd imm) = Control
class_of_row (Order opcode funct3 rest) = Alu
class_of_row (Whole word) = if word == 0x00000073 then Ecall else Alu

abbrev pub class_of : Inst → Class
class_of i = class_of_row (row i)

-- a register as one that an instruction waits for: register 0 is none, since it is always 0
abbrev pub register : ℕ → Option ℕ
register zero = None
register (suc r) = Some (suc r)

-- the registers at the places rs1 and rs2 of the row's format
abbrev pub read_by : Row → Option ℕ × Option ℕ
read_by (R opcode funct3 funct7 rd rs1 rs2) = (register rs1, register rs2)
read_by (I opcode funct3 rd rs1 imm) = (register rs1, None)
read_by (Shift opcode funct3 funct7 rd rs1 amount) = (register rs1, None)
read_by (S opcode funct3 rs1 rs2 imm) = (register rs1, register rs2)
read_by (B opcode funct3 rs1 rs2 imm) = (register rs1, register rs2)
read_by (U opcode rd imm) = (None, None)
read_by (J opcode rd imm) = (None, None)
read_by (Order opcode funct3 rest) = (None, None)
read_by (Whole word) = (None, None)

-- the register at the place rd of the row's format
abbrev pub written_by : Row → Option ℕ
written_by (R opcode funct3 funct7 rd rs1 rs2) = register rd
written_by (I opcode funct3 rd rs1 imm) = register rd
written_by (Shift opcode funct3 funct7 rd rs1 amount) = register rd
written_by (S opcode funct3 rs1 rs2 imm) = None
written_by (B opcode funct3 rs1 rs2 imm) = None
written_by (U opcode rd imm) = register rd
written_by (J opcode rd imm) = register rd
written_by (Order opcode funct3 rest) = None
written_by (Whole word) = None

abbrev pub sources_of : Inst → Option ℕ × Option ℕ
sources_of i = read_by (row i)

abbrev pub dest_of : Inst → Option ℕ
dest_of i = written_by (row i)
