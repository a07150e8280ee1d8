-- That a word stands for an instruction has at most one proof, so a struct can keep it.
use Rattle.std.specs.Prelude.{ℕ}
use Rattle.std.proofs.Props.{props}
use Rattle.rv_isa.specs.declared.inst.Inst.{Inst}
use Rattle.rv_isa.specs.Table.{Row, R, I, Shift, S, B, U, J, Order, Whole, row, Holds, IsWordOf}

holds_prop : (w : ℕ) (r : Row) → IsProp (Holds w r)
holds_prop w (R opcode funct3 funct7 rd rs1 rs2) = Prim.hlevel props
holds_prop w (I opcode funct3 rd rs1 imm) = Prim.hlevel props
holds_prop w (Shift opcode funct3 funct7 rd rs1 amount) = Prim.hlevel props
holds_prop w (S opcode funct3 rs1 rs2 imm) = Prim.hlevel props
holds_prop w (B opcode funct3 rs1 rs2 imm) = Prim.hlevel props
holds_prop w (U opcode rd imm) = Prim.hlevel props
holds_prop w (J opcode rd imm) = Prim.hlevel props
holds_prop w (Order opcode funct3 rest) = Prim.hlevel props
holds_prop w (Whole word) = Prim.hlevel props

pub word_of_prop : (w : ℕ) (i : Inst) → IsProp (IsWordOf w i)
word_of_prop w i = holds_prop w (row i)
