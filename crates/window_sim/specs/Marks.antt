-- Marks of instructions, each in two words.
use Rattle.std.specs.Prelude.{ℕ, ◌-◌, ◌/◌, ◌%◌, ◌^◌, ◌==◌, if◌then◌else◌, Option, Some, None, Result, Ok, Err, List, [], ◌∷◌}
use Rattle.confidence.specs.declared.answer.PointFault.{PointFault}
use Rattle.hierarchy.specs.declared.marked.Marked.{Marked}
use Rattle.hierarchy.specs.Marked.{accesses_memory}
use Rattle.rv_exec.specs.Runs.{Halt}
use Rattle.rv_isa.specs.declared.roles.Class.{Class}
use Rattle.rv_isa.specs.declared.roles.Class.TheVariants.{Alu, Mul, Div, Load, Store, Control, Ecall}
use Rattle.unit_answers.specs.Answers.{fault_of}

abbrev pub class_at : ℕ → Class
class_at n =
    if n == 0 then Alu
    else (if n == 1 then Mul
    else (if n == 2 then Div
    else (if n == 3 then Load
    else (if n == 4 then Store
    else (if n == 5 then Control else Ecall)))))

-- a register's number and one more, and 0 for none
abbrev pub register_at : ℕ → Option ℕ
register_at n = if n == 0 then None else Some ((n - 1) % 2 ^ 8)

-- whether there is a word, the class tells
abbrev pub word_by : Class → ℕ → Option ℕ
word_by class word = if accesses_memory class then Some word else None

-- the mark that two words stand for: its class, flags and registers in the first, its stall, latency and word in
-- the second
abbrev pub mark_in : ℕ → ℕ → Marked
mark_in one other = record {
  class = class_at (one % 2 ^ 3);
  mispredicted = one / 2 ^ 3 % 2 == 1;
  transferred = one / 2 ^ 4 % 2 == 1;
  first = register_at (one / 2 ^ 5 % 2 ^ 9);
  second = register_at (one / 2 ^ 14 % 2 ^ 9);
  dest = register_at (one / 2 ^ 23 % 2 ^ 9);
  stall = other % 2 ^ 16;
  latency = other / 2 ^ 16 % 2 ^ 16;
  word = word_by (class_at (one % 2 ^ 3)) (other / 2 ^ 32);
}

-- the marks in words, one in each two
unfoldable pub marks_in : List ℕ → List Marked
marks_in [] = []
marks_in (one ∷ []) = []
marks_in (one ∷ other ∷ words) = mark_in one other ∷ marks_in words

-- a trace, or the fault of one that couldn't be had
abbrev pub or_fault : Result (List Marked) Halt → Result (List Marked) PointFault
or_fault (Ok marks) = Ok marks
or_fault (Err halt) = Err (fault_of halt)
