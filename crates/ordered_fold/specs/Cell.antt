-- What a cell holds: the code of an answer, which is never 0.
use Rattle.std.specs.Prelude.{◌+◌, ◌*◌, ◌/◌, ◌%◌, ◌^◌, ◌==◌, ℕ, nat_lt, if◌then◌else◌}
use Rattle.confidence.specs.declared.answer.Answer.{Answer}
use Rattle.confidence.specs.declared.answer.Answer.TheVariants.{Cycles, Fault}
use Rattle.confidence.specs.declared.answer.PointKind.{PointKind}
use Rattle.confidence.specs.declared.answer.PointKind.TheVariants.{Illegal, BadTarget, MisalignedLoad, MisalignedStore, Missing, Break, BadBuffer, AfterExit}

abbrev pub kind_number : PointKind → ℕ
kind_number Illegal = 1
kind_number BadTarget = 2
kind_number MisalignedLoad = 3
kind_number MisalignedStore = 4
kind_number Missing = 5
kind_number Break = 6
kind_number BadBuffer = 7
kind_number AfterExit = 8

-- the kind of this number
abbrev pub kind_of : ℕ → PointKind
kind_of number =
    if number == 1 then Illegal
    else (if number == 2 then BadTarget
    else (if number == 3 then MisalignedLoad
    else (if number == 4 then MisalignedStore
    else (if number == 5 then Missing
    else (if number == 6 then Break
    else (if number == 7 then BadBuffer else AfterExit))))))

-- cycles stand for themselves; a fault has its kind's number in the upper half of 64 bits and its
-- pc in the lower
abbrev pub code : Answer → ℕ
code (Cycles cycles) = cycles
code (Fault fault) = kind_number fault.kind * 2 ^ 32 + fault.pc

-- the answer of this code
abbrev pub answer_of : ℕ → Answer
answer_of word =
    if nat_lt word (2 ^ 32) then Cycles word
    else Fault (record { kind = kind_of (word / 2 ^ 32); pc = word % 2 ^ 32 })
