-- A code tells its answer, and is never 0.
use Rattle.std.proofs.Common.{◌≡◌, ◌≢◌, ◌+◌, ◌*◌, ◌/◌, ◌%◌, ◌^◌, ◌<◌, ◌≤◌, ℕ, refl, arith}
use Rattle.std.proofs.lemmas.Bool.{lt-ltb, le-ltb}
use Rattle.confidence.specs.declared.answer.Answer.{Answer}
use Rattle.confidence.specs.declared.answer.Answer.TheVariants.{Cycles, Fault}
use Rattle.confidence.specs.declared.answer.PointKind.{PointKind}
use Rattle.confidence.specs.declared.answer.PointKind.TheVariants.{Illegal, BadTarget, MisalignedLoad, MisalignedStore, Missing, Break, BadBuffer, AfterExit}
use Rattle.ordered_fold.specs.Batch.{IsHeldAnswer}
use Rattle.ordered_fold.specs.Cell.{kind_number, kind_of, code, answer_of}

pub kind_of-number : (kind : PointKind) → kind_of (kind_number kind) ≡ kind
kind_of-number Illegal = refl
kind_of-number BadTarget = refl
kind_of-number MisalignedLoad = refl
kind_of-number MisalignedStore = refl
kind_of-number Missing = refl
kind_of-number Break = refl
kind_of-number BadBuffer = refl
kind_of-number AfterExit = refl

kind_number-some : (kind : PointKind) → (1 ≤ kind_number kind) × (kind_number kind ≤ 8)
kind_number-some Illegal = (omega arith, omega arith)
kind_number-some BadTarget = (omega arith, omega arith)
kind_number-some MisalignedLoad = (omega arith, omega arith)
kind_number-some MisalignedStore = (omega arith, omega arith)
kind_number-some Missing = (omega arith, omega arith)
kind_number-some Break = (omega arith, omega arith)
kind_number-some BadBuffer = (omega arith, omega arith)
kind_number-some AfterExit = (omega arith, omega arith)

pub code-some : (answer : Answer) → IsHeldAnswer answer → code answer ≢ 0
code-some (Cycles cycles) held = λ e. omega (arith, held.0, e)
code-some (Fault fault) held = λ e. omega (arith, (kind_number-some fault.kind).0, e)

pub answer_of-code : (answer : Answer) → IsHeldAnswer answer → answer_of (code answer) ≡ answer
answer_of-code (Cycles cycles) held =
    let small : cycles < 2 ^ 32 = omega (arith, held.1) in
    rw (lt-ltb cycles (2 ^ 32) small) refl
answer_of-code (Fault fault) held =
    let word : ℕ = kind_number fault.kind * 2 ^ 32 + fault.pc in
    let large : 2 ^ 32 ≤ word = omega (arith, (kind_number-some fault.kind).0) in
    let kind : word / 2 ^ 32 ≡ kind_number fault.kind = omega (arith, held) in
    let pc : word % 2 ^ 32 ≡ fault.pc = omega (arith, held) in
    rw (le-ltb word (2 ^ 32) large, kind, pc, kind_of-number fault.kind) refl
