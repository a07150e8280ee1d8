-- The environment calls: what each of them leads to.
use Rattle.std.specs.Prelude.{ℕ, ◌+◌, ◌-◌, ◌^◌, ◌||◌, ◌&&◌, ◌==◌, nat_le, if◌then◌else◌, Option, Some, None}
use Rattle.rv_isa.specs.declared.inst.Inst.{Inst}
use Rattle.rv_exec.specs.declared.event.Buffer.{Buffer}
use Rattle.rv_exec.specs.declared.event.TrapKind.TheVariants as trap
use Rattle.rv_exec.specs.Finish.{goes_on, computes}
use Rattle.rv_exec.specs.Memory.{passes}
use Rattle.rv_exec.specs.Machine.{State, Outcome, Stopped, read}

-- a call that goes on, with its answer in register 10
abbrev pub answers : State → ℕ → Inst → ℕ → Option Buffer → Outcome
answers s w i answer wrote = computes s w i 10 answer None wrote

-- write: of the descriptor in register 10, the address in 11 and the count in 12
unfoldable pub writes : State → ℕ → Inst → Outcome
writes s w i =
    let descriptor = read s.regs 10 in
    let addr = read s.regs 11 in
    let count = read s.regs 12 in
    if (descriptor == 1) || (descriptor == 2) then
    (if count == 0 then answers s w i 0 None
    else (if passes s.buffers addr count then
    answers s w i count (Some (record { addr = addr; len = count }))
    else Stopped trap.BadBuffer))
    else answers s w i (2 ^ 32 - 9) None

-- exit: with the code in register 10
unfoldable pub exits : State → ℕ → Inst → Outcome
exits s w i =
    goes_on (record s { exit = Some (read s.regs 10) }) w i None None

-- brk: the value in register 10 becomes the heap end, if it lies in the heap's 64 MiB
unfoldable pub sets_break : State → ℕ → Inst → Outcome
sets_break s w i =
    let value = read s.regs 10 in
    if nat_le s.heap_low value && nat_le value (s.heap_low + 2 ^ 26) then
    answers (record s { brk = value }) w i value None
    else answers s w i s.brk None

-- the call whose number is in register 17. An unknown one answers -38
unfoldable pub calls : State → ℕ → Inst → Outcome
calls s w i =
    let number = read s.regs 17 in
    if number == 64 then writes s w i
    else (if (number == 93) || (number == 94) then exits s w i
    else (if number == 214 then sets_break s w i
    else answers s w i (2 ^ 32 - 38) None))
