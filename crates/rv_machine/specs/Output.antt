-- The bytes of memory that write calls give to the output.
use Rattle.std.specs.Prelude.{ℕ, zero, suc, ◌-◌, ◌%◌, List, [], ◌++◌, map, Option, Some, None}
use Rattle.std.specs.List.{range_with_len}
use Rattle.rv_exec.specs.declared.event.Buffer.{Buffer}
use Rattle.rv_exec.specs.Bytes.{byte_in}
use Rattle.rv_exec.specs.Machine as step
use Rattle.rv_exec.specs.Machine.{State, Went, Stopped}
use Rattle.rv_exec.specs.Memory.{Words, word_at}
use Rattle.rv_exec.specs.Runs.{state_after, step_at}

-- the byte of a word that is held; no call names bytes that aren't
abbrev pub byte_of : Option ℕ → ℕ → ℕ
byte_of (Some word) addr = byte_in word addr
byte_of None addr = 0

-- the byte at an address
unfoldable pub byte_at : Words → ℕ → ℕ
byte_at words addr = byte_of (word_at words (addr - addr % 4)) addr

-- so many bytes from an address on
unfoldable pub bytes_at : Words → ℕ → ℕ → List ℕ
bytes_at words addr len = map (byte_at words) (range_with_len addr len)

-- the bytes of a buffer, if there is one
abbrev pub buffer_bytes : Words → Option Buffer → List ℕ
buffer_bytes words (Some buffer) = bytes_at words buffer.addr buffer.len
buffer_bytes words None = []

-- what an instruction gives to the output
abbrev pub step_output : Option ℕ → step.Outcome → List ℕ
step_output None (Went event after) = buffer_bytes after.words event.wrote
step_output None (Stopped kind) = []
step_output (Some code) outcome = []

-- the output of so many instructions
unfoldable pub output_after : State → ℕ → List ℕ
output_after start zero = []
output_after start (suc n) =
    output_after start n ++ step_output (state_after start n).exit (step_at start n)
