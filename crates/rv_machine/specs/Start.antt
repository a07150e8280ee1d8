-- Where a program starts.
use Rattle.std.specs.Prelude.{ℕ, ◌^◌, List, ◌++◌, replicate, slice_set, None}
use Rattle.elf_image.specs.Image.{ImageValue}
use Rattle.rv_exec.specs.Memory.{Words, Mapped}
use Rattle.rv_exec.specs.Machine.{State}
use Rattle.rv_machine.specs.ProgramMemory.{words_of}

unfoldable pub zeros : ℕ → List ℕ
zeros count = replicate count 0

-- the image's words, and zeros in the heap's 64 MiB and in the stack's 1 MiB
unfoldable pub start_words : ImageValue → Words
start_words image = words_of image.low (image.words ++ zeros (2 ^ 24)) (zeros (2 ^ 18))

-- the stack pointer, which is register 2, is a page below the stack's end. All others are 0
abbrev pub start_registers : List ℕ
start_registers = slice_set (replicate 32 0) 2 0x7FFFF000

-- the state before the first instruction
unfoldable pub start_of : ImageValue → State
start_of image = record {
  pc = image.entry;
  regs = start_registers;
  brk = image.heap_low;
  heap_low = image.heap_low;
  exit = None;
  words = start_words image;
  buffers = Mapped image.low image.heap_low;
}
