-- A machine's fields seen as its state and its output.
use Rattle.rv_exec.specs.Memory.{Mapped}
use Rattle.rv_exec.specs.Machine.{state}
use Rattle.rv_machine.specs.declared.whole.Whole.TheInside.{Inside}
use Rattle.rv_machine.specs.ProgramMemory.{words_of, AreBlocks}
use Rattle.rv_machine.specs.Machine.{Machine}

abbrev pub view_of : Inside → Machine
view_of whole = record {
  state = state whole.core
      (words_of whole.memory.low whole.memory.words whole.memory.stack)
      (Mapped whole.memory.low whole.memory.heap_low);
  keeps = whole.keep_output;
  output = whole.output.items;
}

abbrev pub HasBlocks : Inside → Type 0
HasBlocks whole = AreBlocks whole.memory.low whole.memory.heap_low whole.memory.words
    whole.memory.stack
