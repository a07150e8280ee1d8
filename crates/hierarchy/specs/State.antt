-- What caches and a predictor make of an instruction, and how they are after it.
use Rattle.std.specs.Prelude.{◌/◌, Bool, true, false, List, fold}
use Rattle.std.specs.Option.{option_map}
use Rattle.predictor.specs.Rules.{is_mispredicted, observed}
use Rattle.rv_exec.specs.declared.event.Event.{Event}
use Rattle.rv_exec.specs.declared.event.Flow.{Flow}
use Rattle.rv_exec.specs.declared.event.Flow.TheVariants.{Straight, Branch, Jal, Jalr}
use Rattle.hierarchy.specs.declared.marked.Marked.{Marked}
use Rattle.hierarchy.specs.declared.state.State.{State}
use Rattle.hierarchy.specs.declared.widths.Latencies.{Latencies}
use Rattle.hierarchy.specs.Lookup.{fetch_hits, after_fetch, data_hits, after_reference, delay, latency_of}

-- a taken branch, also one to the instruction behind it, or a jump
abbrev pub is_taken : Flow → Bool
is_taken Straight = false
is_taken (Branch taken) = taken
is_taken (Jal push) = true
is_taken (Jalr pop push) = true

-- the marks of an instruction, whose fetch comes before its reference to data
unfoldable pub mark_of : Latencies → State → Event → Marked
mark_of l s e = record {
  class = e.class;
  first = e.first;
  second = e.second;
  dest = e.dest;
  word = option_map (λ d. d.addr / 4) e.access;
  stall = delay l (fetch_hits s.caches e.pc);
  latency = latency_of l e.class (option_map (data_hits (after_fetch s.caches e.pc)) e.access);
  mispredicted = is_mispredicted s.predictor e;
  transferred = is_taken e.control;
}

-- caches and predictor after an instruction
unfoldable pub after_event : State → Event → State
after_event s e = record {
  caches = after_reference (after_fetch s.caches e.pc) e.access;
  predictor = observed s.predictor e;
}

-- caches and predictor after a list of instructions
unfoldable pub after_events : State → List Event → State
after_events s events = fold after_event s events
