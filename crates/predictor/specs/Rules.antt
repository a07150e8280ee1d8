-- How a predictor judges an event, and what it learns from it: two-bit counters of directions, under
-- the branch's address alone (bimodal) or mixed with the outcomes of the branches before (gshare), a
-- table of the targets of indirect jumps, and a stack of return addresses.
use Rattle.std.specs.Prelude.{ℕ, ◌+◌, ◌-◌, ◌*◌, ◌/◌, ◌%◌, ◌^◌, min, Bool, true, false, not, ◌&&◌, ◌==◌, nat_le, if◌then◌else◌, Option, Some, None, List, [], ◌∷◌, ◌++◌, length, take, drop, fold, slice_get, slice_index, slice_index_or, slice_set, bit_xor}
use Rattle.rv_exec.specs.declared.event.Event.{Event}
use Rattle.rv_exec.specs.declared.event.Flow.{Flow}
use Rattle.rv_exec.specs.declared.event.Flow.TheVariants.{Straight, Branch, Jal, Jalr}
use Rattle.predictor.specs.declared.kind.PredictorKind.{PredictorKind}
use Rattle.predictor.specs.declared.kind.Scheme.{Scheme}
use Rattle.predictor.specs.declared.kind.Scheme.TheVariants.{Bimodal, Gshare}
use Rattle.predictor.specs.Tables.{Tables, empty_tables, no_target}

-- what chooses a branch's counter: the number of its word, which gshare mixes with the history
abbrev pub mixed : Scheme → ℕ → ℕ → ℕ
mixed Bimodal word history = word
mixed Gshare word history = bit_xor word history

-- where a branch's counter stands
abbrev pub counter_place : Tables → ℕ → ℕ
counter_place t pc = mixed t.kind.scheme (pc / 4) t.history % 2 ^ t.kind.bits

abbrev pub counter_for : Tables → ℕ → ℕ
counter_for t pc = slice_index t.counters (counter_place t pc)

-- the upper two of a counter's four values predict that the branch is taken
abbrev pub is_taken : ℕ → Bool
is_taken counter = nat_le 2 counter

abbrev pub same_direction : Bool → Bool → Bool
same_direction true taken = taken
same_direction false taken = not taken

-- a counter after a branch, from 0 to 3
abbrev pub counted : ℕ → Bool → ℕ
counted counter true = min (counter + 1) 3
counted counter false = counter - 1

-- the history of so many outcomes with one more; only gshare keeps one
abbrev pub lengthened : Scheme → ℕ → ℕ → Bool → ℕ
lengthened Bimodal bits history taken = history
lengthened Gshare bits history taken = (2 * history + (if taken then 1 else 0)) % 2 ^ bits

-- the tables after a branch
abbrev pub after_branch : Tables → ℕ → Bool → Tables
after_branch t pc taken = record t {
  counters = slice_set t.counters (counter_place t pc) (counted (counter_for t pc) taken);
  history = lengthened t.kind.scheme t.kind.bits t.history taken;
}

-- the latest of the addresses, up to so many
abbrev pub latest : ℕ → List ℕ → List ℕ
latest depth addresses = drop (length addresses - depth) addresses

-- the tables after a call at this pc: the address behind it lies on the stack
abbrev pub pushed : Tables → ℕ → Tables
pushed t pc = record t { stack = latest t.kind.depth (t.stack ++ ((pc + 4) % 2 ^ 32) ∷ []) }

abbrev pub pushed_if : Bool → Tables → ℕ → Tables
pushed_if true t pc = pushed t pc
pushed_if false t pc = t

abbrev pub is_address : Option ℕ → ℕ → Bool
is_address None next = false
is_address (Some address) next = address == next

-- the address on top of the stack is this one. None is on an empty stack
abbrev pub is_top : List ℕ → ℕ → Bool
is_top stack next = is_address (slice_get stack (length stack - 1)) next

-- the tables after a return
abbrev pub popped : Tables → Tables
popped t = record t { stack = take (length t.stack - 1) t.stack }

-- where an indirect jump's entry stands
abbrev pub target_place : Tables → ℕ → ℕ
target_place t pc = (pc / 4) % 2 ^ t.kind.target_log

-- the jump's entry holds its pc, and that it led here
abbrev pub holds_jump : ℕ × ℕ → ℕ → ℕ → Bool
holds_jump entry pc next = (entry.0 == pc) && (entry.1 == next)

abbrev pub target_for : Tables → ℕ → ℕ × ℕ
target_for t pc = slice_index_or t.targets (target_place t pc) no_target

-- the tables after an indirect jump that is no return
abbrev pub after_jump : Tables → ℕ → ℕ → Tables
after_jump t pc next = record t { targets = slice_set t.targets (target_place t pc) (pc, next) }

-- an event is mispredicted: a branch whose direction is, a return whose address isn't on top of the
-- stack, and another indirect jump whose entry doesn't hold it
abbrev pub flow_missed : Tables → Flow → ℕ → ℕ → Bool
flow_missed t Straight pc next = false
flow_missed t (Branch taken) pc next = not (same_direction (is_taken (counter_for t pc)) taken)
flow_missed t (Jal push) pc next = false
flow_missed t (Jalr true push) pc next = not (is_top t.stack next)
flow_missed t (Jalr false push) pc next = not (holds_jump (target_for t pc) pc next)

abbrev pub is_mispredicted : Tables → Event → Bool
is_mispredicted t event = flow_missed t event.control event.pc event.next

-- the tables after an event. Where a jump pops and pushes, the pop comes first
abbrev pub flow_learnt : Tables → Flow → ℕ → ℕ → Tables
flow_learnt t Straight pc next = t
flow_learnt t (Branch taken) pc next = after_branch t pc taken
flow_learnt t (Jal push) pc next = pushed_if push t pc
flow_learnt t (Jalr true push) pc next = pushed_if push (popped t) pc
flow_learnt t (Jalr false push) pc next = pushed_if push (after_jump t pc next) pc

abbrev pub observed : Tables → Event → Tables
observed t event = flow_learnt t event.control event.pc event.next

-- the tables after each event of a list in turn
unfoldable pub trained : PredictorKind → List Event → Tables
trained kind events = fold observed (empty_tables kind) events
