-- Laws of steps, of runs and of write buffers.
use Rattle.std.specs.Prelude.{◌≡◌, ◌↔◌, ◌<◌, ◌≤◌, ℕ, ◌+◌, ◌%◌, Some, None, IsSome, List, [], ◌∷◌, length, true, slice_get}
use Rattle.rv_exec.specs.declared.event.Event.{Event}
use Rattle.rv_exec.specs.Event.{IsWellFormed}
use Rattle.rv_exec.specs.Machine.{State, Went}
use Rattle.rv_exec.specs.Memory.{Words, Mapped, word_at, passes, IsMapped}
use Rattle.rv_exec.specs.Next.{next}
use Rattle.rv_exec.specs.References.{first_found}
use Rattle.rv_exec.specs.Runs.{run_of, joined, state_after, step_at}
use Rattle.rv_exec.specs.Steps.{Stepped, over}

-- a buffer passes exactly where each of its bytes is mapped
abbrev pub PassesWhereMapped : Type 0
PassesWhereMapped =
    (low heap_low addr len : ℕ) → heap_low ≤ 0x70000000
    → (passes (Mapped low heap_low) addr len ≡ true)
    ↔ ((k : ℕ) → k < len → IsMapped low heap_low (addr + k))

-- what holds of every step that is done
abbrev pub EveryStep : Type 0
EveryStep = (s : State) (e : Event) (after : State) → next s ≡ Went e after → Stepped s e after

-- a run can be cut at any instruction: it is a first part, and a second one from where that came to
abbrev pub RunsSplit : Type 0
RunsSplit =
    (m : State) (a b : ℕ) → run_of m (a + b) ≡ joined (run_of m a) (run_of (run_of m a).after b)

-- a run that doesn't end early has as many instructions as it was asked for
abbrev pub RunsAreWhole : Type 0
RunsAreWhole = (m : State) (n : ℕ) → (run_of m n).halt ≡ None → length (run_of m n).events ≡ n

-- a run grows by the instruction that comes next
abbrev pub RunsGrow : Type 0
RunsGrow =
    (m now after : State) (n : ℕ) (e : Event) → now ≡ (run_of m n).after → now.exit ≡ None
    → next now ≡ Went e after
    → run_of m (n + 1) ≡ joined (run_of m n) (record { events = e ∷ []; after = after; halt = None })

-- the event is that of the instruction of that number, which was done
pub record IsEventOf (m : State) (k : ℕ) (e : Event) : Type 0 where
  pub went : step_at m k ≡ Went e (state_after m (k + 1))
  pub stepped : Stepped (state_after m k) e (state_after m (k + 1))
  pub well_formed : m.pc % 4 ≡ 0 → IsWellFormed e

-- each event of a run is that of its number
abbrev pub EventsAreSteps : Type 0
EventsAreSteps =
    (m : State) (n k : ℕ) (e : Event) → slice_get (run_of m n).events k ≡ Some e → IsEventOf m k e

-- the first value that a run finds at the address of a word is the word's value at its start
abbrev pub FirstFoundIsTheStart : Type 0
FirstFoundIsTheStart =
    (m : State) (n addr value : ℕ) → first_found (run_of m n).events addr ≡ Some value
    → word_at m.words addr ≡ Some value

-- two memories hold the same words at all addresses that instructions touch
abbrev pub HoldTheSame : Words → Words → List Event → Type 0
HoldTheSame one other events =
    (addr : ℕ) → IsSome (first_found events addr) → word_at one addr ≡ word_at other addr

-- the run of n instructions over other words, where every write buffer passes, is the same: it has
-- the same events, and comes to the same state over the words after it. These hold the same
-- wherever both memories did at the start
pub record RunsTheSame (m : State) (n : ℕ) (words : Words) : Type 0 where
  pub after : Words
  pub run :
      run_of (over m words) n
      ≡ record { events = (run_of m n).events; after = over (state_after m n) after; halt = None }
  pub same :
      (addr : ℕ) → word_at words addr ≡ word_at m.words addr
      → word_at after addr ≡ word_at (state_after m n).words addr

-- a run that goes on does the same over any memory that holds the words that it touches
abbrev pub RunsAgain : Type 0
RunsAgain =
    (m : State) (n : ℕ) (words : Words) → (run_of m n).halt ≡ None
    → HoldTheSame words m.words (run_of m n).events → RunsTheSame m n words
