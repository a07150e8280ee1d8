-- A part of a run, instruction by instruction.
use Rattle.std.proofs.Common.{◌≡◌, ◌<◌, ◌+◌, ◌++◌, ◌∷◌, [], ℕ, List, length, Some, None, Ok, Err, refl, sym, ap, ◌∙◌, subst, arith}
use Rattle.rv_exec.specs.Runs.{Run, run_of, joined}
use Rattle.rv_exec.proofs.RunsLemmas.{runs_whole, one_more}
use Rattle.rv_exec.specs.declared.event.Event.{Event}
use Rattle.rv_exec.specs.declared.event.Trap.{Trap}
use Rattle.rv_machine.specs.declared.outcome.MachineFault.TheVariants as faults
use Rattle.rv_machine.specs.declared.outcome.Outcome.TheVariants.{Exited}
use Rattle.rv_machine.specs.Machine.{Machine, Advances}
use Rattle.rv_machine.proofs.UnderWayLemmas.{at_start, goes_on, exits, traps}
use Rattle.turbosmarts.specs.declared.measuring.PartEnd.TheVariants as ends
use Rattle.turbosmarts.specs.Measuring.{HasCome, HasShown, IsPart}
use Rattle.turbosmarts.specs.Processor.{events_to}

-- so many instructions of the part ran
pub part_begins :
    (shown : ℕ → Type 0) (start now : Machine) (at done : ℕ) → done ≡ 0
    → HasCome shown start at now → HasCome shown start (at + done) now
part_begins shown start now at done none before =
    let P : ℕ → Type 0 = λ n. HasCome shown start n now in
    let same : at ≡ at + done = omega arith in
    subst P same before

-- the run with one instruction more
run_more :
    (shown : ℕ → Type 0) (start old new : Machine) (n : ℕ) (e : Event)
    → HasCome shown start n old → Advances old (Ok e) new
    → run_of start.state (n + 1) ≡ joined (run_of start.state n) (record { events = e ∷ []; after = new.state; halt = None })
run_more shown start old new n e before step =
    one_more start.state old.state new.state n e (sym before.after) before.way.running step.0

-- the instructions up to the next one
pub events_more :
    (shown : ℕ → Type 0) (start old new : Machine) (n : ℕ) (e : Event)
    → HasCome shown start n old → Advances old (Ok e) new
    → events_to start.state (n + 1) ≡ events_to start.state n ++ e ∷ []
events_more shown start old new n e before step =
    ap (λ (r : Run). r.events) (run_more shown start old new n e before step)

-- the next instruction was done and shown
pub shown_more :
    (shown now_shown : ℕ → Type 0) (start old new : Machine) (n : ℕ) (e : Event)
    → HasCome shown start n old → Advances old (Ok e) new → now_shown (n + 1)
    → HasShown now_shown start.state (n + 1)
shown_more shown now_shown start old new n e before step sees = record {
  done = ap (λ (r : Run). r.halt) (run_more shown start old new n e before step) ∙ rw before.shown.done refl;
  shown = sees;
}

pub part_goes_on :
    (shown now_shown : ℕ → Type 0) (start old new : Machine) (at done : ℕ) (e : Event)
    → HasCome shown start (at + done) old → Advances old (Ok e) new → new.state.exit ≡ None
    → now_shown (at + done + 1)
    → HasCome now_shown start (at + (done + 1)) new
part_goes_on shown now_shown start old new at done e before step running sees =
    let P : ℕ → Type 0 = λ n. HasCome now_shown start n new in
    let same : at + done + 1 ≡ at + (done + 1) = omega arith in
    subst P same (record {
      way = goes_on start old new (at + done) e before.way step running;
      after = ap (λ (r : Run). r.after) (run_more shown start old new (at + done) e before step);
      shown = shown_more shown now_shown start old new (at + done) e before step sees;
    })

pub part_exits :
    (shown now_shown : ℕ → Type 0) (start old new : Machine) (at done len code : ℕ) (e : Event)
    → HasCome shown start (at + done) old → Advances old (Ok e) new → new.state.exit ≡ Some code
    → done < len → now_shown (at + done + 1)
    → IsPart now_shown start at len new (record { ran = done + 1; end = ends.Exited code })
part_exits shown now_shown start old new at done len code e before step exit room sees =
    let P : ℕ → Type 0 = λ n. HasShown now_shown start.state n in
    let same : at + done + 1 ≡ at + (done + 1) = omega arith in
    record {
      ran = omega arith;
      shown = subst P same (shown_more shown now_shown start old new (at + done) e before step sees);
      ends = λ budget fits.
          sym (exits start old new budget (at + done) code e before.way (omega arith) step exit)
          ∙ ap (λ (n : ℕ). Exited code n) same;
    }

pub part_traps :
    (shown : ℕ → Type 0) (start old new : Machine) (at done len : ℕ) (trap : Trap)
    → HasCome shown start (at + done) old → Advances old (Err (faults.Trap trap)) new → done < len
    → IsPart shown start at len new (record { ran = done; end = ends.Trapped trap })
part_traps shown start old new at done len trap before step room = record {
  ran = omega arith;
  shown = before.shown;
  ends = (room, λ budget fits. sym (traps start old new budget (at + done) trap before.way fits step));
}

pub part_full :
    (shown : ℕ → Type 0) (start now : Machine) (at done len : ℕ)
    → HasCome shown start (at + done) now → done ≡ len
    → IsPart shown start at len now (record { ran = len; end = ends.Full })
part_full shown start now at done len before all = record {
  ran = omega arith;
  shown = rw (← all) before.shown;
  ends = (refl, rw (← all) before);
}

-- a run begins
pub come_first :
    (shown : ℕ → List Event → Type 0) (start : Machine)
    → start.state.exit ≡ None → shown 0 [] → HasCome (λ n. shown 0 (events_to start.state n)) start 0 start
unfolding run_of
come_first shown start running sees = record {
  way = at_start start running;
  after = refl;
  shown = record { done = refl; shown = sees };
}

-- and so does a unit
pub unit_begins :
    (shown now_shown : ℕ → List Event → Type 0) (start now : Machine) (begun place : ℕ)
    → HasCome (λ n. shown begun (events_to start.state n)) start place now
    → ((b : ℕ) (es : List Event) → shown b es → now_shown (length es) es)
    → HasCome (λ n. now_shown place (events_to start.state n)) start place now
unit_begins shown now_shown start now begun place before begins =
    let P : ℕ → Type 0 = λ n. now_shown n (events_to start.state place) in
    record {
      way = before.way;
      after = before.after;
      shown = record {
        done = before.shown.done;
        shown = subst P (runs_whole start.state place before.shown.done)
            (begins begun (events_to start.state place) before.shown.shown);
      };
    }
