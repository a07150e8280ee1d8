-- Marked traces of parts of a run.
use Rattle.std.proofs.Common.{◌≡◌, ℕ, suc, ◌+◌, ◌-◌, ◌<◌, List, [], ◌∷◌, ◌++◌, length, drop, take, refl, sym, ◌∙◌, ap, arith, Option, Some, None, Ok, Err}
use Rattle.std.specs.Option.{option_or}
use Rattle.rv_exec.specs.Machine as machine
use Rattle.rv_exec.specs.Machine.{Outcome, Went, Stopped}
use Rattle.rv_exec.specs.Next.{next}
use Rattle.rv_exec.specs.declared.event.Event.{Event}
use Rattle.rv_exec.specs.declared.event.TrapKind.{TrapKind}
use Rattle.hierarchy.specs.declared.marked.Marked.{Marked}
use Rattle.hierarchy.specs.declared.state.State.{State}
use Rattle.hierarchy.specs.declared.widths.Latencies.{Latencies}
use Rattle.hierarchy.specs.State.{mark_of, after_event, after_events}
use Rattle.hierarchy.specs.Trace.{marks, unless_halted, trace, IsAnnotated}
use Rattle.rv_exec.specs.Runs.{Halt, Trapped, AfterExit, Run, halted, run_of, joined}
use Rattle.rv_exec.proofs.RunsLemmas.{run_exited, run_trapped, runs_split, runs_whole, one_more}
use Rattle.lru_plain.specs.Shape.{Shape}
use Rattle.predictor.specs.declared.kind.PredictorKind.{PredictorKind}
use Rattle.hierarchy.specs.declared.places.Places.{Places}
use Rattle.hierarchy.specs.Warming.{warmed}
use Rattle.hierarchy.proofs.WarmingLemmas.{feeding}
use Rattle.std.proofs.Math.Seq.{drop-append_seam}
use Rattle.std.proofs.lemmas.List.{take_at}
use Rattle.std.proofs.lemmas.List.Sums.{fold-append}

-- marks of parts of a list
pub marks_split :
    (l : Latencies) (s : State) (es fs : List Event)
    → marks l s (es ++ fs) ≡ marks l s es ++ marks l (after_events s es) fs
unfolding marks after_events
marks_split l s [] fs = refl
marks_split l s (e ∷ es) fs =
    ap (λ (ms : List Marked). mark_of l s e ∷ ms) (marks_split l (after_event s e) es fs)

pub length-marks : (l : Latencies) (s : State) (es : List Event) → length (marks l s es) ≡ length es
unfolding marks
length-marks l s [] = refl
length-marks l s (e ∷ es) = ap suc (length-marks l (after_event s e) es)

-- a trace that is whole is the marks of a run that wasn't halted
record IsWhole (l : Latencies) (s : State) (r : Run) (ms : List Marked) : Type 0 where
  halt : r.halt ≡ None
  marks_are : marks l s r.events ≡ ms

whole_by :
    (l : Latencies) (s : State) (halt : Option Halt) (found ms : List Marked)
    → unless_halted halt found ≡ Ok ms → (halt ≡ None) × (found ≡ ms)
whole_by l s None found ms h = (refl, cc)
whole_by l s (Some halt) found ms h = cc

is_whole :
    (l : Latencies) (s : State) (m : machine.State) (n : ℕ) (ms : List Marked)
    → trace l s m n ≡ Ok ms → IsWhole l s (run_of m n) ms
unfolding trace
is_whole l s m n ms h =
    let w = whole_by l s (run_of m n).halt (marks l s (run_of m n).events) ms h in
    record { halt = w.0; marks_are = w.1 }

from_whole :
    (l : Latencies) (s : State) (m : machine.State) (n : ℕ) (ms : List Marked)
    → IsWhole l s (run_of m n) ms → trace l s m n ≡ Ok ms
unfolding trace
from_whole l s m n ms w = rw (w.halt, w.marks_are) refl

-- both parts of a run that wasn't halted weren't
none_first : (x y : Option Halt) → option_or x y ≡ None → x ≡ None
none_first None y h = refl
none_first (Some halt) y h = cc

none_second : (x y : Option Halt) → option_or x y ≡ None → y ≡ None
none_second None y h = h
none_second (Some halt) y h = cc

drop_seam : (xs ys ms : List Marked) (p : ℕ) → length xs ≡ p → xs ++ ys ≡ ms → ys ≡ drop p ms
drop_seam xs ys ms p len h = rw (← h, ← len) (sym (drop-append_seam xs ys))

-- a whole run of two parts
record AreParts (l : Latencies) (s : State) (r t : Run) (ms : List Marked) : Type 0 where
  first : r.halt ≡ None
  second : t.halt ≡ None
  marks_are : marks l s r.events ++ marks l (after_events s r.events) t.events ≡ ms

are_parts :
    (l : Latencies) (s : State) (r t : Run) (ms : List Marked)
    → IsWhole l s (joined r t) ms → AreParts l s r t ms
are_parts l s r t ms w =
    record {
      first = none_first r.halt t.halt w.halt;
      second = none_second r.halt t.halt w.halt;
      marks_are = sym (marks_split l s r.events t.events) ∙ w.marks_are;
    }

-- and the same of a trace
record ArePartsAt (l : Latencies) (s : State) (m : machine.State) (p n : ℕ) (ms : List Marked) : Type 0 where
  parts : AreParts l s (run_of m p) (run_of (run_of m p).after n) ms
  len : length (marks l s (run_of m p).events) ≡ p

parts_at :
    (l : Latencies) (s : State) (m : machine.State) (p n : ℕ) (ms : List Marked)
    → trace l s m (p + n) ≡ Ok ms → ArePartsAt l s m p n ms
parts_at l s m p n ms h =
    let whole : IsWhole l s (joined (run_of m p) (run_of (run_of m p).after n)) ms =
    rw (runs_split m p n) at (is_whole l s m (p + n) ms h) in
    let parts : AreParts l s (run_of m p) (run_of (run_of m p).after n) ms = are_parts l s _ _ ms whole in
    record {
      parts = parts;
      len = length-marks l s (run_of m p).events ∙ runs_whole m p parts.first;
    }

pub traces_split :
    (l : Latencies) (s : State) (m : machine.State) (p n : ℕ) (ms : List Marked)
    → trace l s m (p + n) ≡ Ok ms
    → trace l (after_events s (run_of m p).events) (run_of m p).after n ≡ Ok (drop p ms)
traces_split l s m p n ms h =
    let at : ArePartsAt l s m p n ms = parts_at l s m p n ms h in
    from_whole l (after_events s (run_of m p).events) (run_of m p).after n (drop p ms)
    (record {
      halt = at.parts.second;
      marks_are = drop_seam _ _ ms p at.len at.parts.marks_are;
    })

take_seam : (xs ys ms : List Marked) (p : ℕ) → length xs ≡ p → xs ++ ys ≡ ms → xs ≡ take p ms
take_seam xs ys ms p len h = rw (← h) (sym (take_at xs ys p len))

pub traces_begin :
    (l : Latencies) (s : State) (m : machine.State) (p n : ℕ) (ms : List Marked)
    → trace l s m (p + n) ≡ Ok ms → trace l s m p ≡ Ok (take p ms)
traces_begin l s m p n ms h =
    let at : ArePartsAt l s m p n ms = parts_at l s m p n ms h in
    from_whole l s m p (take p ms)
    (record { halt = at.parts.first; marks_are = take_seam _ _ ms p at.len at.parts.marks_are })

pub none_annotated : (l : Latencies) (s : State) (m : machine.State) → IsAnnotated l s m 0 [] m s
unfolding trace run_of marks after_events
none_annotated l s m = record { trace_is = refl; machine_is = refl; state_is = refl }

pub marks_more :
    (l : Latencies) (s : State) (es : List Event) (e : Event)
    → marks l s (es ++ e ∷ []) ≡ marks l s es ++ mark_of l (after_events s es) e ∷ []
unfolding marks
marks_more l s es e = marks_split l s es (e ∷ [])

events_more :
    (s : State) (es : List Event) (e : Event)
    → after_event (after_events s es) e ≡ after_events s (es ++ e ∷ [])
unfolding after_events
events_more s es e = sym (fold-append after_event s es (e ∷ []))

joined_whole :
    (l : Latencies) (first s : State) (r : Run) (e : Event) (after : machine.State) (ms : List Marked)
    → IsWhole l first r ms → s ≡ after_events first r.events
    → IsWhole l first (joined r (record { events = e ∷ []; after = after; halt = None })) (ms ++ mark_of l s e ∷ [])
joined_whole l first s r e after ms w is =
    record {
      halt = rw w.halt refl;
      marks_are = marks_more l first r.events e ∙ rw (w.marks_are, is) refl;
    }

-- an instruction of the run is annotated
pub annotated_more :
    (l : Latencies) (first s : State) (start now after : machine.State) (n : ℕ) (ms : List Marked) (e : Event)
    → IsAnnotated l first start n ms now s → now.exit ≡ None → next now ≡ Went e after
    → IsAnnotated l first start (n + 1) (ms ++ mark_of l s e ∷ []) after (after_event s e)
annotated_more l first s start now after n ms e is exit next_is =
    let more : run_of start (n + 1) ≡ joined (run_of start n) (record { events = e ∷ []; after = after; halt = None }) =
    one_more start now after n e is.machine_is exit next_is in
    record {
      trace_is = from_whole l first start (n + 1) _
          (rw more (joined_whole l first s (run_of start n) e after ms (is_whole l first start n ms is.trace_is) is.state_is));
      machine_is = sym (ap (λ (r : Run). r.after) more);
      state_is = ap (λ (x : State). after_event x e) is.state_is
          ∙ events_more first (run_of start n).events e
          ∙ ap (λ (r : Run). after_events first r.events) (sym more);
    }

-- a window of a run that began with empty caches
pub windows :
    (l : Latencies) (g : Places Shape) (kind : PredictorKind) (m : machine.State) (p n : ℕ) (ms : List Marked)
    → trace l (warmed g kind []) m (p + n) ≡ Ok ms
    → trace l (warmed g kind (run_of m p).events) (run_of m p).after n ≡ Ok (drop p ms)
windows l g kind m p n ms h =
    rw (feeding g kind [] (run_of m p).events) at (traces_split l (warmed g kind []) m p n ms h)

pub traces_whole :
    (l : Latencies) (s : State) (m : machine.State) (n : ℕ) (ms : List Marked)
    → trace l s m n ≡ Ok ms → length ms ≡ n
traces_whole l s m n ms h =
    let w : IsWhole l s (run_of m n) ms = is_whole l s m n ms h in
    ap length (sym w.marks_are) ∙ length-marks l s (run_of m n).events ∙ runs_whole m n w.halt

-- a trace whose run is halted by what comes next
halted_trace :
    (l : Latencies) (first : State) (m : machine.State) (len : ℕ) (halt : Halt)
    → (run_of m len).halt ≡ Some halt → trace l first m len ≡ Err halt
unfolding trace
halted_trace l first m len halt h = rw h refl

halted_behind :
    (l : Latencies) (first s : State) (start now : machine.State) (n more : ℕ) (ms : List Marked) (halt : Halt)
    → IsAnnotated l first start n ms now s → run_of now (suc more) ≡ halted now halt
    → trace l first start (n + suc more) ≡ Err halt
halted_behind l first s start now n more ms halt is stops =
    let w : IsWhole l first (run_of start n) ms = is_whole l first start n ms is.trace_is in
    halted_trace l first start (n + suc more) halt
    (ap (λ (r : Run). r.halt)
    (runs_split start n (suc more)
    ∙ ap (λ (x : machine.State). joined (run_of start n) (run_of x (suc more))) (sym is.machine_is)
    ∙ ap (λ (r : Run). joined (run_of start n) r) stops)
    ∙ ap (λ (x : Option Halt). option_or x (Some halt)) w.halt)

longer : (l : Latencies) (first : State) (m : machine.State) (n len : ℕ) (halt : Halt) → n < len
    → ((more : ℕ) → trace l first m (n + suc more) ≡ Err halt) → trace l first m len ≡ Err halt
longer l first m n len halt h each =
    let e : len ≡ n + suc (len - n - 1) = omega arith in
    ap (trace l first m) e ∙ each (len - n - 1)

pub traces_trap :
    (l : Latencies) (first s : State) (start now : machine.State) (n len : ℕ) (ms : List Marked) (kind : TrapKind)
    → IsAnnotated l first start n ms now s → now.exit ≡ None → next now ≡ Stopped kind → n < len
    → trace l first start len ≡ Err (Trapped (record { kind = kind; pc = now.pc }))
traces_trap l first s start now n len ms kind is exit stopped h =
    longer l first start n len _ h
    (λ more. halted_behind l first s start now n more ms _ is (run_trapped now more kind exit stopped))

pub traces_exit :
    (l : Latencies) (first s : State) (start now : machine.State) (n len : ℕ) (ms : List Marked) (code : ℕ)
    → IsAnnotated l first start n ms now s → now.exit ≡ Some code → n < len
    → trace l first start len ≡ Err (AfterExit now.pc)
traces_exit l first s start now n len ms code is exit h =
    longer l first start n len _ h
    (λ more. halted_behind l first s start now n more ms _ is (run_exited now more code exit))
