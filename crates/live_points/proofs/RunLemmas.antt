-- Parts of runs that go on.
use Rattle.std.proofs.Common.{◌≡◌, ◌<◌, ◌≤◌, ◌%◌, ℕ, zero, suc, ◌+◌, ◌-◌, List, [], ◌∷◌, Option, Some, None, refl, sym, ap, ◌∙◌, arith, add-one}
use Rattle.std.specs.Option.{option_or}
use Rattle.rv_exec.specs.declared.event.Event.{Event}
use Rattle.rv_exec.specs.Machine.{State, Outcome}
use Rattle.rv_exec.specs.Next.{next}
use Rattle.rv_exec.specs.Runs.{Halt, Run, run_of, joined, steps}
use Rattle.rv_exec.proofs.RanLemmas.{Ran, ran_of}
use Rattle.rv_exec.proofs.RunsLemmas.{runs_split, one_more}
use Rattle.rv_exec.proofs.StepsLemmas.{stepped, well_formed}
use Rattle.rv_exec.specs.Event.{IsWellFormed}
use Rattle.rv_machine.specs.Outcome.{Does, Reaches}
use Rattle.rv_machine.proofs.OutcomeLemmas.{is_outcome}
use Rattle.live_points.specs.Laws.{ExitsGoOn}

none_first : (x y : Option Halt) → option_or x y ≡ None → x ≡ None
none_first None y h = refl
none_first (Some halt) y h = cc

none_second : (x y : Option Halt) → option_or x y ≡ None → y ≡ None
none_second None y h = h
none_second (Some halt) y h = cc

-- a run that goes on does so in both parts
pub first_goes_on : (m : State) (a b : ℕ) → (run_of m (a + b)).halt ≡ None → (run_of m a).halt ≡ None
first_goes_on m a b whole =
    none_first (run_of m a).halt (run_of (run_of m a).after b).halt
    (ap (λ (r : Run). r.halt) (sym (runs_split m a b)) ∙ whole)

pub second_goes_on : (m : State) (a b : ℕ) → (run_of m (a + b)).halt ≡ None → (run_of (run_of m a).after b).halt ≡ None
second_goes_on m a b whole =
    none_second (run_of m a).halt (run_of (run_of m a).after b).halt
    (ap (λ (r : Run). r.halt) (sym (runs_split m a b)) ∙ whole)

-- a stretch of it
pub stretch_goes_on :
    (m : State) (start len length : ℕ) → (run_of m length).halt ≡ None → start + len ≤ length
    → (run_of (run_of m start).after len).halt ≡ None
stretch_goes_on m start len length whole h =
    let all : start + len + (length - (start + len)) ≡ length = omega arith in
    second_goes_on m start len
    (first_goes_on m (start + len) (length - (start + len)) (ap (λ n. (run_of m n).halt) all ∙ whole))

running_by :
    (exit : Option ℕ) (outcome : Outcome) (m : State) (rest : State → Run) → (steps exit outcome m rest).halt ≡ None
    → exit ≡ None
running_by None outcome m rest h = refl
running_by (Some code) outcome m rest h = cc

-- where an instruction is done, the program hadn't exited
pub running : (m : State) (n : ℕ) → 0 < n → (run_of m n).halt ≡ None → m.exit ≡ None
unfolding run_of
running m zero some whole = absurd (omega arith)
running m (suc n) some whole = running_by m.exit (next m) m (λ after. run_of after n) whole

heap_stays : (s t : State) (es : List Event) → Ran s es t → t.heap_low ≡ s.heap_low
heap_stays s t [] ran = ap (λ (x : State). x.heap_low) ran
heap_stays s t (e ∷ es) (mid, did, rest) = heap_stays mid t es rest ∙ (stepped s e mid did.went).heap_low

pub heap_of : (m : State) (n : ℕ) → (run_of m n).after.heap_low ≡ m.heap_low
heap_of m n = heap_stays m (run_of m n).after (run_of m n).events (ran_of m n)

pcs_stay : (s t : State) (es : List Event) → Ran s es t → s.pc % 4 ≡ 0 → t.pc % 4 ≡ 0
pcs_stay s t [] ran at = ap (λ (x : State). x.pc % 4) ran ∙ at
pcs_stay s t (e ∷ es) (mid, did, rest) at =
    let formed : IsWellFormed e = well_formed s e mid did.went at in
    pcs_stay mid t es rest (ap (λ pc. pc % 4) (stepped s e mid did.went).moves ∙ formed.next)

pub pc_of : (m : State) (n : ℕ) → m.pc % 4 ≡ 0 → (run_of m n).after.pc % 4 ≡ 0
pc_of m n at = pcs_stay m (run_of m n).after (run_of m n).events (ran_of m n) at

-- ---- a run that exits

record GoesOn (m : State) (n : ℕ) : Type 0 where
  whole : (run_of m n).halt ≡ None
  runs : (run_of m n).after.exit ≡ None

one_done :
    (m : State) (n : ℕ) (exit : Option ℕ) → GoesOn m n → Does m n exit
    → ((run_of m (n + 1)).halt ≡ None) × ((run_of m (n + 1)).after.exit ≡ exit)
one_done m n exit so_far (event, after, went, is) =
    let more : run_of m (n + 1) ≡ joined (run_of m n) (record { events = event ∷ []; after = after; halt = None }) =
    one_more m (run_of m n).after after n event refl so_far.runs went in (
      ap (λ (r : Run). r.halt) more ∙ ap (λ (halt : Option Halt). option_or halt None) so_far.whole,
      ap (λ (r : Run). r.after.exit) more ∙ is,
    )

reached : (m : State) (n : ℕ) → m.exit ≡ None → Reaches m n → GoesOn m n
unfolding run_of
reached m zero exit reaches = record { whole = refl; runs = exit }
reached m (suc n) exit reaches =
    let before : GoesOn m n = reached m n exit (λ k h. reaches k (omega arith)) in
    let one = one_done m n None before (reaches n (omega arith)) in
    let behind : GoesOn m (n + 1) = record { whole = one.0; runs = one.1 } in
    rw add-one at behind

pub exits_go_on : ExitsGoOn
exits_go_on start budget length code exit is =
    let both = (is_outcome start budget).exited code length in
    let (at, last, within, reaches, does) = both.0 is in
    rw last (one_done start at (Some code) (reached start at exit reaches) does).0
