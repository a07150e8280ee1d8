-- Runs and their parts.
use Rattle.std.proofs.Common.{◌≡◌, ℕ, zero, suc, ◌+◌, [], ◌∷◌, length, refl, sym, ◌∙◌, ap, arith, Option, Some, None, zero-add}
use Rattle.rv_exec.specs.declared.event.Event.{Event}
use Rattle.rv_exec.specs.declared.event.TrapKind.{TrapKind}
use Rattle.rv_exec.specs.Machine.{State, Outcome, Went, Stopped}
use Rattle.rv_exec.specs.Next.{next}
use Rattle.rv_exec.specs.Runs.{Halt, Trapped, AfterExit, Run, halted, with_first, steps, run_of, joined, state_after}

-- the first instruction of a run, case by case
steps_exited :
    (exit : Option ℕ) (outcome : Outcome) (m : State) (rest : State → Run) (code : ℕ)
    → exit ≡ Some code → steps exit outcome m rest ≡ halted m (AfterExit m.pc)
steps_exited exit outcome m rest code h = rw h refl

steps_stopped :
    (exit : Option ℕ) (outcome : Outcome) (m : State) (rest : State → Run) (kind : TrapKind)
    → exit ≡ None → outcome ≡ Stopped kind
    → steps exit outcome m rest ≡ halted m (Trapped (record { kind = kind; pc = m.pc }))
steps_stopped exit outcome m rest kind h k = rw (h, k) refl

pub steps_went :
    (exit : Option ℕ) (outcome : Outcome) (m : State) (rest : State → Run)
    (e : Event) (after : State)
    → exit ≡ None → outcome ≡ Went e after → steps exit outcome m rest ≡ with_first e (rest after)
steps_went exit outcome m rest e after h k = rw (h, k) refl

-- a run that can't begin
pub run_exited :
    (m : State) (n code : ℕ) → m.exit ≡ Some code → run_of m (suc n) ≡ halted m (AfterExit m.pc)
unfolding run_of
run_exited m n code exit = steps_exited m.exit (next m) m (λ t. run_of t n) code exit

pub run_trapped :
    (m : State) (n : ℕ) (kind : TrapKind) → m.exit ≡ None → next m ≡ Stopped kind
    → run_of m (suc n) ≡ halted m (Trapped (record { kind = kind; pc = m.pc }))
unfolding run_of
run_trapped m n kind exit stopped = steps_stopped m.exit (next m) m (λ t. run_of t n) kind exit stopped

-- where no instruction can be done, a run stays where it is
record Stays (m : State) (r : Run) : Type 0 where
  events : r.events ≡ []
  after : r.after ≡ m

stays_halted : (m : State) (halt : Halt) (r : Run) → r ≡ halted m halt → Stays m r
stays_halted m halt r h = rw h (record { events = refl; after = refl })

stays_after_exit : (m : State) (code n : ℕ) → m.exit ≡ Some code → Stays m (run_of m n)
unfolding run_of
stays_after_exit m code zero exit = record { events = refl; after = refl }
stays_after_exit m code (suc n) exit = stays_halted m _ _ (run_exited m n code exit)

stays_at_trap :
    (m : State) (kind : TrapKind) (n : ℕ) → m.exit ≡ None → next m ≡ Stopped kind → Stays m (run_of m n)
unfolding run_of
stays_at_trap m kind zero exit stopped = record { events = refl; after = refl }
stays_at_trap m kind (suc n) exit stopped = stays_halted m _ _ (run_trapped m n kind exit stopped)

joined_to_halted :
    (m : State) (halt : Halt) (r : Run) → Stays m r → halted m halt ≡ joined (halted m halt) r
joined_to_halted m halt r stays = rw (stays.events, stays.after) refl

split_by :
    (m : State) (a b : ℕ) (exit : Option ℕ) (outcome : Outcome) → m.exit ≡ exit → next m ≡ outcome
    → ((t : State) → run_of t (a + b) ≡ joined (run_of t a) (run_of (run_of t a).after b))
    → steps exit outcome m (λ t. run_of t (a + b))
    ≡ joined (steps exit outcome m (λ t. run_of t a)) (run_of (steps exit outcome m (λ t. run_of t a)).after b)
split_by m a b (Some code) outcome exit is rest =
    joined_to_halted m _ (run_of m b) (stays_after_exit m code b exit)
split_by m a b None (Stopped kind) exit is rest =
    joined_to_halted m _ (run_of m b) (stays_at_trap m kind b exit is)
split_by m a b None (Went e after) exit is rest = ap (with_first e) (rest after)

pub runs_split :
    (m : State) (a b : ℕ) → run_of m (a + b) ≡ joined (run_of m a) (run_of (run_of m a).after b)
unfolding run_of
runs_split m zero b = rw (zero-add b) refl
runs_split m (suc a) b =
    let e : suc a + b ≡ suc (a + b) = omega arith in
    ap (run_of m) e ∙ split_by m a b m.exit (next m) refl refl (λ t. runs_split t a b)

whole_by :
    (m : State) (n : ℕ) (exit : Option ℕ) (outcome : Outcome)
    → ((t : State) → (run_of t n).halt ≡ None → length (run_of t n).events ≡ n)
    → (steps exit outcome m (λ t. run_of t n)).halt ≡ None
    → length (steps exit outcome m (λ t. run_of t n)).events ≡ suc n
whole_by m n (Some code) outcome rest h = cc
whole_by m n None (Stopped kind) rest h = cc
whole_by m n None (Went e after) rest h = ap suc (rest after h)

pub runs_whole : (m : State) (n : ℕ) → (run_of m n).halt ≡ None → length (run_of m n).events ≡ n
unfolding run_of
runs_whole m zero h = refl
runs_whole m (suc n) h = whole_by m n m.exit (next m) (λ t. runs_whole t n) h

-- a run of one instruction
pub one_step : (m after : State) (e : Event) → m.exit ≡ None → next m ≡ Went e after
    → run_of m 1 ≡ record { events = e ∷ []; after = after; halt = None }
unfolding run_of
one_step m after e exit is = steps_went m.exit (next m) m (λ t. run_of t 0) e after exit is

-- one more instruction is done
pub one_more :
    (m now after : State) (n : ℕ) (e : Event) → now ≡ (run_of m n).after → now.exit ≡ None
    → next now ≡ Went e after
    → run_of m (n + 1) ≡ joined (run_of m n) (record { events = e ∷ []; after = after; halt = None })
one_more m now after n e at exit is =
    runs_split m n 1
    ∙ ap (λ (t : Run). joined (run_of m n) t)
    (ap (λ (x : State). run_of x 1) (sym at) ∙ one_step now after e exit is)

-- where a machine is behind an instruction. It stays where it is once it has exited, and at a trap
abbrev pub moved : Option ℕ → Outcome → State → State
moved None (Went event after) before = after
moved None (Stopped kind) before = before
moved (Some code) outcome before = before

one_after :
    (exit : Option ℕ) (outcome : Outcome) (m : State)
    → (steps exit outcome m (λ t. run_of t 0)).after ≡ moved exit outcome m
unfolding run_of
one_after (Some code) outcome m = refl
one_after None (Stopped kind) m = refl
one_after None (Went e after) m = refl

-- the state behind the first instruction
first_after : (m : State) → state_after m 1 ≡ moved m.exit (next m) m
unfolding run_of
first_after m = one_after m.exit (next m) m

pub state_at_start : (m : State) → state_after m 0 ≡ m
unfolding run_of
state_at_start m = refl

-- the state behind one instruction more
pub state_behind :
    (m : State) (n : ℕ)
    → state_after m (n + 1) ≡ moved (state_after m n).exit (next (state_after m n)) (state_after m n)
state_behind m n =
    ap (λ (r : Run). r.after) (runs_split m n 1) ∙ first_after (state_after m n)
