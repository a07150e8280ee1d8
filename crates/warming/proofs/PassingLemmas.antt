-- A pass, instruction by instruction.
use Rattle.std.proofs.Common.{◌≡◌, ◌≤◌, ◌<◌, ◌+◌, ◌-◌, ◌^◌, ℕ, List, [], ◌∷◌, ◌++◌, length, drop, Option, Some, None, refl, sym, ap, subst, ◌∙◌, arith, append_assoc}
use Rattle.std.proofs.lemmas.List.{append-nil, drop-append-le}
use Rattle.std.specs.Option.{option_or}
use Rattle.std.proofs.lemmas.Bool.{le-ltb}
use Rattle.std.proofs.lemmas.List.FromFn.{length-map-range_with_len, get_or-map-range_with_len}
use Rattle.live_points.specs.declared.header.Records.{Records}
use Rattle.live_points.proofs.RunLemmas.{stretch_goes_on, first_goes_on, running}
use Rattle.live_words.specs.LiveWords.{first_values}
use Rattle.live_words.specs.Collector.{with_first}
use Rattle.live_words.specs.Windows.{WindowsValue, window_at, window_after, with_touch}
use Rattle.live_words.proofs.CollectorLemmas.{with_first_more}
use Rattle.live_words.specs.Words.{memory_of}
use Rattle.rv_exec.specs.declared.event.DataRef.{DataRef}
use Rattle.rv_exec.specs.declared.event.Event.{Event}
use Rattle.rv_exec.specs.declared.event.TrapKind.{TrapKind}
use Rattle.rv_exec.specs.Machine.{State, Went, Stopped}
use Rattle.rv_exec.specs.Memory.{Words}
use Rattle.rv_exec.specs.Next.{next}
use Rattle.rv_exec.specs.References.{data_word, words_found}
use Rattle.rv_exec.specs.Runs.{Halt, Run, run_of, joined}
use Rattle.rv_exec.proofs.RunsLemmas.{one_more, run_trapped, runs_whole}
use Rattle.warming.specs.declared.pass.Pass.{Pass}
use Rattle.warming.specs.Learning.{Learnt, AreEarly, learnt_of}
use Rattle.warming.specs.Passing.{CanRun, IsNoted, IsPassing}
use Rattle.warming.proofs.LearningLemmas.{early_after}

-- ---- words

found_more :
    (es : List Event) (e : Event) → words_found (es ++ e ∷ []) ≡ words_found es ++ (e.pc, e.fetched) ∷ data_word e.access
unfolding words_found
found_more [] e = ap (λ (ws : List (ℕ × ℕ)). (e.pc, e.fetched) ∷ ws) (append-nil (data_word e.access))
found_more (x ∷ es) e =
    ap (λ (ws : List (ℕ × ℕ)). (x.pc, x.fetched) ∷ (data_word x.access ++ ws)) (found_more es e)
    ∙ ap (λ (ws : List (ℕ × ℕ)). (x.pc, x.fetched) ∷ ws)
    (sym (append_assoc (data_word x.access) (words_found es) ((e.pc, e.fetched) ∷ data_word e.access)))

-- the words that a window has found, after one instruction more
window_more :
    (es : List Event) (e : Event) (begin : ℕ) (old new : Words) → begin ≤ length es
    → ((pairs : List (ℕ × ℕ)) → old ≡ memory_of pairs → new ≡ memory_of (pairs ++ (e.pc, e.fetched) ∷ data_word e.access))
    → old ≡ first_values (drop begin es) → new ≡ first_values (drop begin (es ++ e ∷ []))
unfolding first_values
window_more es e begin old new within more is =
    more (words_found (drop begin es)) is
    ∙ ap (λ (ws : List (ℕ × ℕ)). memory_of ws) (sym (found_more (drop begin es) e))
    ∙ ap (λ (l : List Event). memory_of (words_found l)) (sym (drop-append-le begin es (e ∷ []) within))

-- no window is open
pub noted_none : (value : WindowsValue) (pairs : List (ℕ × ℕ)) → value.ended ≡ length value.windows → IsNoted value value pairs
noted_none value pairs none = record {
  count = refl;
  ended = refl;
  found = λ k before low high is. absurd (omega (arith, none));
}

pub noted_one :
    (old new : WindowsValue) (addr word : ℕ) → new ≡ with_touch old addr word → IsNoted old new ((addr, word) ∷ [])
noted_one old new addr word touched =
    rw touched
    (record {
      count = length-map-range_with_len (window_after old addr word) 0 (length old.windows);
      ended = refl;
      found = λ k before low high is.
          get_or-map-range_with_len (window_after old addr word) 0 (length old.windows) k k (memory_of []) high (omega arith)
          ∙ rw (le-ltb k old.ended low) refl
          ∙ ap (λ (words : Words). with_first words addr word) is
          ∙ with_first_more before addr word;
    })

pub noted_both :
    (old mid new : WindowsValue) (pairs more : List (ℕ × ℕ)) → IsNoted old mid pairs → IsNoted mid new more
    → IsNoted old new (pairs ++ more)
noted_both old mid new pairs more one two = record {
  count = two.count ∙ one.count;
  ended = two.ended ∙ one.ended;
  found = λ k before low high is.
      two.found k (before ++ pairs) (omega (arith, one.ended)) (omega (arith, one.count)) (one.found k before low high is)
      ∙ ap (λ (ws : List (ℕ × ℕ)). memory_of ws) (append_assoc before pairs more);
}

-- ---- one instruction

-- no instruction was done
pub passing_none :
    (start : State) (records : Records) (begins : ℕ → ℕ) (pass : Pass) → pass.at ≡ 0 → pass.whole.state ≡ start
    → pass.learner ≡ learnt_of records [] → pass.windows ≡ record { windows = []; ended = 0 }
    → IsPassing start records begins pass
unfolding run_of
passing_none start records begins pass at state learnt none =
    let few : length pass.windows.windows ≡ 0 = ap (λ (v : WindowsValue). length v.windows) none in
    record {
      done = rw at refl;
      state = rw at state;
      learnt = rw at learnt;
      began = λ k h. absurd (omega (arith, few));
      found = λ k low high. absurd (omega (arith, few));
    }

-- the machine has come so far
pub come_to :
    (start : State) (records : Records) (begins : ℕ → ℕ) (pass : Pass) → IsPassing start records begins pass
    → length (run_of start pass.at).events ≡ pass.at
come_to start records begins pass before = runs_whole start pass.at before.done

-- one instruction can be done
pub record Goes (m : State) : Type 0 where
  pub running : m.exit ≡ None
  pub whole : (run_of m 1).halt ≡ None

pub goes : (pass : Pass) (at : ℕ) → pass.at + 1 ≤ at → CanRun pass at → Goes pass.whole.state
goes pass at more can =
    let whole : (run_of (run_of can.start pass.at).after 1).halt ≡ None =
    stretch_goes_on can.start pass.at 1 can.length can.whole (omega (arith, can.within)) in
    let here : (run_of pass.whole.state 1).halt ≡ None =
    ap (λ (m : State). (run_of m 1).halt) can.passing.state ∙ whole in
    record { running = running pass.whole.state 1 (omega arith) here; whole = here }

-- so it doesn't trap
pub never_traps : (m : State) (kind : TrapKind) → Goes m → next m ≡ Stopped kind → ⊥
never_traps m kind go stopped =
    let halts : (run_of m 1).halt ≡ Some _ = ap (λ (r : Run). r.halt) (run_trapped m 0 kind go.running stopped) in
    let both = sym go.whole ∙ halts in
    cc

pub early : (pass : Pass) (at : ℕ) → pass.at ≤ at → CanRun pass at → AreEarly pass.learner.places
early pass at order can =
    let few : length (run_of can.start pass.at).events ≤ 2 ^ 37 =
    omega (arith, come_to can.start can.records can.begins pass can.passing, can.within, can.short) in
    rw can.passing.learnt (early_after can.records.places (run_of can.start pass.at).events few)

-- what one instruction does to a pass
pub record Steps (old new : Pass) (e : Event) : Type 0 where
  pub running : old.whole.state.exit ≡ None
  pub went : next old.whole.state ≡ Went e new.whole.state
  pub at : new.at ≡ old.at + 1
  pub learnt :
      (records : Records) (events : List Event) → old.learner ≡ learnt_of records events
      → new.learner ≡ learnt_of records (events ++ e ∷ [])
  pub noted : IsNoted old.windows new.windows ((e.pc, e.fetched) ∷ data_word e.access)

pub passing_more :
    (start : State) (records : Records) (begins : ℕ → ℕ) (old new : Pass) (e : Event) → Steps old new e
    → IsPassing start records begins old → IsPassing start records begins new
passing_more start records begins old new e step before =
    let one : run_of start (old.at + 1) ≡ joined (run_of start old.at) (record { events = e ∷ []; after = new.whole.state; halt = None }) =
    one_more start old.whole.state new.whole.state old.at e before.state step.running step.went in
    let run : run_of start new.at ≡ joined (run_of start old.at) (record { events = e ∷ []; after = new.whole.state; halt = None }) =
    ap (run_of start) step.at ∙ one in
    let events : (run_of start new.at).events ≡ (run_of start old.at).events ++ e ∷ [] = ap (λ (r : Run). r.events) run in
    let come : length (run_of start old.at).events ≡ old.at = come_to start records begins old before in
    record {
      done = ap (λ (r : Run). r.halt) run ∙ ap (λ (halt : Option Halt). option_or halt None) before.done;
      state = sym (ap (λ (r : Run). r.after) run);
      learnt = step.learnt records (run_of start old.at).events before.learnt
          ∙ ap (learnt_of records) (sym events);
      began = λ k h. omega (arith, before.began k (omega (arith, step.noted.count)), step.at);
      found = λ k low high.
          let inside : k < length old.windows.windows = omega (arith, step.noted.count) in
          let open_yet : old.windows.ended ≤ k = omega (arith, step.noted.ended) in
          window_more (run_of start old.at).events e (begins k) (window_at old.windows k) (window_at new.windows k)
          (omega (arith, before.began k inside, come))
          (λ pairs is. step.noted.found k pairs open_yet inside is)
          (before.found k open_yet inside)
          ∙ ap (λ (l : List Event). first_values (drop (begins k) l)) (sym events);
    }

-- so it can go on as far as before
pub can_still :
    (old new : Pass) (at : ℕ)
    → ((start : State) (records : Records) (begins : ℕ → ℕ) → IsPassing start records begins old → IsPassing start records begins new)
    → CanRun old at → CanRun new at
can_still old new at passing can = record {
  start = can.start;
  records = can.records;
  begins = can.begins;
  passing = passing can.start can.records can.begins can.passing;
  length = can.length;
  whole = can.whole;
  within = can.within;
  short = can.short;
}

pub can_less : (pass : Pass) (at less : ℕ) → less ≤ at → CanRun pass at → CanRun pass less
can_less pass at less order can = record {
  start = can.start;
  records = can.records;
  begins = can.begins;
  passing = can.passing;
  length = can.length;
  whole = can.whole;
  within = omega (arith, can.within);
  short = can.short;
}
