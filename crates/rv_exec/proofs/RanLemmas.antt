-- Runs by the lists of their events: what each instruction found, and the same run over other words.
use Rattle.std.proofs.Common.{◌≡◌, ◌≢◌, ℕ, zero, suc, ◌+◌, ◌%◌, List, [], ◌∷◌, ◌++◌, length, refl, sym, ◌∙◌, ap, inl, inr, Option, Some, None, IsSome, true, false, add-one, eq-eqb}
use Rattle.std.specs.Prelude.{◌==◌, if◌then◌else◌, slice_get, IfSome}
use Rattle.std.specs.FinMap.{find}
use Rattle.std.specs.Option.{option_map}
use Rattle.std.specs.Ordering.{nat_cmp}
use Rattle.std.proofs.lemmas.Bool.{ne_eqb, cases_eq}
use Rattle.rv_exec.specs.declared.event.DataRef.{DataRef}
use Rattle.rv_exec.specs.declared.event.Event.{Event}
use Rattle.rv_exec.specs.Event.{IsWellFormed}
use Rattle.rv_exec.specs.Laws.{EventsAreSteps, FirstFoundIsTheStart, HoldTheSame, RunsAgain}
use Rattle.rv_exec.specs.Machine.{State, Outcome, Went, Stopped}
use Rattle.rv_exec.specs.Memory.{Words, word_at}
use Rattle.rv_exec.specs.Next.{next}
use Rattle.rv_exec.specs.References.{place_of, data_word, words_found, first_found}
use Rattle.rv_exec.specs.Runs.{Run, with_first, steps, run_of, state_after, step_at}
use Rattle.rv_exec.specs.Steps.{HoldsData, applied, over, Stepped}
use Rattle.rv_exec.proofs.MemoryLemmas.{find_first, word_at-stored}
use Rattle.rv_exec.proofs.RunsLemmas.{steps_went, runs_whole, state_at_start}
use Rattle.rv_exec.proofs.StepsLemmas.{stepped, well_formed}

-- the step is done and leads to the state
pub record Did (s : State) (e : Event) (mid : State) : Type 0 where
  pub running : s.exit ≡ None
  pub went : next s ≡ Went e mid

-- instructions that were done one after the other told these events and led from s to t
abbrev pub Ran : State → List Event → State → Type 0
Ran s [] t = t ≡ s
Ran s (e ∷ es) t = (mid : State) × Did s e mid × Ran mid es t

ran_by :
    (s : State) (n : ℕ) (exit : Option ℕ) (outcome : Outcome) → s.exit ≡ exit → next s ≡ outcome
    → ((t : State) → Ran t (run_of t n).events (run_of t n).after)
    → Ran s (steps exit outcome s (λ t. run_of t n)).events
    (steps exit outcome s (λ t. run_of t n)).after
ran_by s n (Some code) outcome exit is rest = refl
ran_by s n None (Stopped kind) exit is rest = refl
ran_by s n None (Went e after) exit is rest =
    (after, record { running = exit; went = is }, rest after)

pub ran_of : (s : State) (n : ℕ) → Ran s (run_of s n).events (run_of s n).after
unfolding run_of
ran_of s zero = refl
ran_of s (suc n) = ran_by s n s.exit (next s) refl refl (λ t. ran_of t n)

pub run_ran :
    (s t : State) (es : List Event) → Ran s es t
    → run_of s (length es) ≡ record { events = es; after = t; halt = None }
unfolding run_of
run_ran s t [] ran = rw ran refl
run_ran s t (e ∷ es) (mid, did, rest) =
    steps_went s.exit (next s) s (λ x. run_of x (length es)) e mid did.running did.went
    ∙ ap (with_first e) (run_ran mid t es rest)

-- ---- each event is that of its number

-- the states behind the first instruction
behind_first :
    (s mid : State) (e : Event) (k : ℕ) → Did s e mid → state_after s (suc k) ≡ state_after mid k
unfolding run_of
behind_first s mid e k did =
    ap (λ (r : Run). r.after)
    (steps_went s.exit (next s) s (λ t. run_of t k) e mid did.running did.went)

event_went :
    (s t : State) (es : List Event) (k : ℕ) (e : Event) → Ran s es t → slice_get es k ≡ Some e
    → step_at s k ≡ Went e (state_after s (suc k))
event_went s t [] k e ran is = absurd (cc)
event_went s t (x ∷ es) zero e (mid, did, rest) is =
    let same : x ≡ e = cc in
    rw (behind_first s mid x 0 did, state_at_start mid, state_at_start s, ← same) did.went
event_went s t (x ∷ es) (suc k) e (mid, did, rest) is =
    rw (behind_first s mid x (suc k) did, behind_first s mid x k did) (event_went mid t es k e rest is)

event_formed :
    (s t : State) (es : List Event) (k : ℕ) (e : Event) → Ran s es t → slice_get es k ≡ Some e
    → s.pc % 4 ≡ 0 → IsWellFormed e
event_formed s t [] k e ran is at = absurd (cc)
event_formed s t (x ∷ es) zero e (mid, did, rest) is at =
    let same : x ≡ e = cc in
    rw (← same) (well_formed s x mid did.went at)
event_formed s t (x ∷ es) (suc k) e (mid, did, rest) is at =
    let formed : IsWellFormed x = well_formed s x mid did.went at in
    event_formed mid t es k e rest is (rw (stepped s x mid did.went).moves formed.next)

pub events_are_steps : EventsAreSteps
events_are_steps m n k e is =
    let ran : Ran m (run_of m n).events (state_after m n) = ran_of m n in
    let went : step_at m k ≡ Went e (state_after m (k + 1)) =
    rw add-one (event_went m (state_after m n) (run_of m n).events k e ran is) in
    record {
      went = went;
      stepped = stepped (state_after m k) e (state_after m (k + 1)) went;
      well_formed = event_formed m (state_after m n) (run_of m n).events k e ran is;
    }

-- ---- what is found first

found_here :
    (q : ℕ) (entry : ℕ × ℕ) (es : List (ℕ × ℕ)) (v : ℕ) → q ≡ entry.0
    → find nat_cmp q (entry ∷ es) ≡ Some v → entry.1 ≡ v
found_here q entry es v same is =
    let here : (q == entry.0) ≡ true = eq-eqb q entry.0 same in
    let value : Some entry.1 ≡ Some v = rw here at (sym (find_first q entry es) ∙ is) in
    cc

found_later :
    (q : ℕ) (entry : ℕ × ℕ) (es : List (ℕ × ℕ)) → q ≢ entry.0
    → find nat_cmp q (entry ∷ es) ≡ find nat_cmp q es
found_later q entry es other =
    let there : (q == entry.0) ≡ false = ne_eqb q entry.0 other in
    find_first q entry es ∙ rw there refl

-- a write leaves every other word
not_written :
    (write : Option (ℕ × ℕ)) (words : Words) (place q : ℕ)
    → IfSome write (λ w. Some place ≡ Some w.0) → q ≢ place
    → word_at (applied write words) q ≡ word_at words q
not_written None words place q at other = refl
not_written (Some w) words place q at other =
    let same : place ≡ w.0 = cc in
    let elsewhere : (q == w.0) ≡ false = ne_eqb q w.0 (λ e. other (e ∙ sym same)) in
    word_at-stored words w.0 w.1 q ∙ rw elsewhere refl

-- behind the fetch of an instruction: its reference to data, and the instructions behind it
found_behind :
    (s mid : State) (rest : List (ℕ × ℕ)) (q v : ℕ) (access : Option DataRef) (write : Option (ℕ × ℕ))
    → HoldsData s.words access → IfSome write (λ w. option_map place_of access ≡ Some w.0)
    → mid.words ≡ applied write s.words → find nat_cmp q (data_word access ++ rest) ≡ Some v
    → (find nat_cmp q rest ≡ Some v → word_at mid.words q ≡ Some v) → word_at s.words q ≡ Some v
found_behind s mid rest q v None None held place words is later =
    ap (λ (w : Words). word_at w q) (sym words) ∙ later is
found_behind s mid rest q v None (Some w) held place words is later = absurd (cc)
found_behind s mid rest q v (Some d) write held place words is later =
    elim (cases_eq q (place_of d)) [
      | inl same ↦
          let value : d.before ≡ v = found_here q (place_of d, d.before) rest v same is in
          rw same (held ∙ ap Some value)
      | inr other ↦
          sym (not_written write s.words (place_of d) q place other)
          ∙ ap (λ (w : Words). word_at w q) (sym words)
          ∙ later (sym (found_later q (place_of d, d.before) rest other) ∙ is)
    ]

first_is :
    (s t : State) (es : List Event) (q v : ℕ) → Ran s es t → first_found es q ≡ Some v
    → word_at s.words q ≡ Some v
unfolding words_found
first_is s t [] q v ran is = absurd (cc)
first_is s t (e ∷ es) q v (mid, did, rest) is =
    let st : Stepped s e mid = stepped s e mid did.went in
    let behind : List (ℕ × ℕ) = data_word e.access ++ words_found es in
    elim (cases_eq q e.pc) [
      | inl same ↦
          let value : e.fetched ≡ v = found_here q (e.pc, e.fetched) behind v same is in
          rw same (st.fetch ∙ ap Some value)
      | inr other ↦
          found_behind s mid (words_found es) q v e.access st.write st.held st.place st.words
          (sym (found_later q (e.pc, e.fetched) behind other) ∙ is)
          (λ h. first_is mid t es q v rest h)
    ]

pub first_found_is_start : FirstFoundIsTheStart
first_found_is_start m n q v is = first_is m (state_after m n) (run_of m n).events q v (ran_of m n) is

-- ---- the same run over other words

some_is : (o : Option ℕ) (v : ℕ) → o ≡ Some v → IsSome o
some_is o v is = rw is refl

touches_one :
    (q : ℕ) (entry : ℕ × ℕ) (es : List (ℕ × ℕ)) → q ≡ entry.0 → IsSome (find nat_cmp q (entry ∷ es))
touches_one q entry es same =
    let here : (q == entry.0) ≡ true = eq-eqb q entry.0 same in
    some_is _ entry.1 (find_first q entry es ∙ rw here refl)

touches_more :
    (q : ℕ) (entry : ℕ × ℕ) (es : List (ℕ × ℕ)) → IsSome (find nat_cmp q es)
    → IsSome (find nat_cmp q (entry ∷ es))
touches_more q entry es touched = elim (cases_eq q entry.0) [
  | inl same ↦ touches_one q entry es same
  | inr other ↦ rw (found_later q entry es other) touched
]

touches_behind :
    (q : ℕ) (access : Option DataRef) (es : List (ℕ × ℕ)) → IsSome (find nat_cmp q es)
    → IsSome (find nat_cmp q (data_word access ++ es))
touches_behind q None es touched = touched
touches_behind q (Some d) es touched = touches_more q (place_of d, d.before) es touched

touches_data :
    (d : DataRef) (access : Option DataRef) (es : List (ℕ × ℕ)) → access ≡ Some d
    → IsSome (find nat_cmp (place_of d) (data_word access ++ es))
touches_data d access es is = rw is (touches_one (place_of d) (place_of d, d.before) es refl)

data_same :
    (access : Option DataRef) (one other : Words)
    → ((d : DataRef) → access ≡ Some d → word_at one (place_of d) ≡ word_at other (place_of d))
    → HoldsData other access → HoldsData one access
data_same None one other same held = tt
data_same (Some d) one other same held = same d refl ∙ held

both_written :
    (write : Option (ℕ × ℕ)) (one other : Words) (q : ℕ) → word_at one q ≡ word_at other q
    → word_at (applied write one) q ≡ word_at (applied write other) q
both_written None one other q same = same
both_written (Some w) one other q same =
    word_at-stored one w.0 w.1 q
    ∙ ap (λ (o : Option ℕ). if q == w.0 then Some w.1 else o) same
    ∙ sym (word_at-stored other w.0 w.1 q)

record Again (s : State) (es : List Event) (t : State) (words : Words) : Type 0 where
  pub after : Words
  pub ran : Ran (over s words) es (over t after)
  pub same :
      (q : ℕ) → word_at words q ≡ word_at s.words q → word_at after q ≡ word_at t.words q

ran_again :
    (s t : State) (es : List Event) (words : Words) → Ran s es t → HoldTheSame words s.words es
    → Again s es t words
unfolding words_found
ran_again s t [] words ran same = record {
  after = words;
  ran = ap (λ (x : State). over x words) ran;
  same = λ q h. h ∙ ap (λ (x : State). word_at x.words q) (sym ran);
}
ran_again s t (e ∷ es) words (mid, did, rest) same =
    let st : Stepped s e mid = stepped s e mid did.went in
    let behind : List (ℕ × ℕ) = data_word e.access ++ words_found es in
    let fetch : word_at words e.pc ≡ Some e.fetched =
    same e.pc (touches_one e.pc (e.pc, e.fetched) behind refl) ∙ st.fetch in
    let held : HoldsData words e.access =
    data_same e.access words s.words
    (λ d is. same (place_of d)
    (touches_more (place_of d) (e.pc, e.fetched) behind (touches_data d e.access (words_found es) is)))
    st.held in
    let written : Words = applied st.write words in
    let both : (q : ℕ) → word_at words q ≡ word_at s.words q → word_at written q ≡ word_at mid.words q =
    λ q h. both_written st.write words s.words q h ∙ ap (λ (w : Words). word_at w q) (sym st.words) in
    let again : Again mid es t written =
    ran_again mid t es written rest
    (λ q touched. both q (same q
    (touches_more q (e.pc, e.fetched) behind (touches_behind q e.access (words_found es) touched)))) in
    record {
      after = again.after;
      ran = (
        over mid written,
        record { running = did.running; went = st.again words fetch held },
        again.ran,
      );
      same = λ q h. again.same q (both q h);
    }

pub runs_again : RunsAgain
runs_again m n words whole same =
    let again : Again m (run_of m n).events (state_after m n) words =
    ran_again m (state_after m n) (run_of m n).events words (ran_of m n) same in
    record {
      after = again.after;
      run =
          ap (run_of (over m words)) (sym (runs_whole m n whole))
          ∙ run_ran (over m words) (over (state_after m n) again.after) (run_of m n).events again.ran;
      same = again.same;
    }
