-- Every run of the machine keeps the invariant, and what follows.
use Rattle.std.proofs.Common.{◌≡◌, ◌≢◌, ◌⊎◌, ◌+◌, ◌-◌, ◌%◌, ◌<◌, ◌≤◌, ◌==◌, ℕ, Bool, true, false, not, ◌&&◌, nat_lt, if◌then◌else◌, Option, Some, None, is_none, is_some, List, [], ◌∷◌, length, replicate, set, fold, inl, inr, refl, arith, sym, ap, subst, ◌∙◌}
use Rattle.std.proofs.lemmas.Bool.{and_parts, cases_lt, ltb-true, eqb-true, eqb-false}
use Rattle.std.proofs.lemmas.List.{get_or-replicate, get_or_past, length-replicate}
use Rattle.confidence.specs.declared.answer.Answer.{Answer}
use Rattle.ordered_fold.specs.declared.front.Front.{Front}
use Rattle.ordered_fold.specs.declared.seat.Seat.{Seat}
use Rattle.ordered_fold.specs.declared.event.Act.{Act}
use Rattle.ordered_fold.specs.declared.event.Act.TheVariants.{Claim, Report, Glance, Try, Announce, Release, Look, Split, Join}
use Rattle.ordered_fold.specs.declared.event.CoreEvent.{CoreEvent}
use Rattle.ordered_fold.specs.Front.{is_going}
use Rattle.ordered_fold.specs.Batch.{fold_from, folded_number, count_before_end, IsBatch}
use Rattle.ordered_fold.specs.Machine.{Core, unmade, seat_at, cell_at, core_start, is_idle, can_claim, can_report, reported, can_glance, can_announce, can_look, can_split, can_join, acted, core_step, core_after}
use Rattle.ordered_fold.specs.Invariant.{HasHand, IsSeat, IsCore}
use Rattle.ordered_fold.specs.MachineLaws.{KeepsInvariant, NoNumberTwice, FoldsInOrder, StopStays, OneFold}
use Rattle.ordered_fold.proofs.Fronts.{not_both}
use Rattle.ordered_fold.proofs.BatchLemmas.{fold_from-all}
use Rattle.ordered_fold.proofs.MachineLemmas.{idle_parts, every_seat, no_hand, not_true, not_some}
use Rattle.ordered_fold.proofs.SeatLemmas.{keeps_look, keeps_split, keeps_join}
use Rattle.ordered_fold.proofs.EventLemmas.{keeps_claim, keeps_report}
use Rattle.ordered_fold.proofs.FrontLemmas.{keeps_try, keeps_release, keeps_announce, keeps_push, ended_count, glanced_of, folds_next}

-- where the test holds one thing is kept, and else another
chosen :
    (start : Front) (answers : List Answer) (core after : Core) → IsCore start answers core → (b : Bool)
    → (b ≡ true → IsCore start answers after)
    → IsCore start answers (if b then after else core)
chosen start answers core after is true keeps = keeps refl
chosen start answers core after is false keeps = is

-- and turned around
declined :
    (start : Front) (answers : List Answer) (core after : Core) → IsCore start answers core → (b : Bool)
    → (b ≡ false → IsCore start answers after)
    → IsCore start answers (if b then core else after)
declined start answers core after is true keeps = is
declined start answers core after is false keeps = keeps refl

none_of : (o : Option ℕ) → is_none o ≡ true → o ≡ None
none_of None e = refl
none_of (Some k) e = cc

report_keeps :
    (start : Front) (answers : List Answer) (core : Core) (j : ℕ) → IsBatch start answers
    → IsCore start answers core → (seat_at core.seats j).live ≡ true
    → (seat_at core.seats j).holder ≡ false
    → (hand : Option ℕ) → (seat_at core.seats j).hand ≡ hand
    → IsCore start answers (reported answers j (seat_at core.seats j) core hand)
report_keeps start answers core j batch is live free None e = is
report_keeps start answers core j batch is live free (Some k) e =
    keeps_report start answers core j k batch is (live, e) free

acted_keeps :
    (start : Front) (answers : List Answer) (core : Core) (j : ℕ) (act : Act) → IsBatch start answers
    → IsCore start answers core → IsCore start answers (acted start answers j (seat_at core.seats j) core act)
acted_keeps start answers core j Claim batch is =
    let seat : Seat = seat_at core.seats j in
    chosen start answers core _ is (can_claim seat) (λ can.
    let all = and_parts (is_idle seat && not seat.past) (is_none seat.seen_end) can in
    let idle = and_parts (is_idle seat) (not seat.past) all.0 in
    keeps_claim start answers core j is (idle_parts seat idle.0) (not_true seat.past idle.1)
    (none_of seat.seen_end all.1))
acted_keeps start answers core j Report batch is =
    let seat : Seat = seat_at core.seats j in
    chosen start answers core _ is (can_report seat) (λ can.
    let all = and_parts (seat.live && is_some seat.hand) (not seat.holder) can in
    report_keeps start answers core j batch is (and_parts seat.live (is_some seat.hand) all.0).0
    (not_true seat.holder all.1) seat.hand refl)
acted_keeps start answers core j Glance batch is =
    let seat : Seat = seat_at core.seats j in
    let word : ℕ = cell_at core.cells (core.front.sums.n - start.sums.n) in
    chosen start answers core _ is (can_glance start (length answers) seat core) (λ can.
    let all = and_parts (seat.holder && is_going core.front.ending) (nat_lt core.front.sums.n (start.sums.n + length answers)) can in
    let both = and_parts seat.holder (is_going core.front.ending) all.0 in
    declined start answers core _ is (word == 0) (λ full.
    keeps_push start answers core j batch is both.0 both.1
    (ltb-true core.front.sums.n (start.sums.n + length answers) all.1)
    (eqb-false word 0 full)))
acted_keeps start answers core j Try batch is =
    let seat : Seat = seat_at core.seats j in
    chosen start answers core _ is (is_idle seat) (λ can.
    chosen start answers core _ is (core.lock % 2 == 0) (λ free.
    keeps_try start answers core j is (idle_parts seat can) (eqb-true (core.lock % 2) 0 free)))
acted_keeps start answers core j Announce batch is =
    let seat : Seat = seat_at core.seats j in
    chosen start answers core _ is (can_announce seat core) (λ can.
    keeps_announce start answers core is
    (not_true (is_going core.front.ending) (and_parts seat.holder (not (is_going core.front.ending)) can).1))
acted_keeps start answers core j Release batch is =
    let seat : Seat = seat_at core.seats j in
    chosen start answers core _ is seat.holder (λ holds. keeps_release start answers core j is holds)
acted_keeps start answers core j Look batch is =
    let seat : Seat = seat_at core.seats j in
    chosen start answers core _ is (can_look seat) (λ can.
    let both = and_parts seat.live (not seat.holder) can in
    declined start answers core _ is (core.stop == 0) (λ told.
    keeps_look start answers core j is both.0 (not_true seat.holder both.1)
    (eqb-false core.stop 0 told)))
acted_keeps start answers core j (Split into) batch is =
    let seat : Seat = seat_at core.seats j in
    chosen start answers core _ is (can_split into seat core) (λ can.
    let all = and_parts (is_idle seat && nat_lt into (length core.seats)) (not (seat_at core.seats into).made) can in
    let both = and_parts (is_idle seat) (nat_lt into (length core.seats)) all.0 in
    keeps_split start answers core j into is (idle_parts seat both.0)
    (ltb-true into (length core.seats) both.1) (not_true (seat_at core.seats into).made all.1))
acted_keeps start answers core j (Join from) batch is =
    let seat : Seat = seat_at core.seats j in
    let other : Seat = seat_at core.seats from in
    chosen start answers core _ is (can_join j from seat core) (λ can.
    let all = and_parts (not (j == from) && is_idle seat) (is_idle other) can in
    let both = and_parts (not (j == from)) (is_idle seat) all.0 in
    keeps_join start answers core j from is (idle_parts seat both.1) (idle_parts other all.1)
    (eqb-false j from (not_true (j == from) both.0)))

pub step_keeps :
    (start : Front) (answers : List Answer) (core : Core) (event : CoreEvent) → IsBatch start answers
    → IsCore start answers core → IsCore start answers (core_step start answers core event)
unfolding core_step
step_keeps start answers core event batch is = acted_keeps start answers core event.seat event.act batch is

-- before any event
pub blank : (n i : ℕ) → seat_at (replicate n unmade) i ≡ unmade
blank n i = by_order (cases_lt i n)
  where
    by_order : (i < n) ⊎ (n ≤ i) → seat_at (replicate n unmade) i ≡ unmade
    by_order (inl within) = get_or-replicate n i unmade unmade within
    by_order (inr past) = get_or_past (replicate n unmade) i unmade (omega (arith, length-replicate n unmade, past))

zeros : (n i : ℕ) → cell_at (replicate n 0) i ≡ 0
zeros n i = by_order (cases_lt i n)
  where
    by_order : (i < n) ⊎ (n ≤ i) → cell_at (replicate n 0) i ≡ 0
    by_order (inl within) = get_or-replicate n i 0 0 within
    by_order (inr past) =
        let none : ℕ = 0 in
        let long : length (replicate n none) ≡ n = length-replicate n none in
        get_or_past (replicate n none) i none (omega (arith, long, past))

-- the seat that is made at the start
abbrev first : Seat
first = record unmade { made = true; live = true }

-- what holds of it and of one that was never made
each_at_start :
    (P : Seat → Type 0) (n : ℕ) → 0 < n → P first → P unmade → (i : ℕ)
    → P (seat_at (set (replicate n unmade) 0 first) i)
each_at_start P n some here never =
    every_seat (λ i s. P s) (replicate n unmade) 0 first (omega (arith, length-replicate n unmade, some))
    here (λ i differ. subst P (sym (blank n i)) never)

no_hand_yet :
    (n k : ℕ) → 0 < n → (i : ℕ) → HasHand k (seat_at (set (replicate n unmade) 0 first) i) → ⊥
no_hand_yet n k some =
    each_at_start (λ s. HasHand k s → ⊥) n some
    (λ has. no_hand first refl has) (λ has. no_hand unmade refl has)

no_holder_yet :
    (n : ℕ) → 0 < n → (i : ℕ) → (seat_at (set (replicate n unmade) 0 first) i).holder ≡ true → ⊥
no_holder_yet n some =
    each_at_start (λ s. s.holder ≡ true → ⊥) n some
    (λ h. not_both false h refl) (λ h. not_both false h refl)

seat_yet :
    (n size : ℕ) → 0 < n → (i : ℕ)
    → IsSeat size 0 0 0 (seat_at (set (replicate n unmade) 0 first) i)
seat_yet n size some =
    each_at_start (λ s. IsSeat size 0 0 0 s) n some
    (record {
      made = λ l. refl;
      dead = λ d. refl;
      last = λ n has. absurd (not_some refl has.1);
      hand = λ k has. absurd (no_hand first refl has);
      holder = λ h. absurd (not_both false h refl);
      past = λ l p. absurd (not_both false p refl);
      seen = λ l n s. absurd (not_some refl s);
    })
    (record {
      made = λ l. absurd (not_both false l refl);
      dead = λ d. refl;
      last = λ n has. absurd (not_some refl has.1);
      hand = λ k has. absurd (no_hand unmade refl has);
      holder = λ h. absurd (not_both false h refl);
      past = λ l p. absurd (not_both false l refl);
      seen = λ l n s. absurd (not_some refl s);
    })

pub start_is_core :
    (start : Front) (answers : List Answer) (seats : ℕ) → IsBatch start answers → 0 < seats
    → IsCore start answers (core_start start (length answers) seats)
unfolding core_start fold_from
start_is_core start answers seats batch some =
    let none : ℕ = 0 in
    let nothing : folded_number start start ≡ 0 = rw batch.going (omega arith) in
    record {
      wide = length-replicate (length answers) none;
      code = λ k full. absurd (full (zeros (length answers) k));
      drawn = λ k below. absurd (omega (arith, below));
      empty = λ j k has. zeros (length answers) k;
      one_hand = λ i j k has other. absurd (no_hand_yet seats k some i has);
      latest = λ n top. absurd (omega (arith, top));
      each = λ j. seat_yet seats (length answers) some j;
      held = λ odd. absurd (omega (arith, odd));
      one_holder = λ i j holds other. absurd (no_holder_yet seats some i holds);
      front = rw nothing refl;
      full = λ k below. absurd (omega (arith, below, nothing));
      even = λ e. omega (arith, nothing);
      odd = λ odd. absurd (omega (arith, odd));
      stop = inl refl;
      bound = omega arith;
    }

pub steps_keep :
    (start : Front) (answers : List Answer) (core : Core) (events : List CoreEvent)
    → IsBatch start answers → IsCore start answers core
    → IsCore start answers (fold (core_step start answers) core events)
steps_keep start answers core [] batch is = is
steps_keep start answers core (event ∷ events) batch is =
    steps_keep start answers (core_step start answers core event) events batch
    (step_keeps start answers core event batch is)

pub keeps_invariant : KeepsInvariant
unfolding core_after
keeps_invariant start answers core batch (seats, events, some, e) =
    subst (IsCore start answers) (sym e)
    (steps_keep start answers (core_start start (length answers) seats) events batch
    (start_is_core start answers seats batch some))

pub no_number_twice : NoNumberTwice
no_number_twice start answers core batch reached i j k =
    (keeps_invariant start answers core batch reached).one_hand i j k

pub one_fold : OneFold
one_fold start answers core batch reached = by
  where
    is : IsCore start answers core
    is = keeps_invariant start answers core batch reached

    by :
        (is_going core.front.ending ≡ false) ⊎ (length answers ≤ folded_number start core.front)
        → core.front ≡ fold_from start answers (length answers)
    by (inl ended) = ended_count start answers core is ended
    by (inr all) = is.front ∙ fold_from-all start answers (folded_number start core.front) all

-- an event other than Announce leaves the stop word, and Announce stores what is there
stop_kept : (b : Bool) (core after : Core) → after.stop ≡ core.stop → (if b then after else core).stop ≡ core.stop
stop_kept true core after e = e
stop_kept false core after e = refl

stop_left : (b : Bool) (core after : Core) → after.stop ≡ core.stop → (if b then core else after).stop ≡ core.stop
stop_left true core after e = refl
stop_left false core after e = e

reported_stop :
    (answers : List Answer) (j : ℕ) (seat : Seat) (core : Core) (hand : Option ℕ)
    → (reported answers j seat core hand).stop ≡ core.stop
reported_stop answers j seat core None = refl
reported_stop answers j seat core (Some k) = refl

pub told_stop :
    (start : Front) (answers : List Answer) (core : Core) → IsCore start answers core → core.stop ≢ 0
    → (core.stop ≡ count_before_end start answers + 1) × (is_going core.front.ending ≡ false)
told_stop start answers core is some = by is.stop
  where
    by :
        (core.stop ≡ 0) ⊎ ((core.stop ≡ count_before_end start answers + 1) × (is_going core.front.ending ≡ false))
        → (core.stop ≡ count_before_end start answers + 1) × (is_going core.front.ending ≡ false)
    by (inl none) = absurd (some none)
    by (inr told) = told

acted_stop :
    (start : Front) (answers : List Answer) (core : Core) (j : ℕ) (seat : Seat) (act : Act)
    → IsCore start answers core → core.stop ≢ 0
    → (acted start answers j seat core act).stop ≡ core.stop
acted_stop start answers core j seat Claim is some = stop_kept (can_claim seat) core _ refl
acted_stop start answers core j seat Report is some =
    stop_kept (can_report seat) core _ (reported_stop answers j seat core seat.hand)
acted_stop start answers core j seat Glance is some =
    stop_kept (can_glance start (length answers) seat core) core _
    (stop_left (cell_at core.cells (core.front.sums.n - start.sums.n) == 0) core _ refl)
acted_stop start answers core j seat Try is some =
    stop_kept (is_idle seat) core _ (stop_kept (core.lock % 2 == 0) core _ refl)
acted_stop start answers core j seat Announce is some =
    let told = told_stop start answers core is some in
    stop_kept (can_announce seat core) core _
    (ap (λ f. f.sums.n + 1) (ended_count start answers core is told.1) ∙ sym told.0)
acted_stop start answers core j seat Release is some = stop_kept seat.holder core _ refl
acted_stop start answers core j seat Look is some =
    stop_kept (can_look seat) core _ (stop_left (core.stop == 0) core _ refl)
acted_stop start answers core j seat (Split into) is some = stop_kept (can_split into seat core) core _ refl
acted_stop start answers core j seat (Join from) is some = stop_kept (can_join j from seat core) core _ refl

step_stop :
    (start : Front) (answers : List Answer) (core : Core) (event : CoreEvent)
    → IsCore start answers core → core.stop ≢ 0
    → (core_step start answers core event).stop ≡ core.stop
unfolding core_step
step_stop start answers core event is some =
    acted_stop start answers core event.seat (seat_at core.seats event.seat) event.act is some

steps_stop :
    (start : Front) (answers : List Answer) (core : Core) (events : List CoreEvent)
    → IsBatch start answers → IsCore start answers core → core.stop ≢ 0
    → (fold (core_step start answers) core events).stop ≡ core.stop
steps_stop start answers core [] batch is some = refl
steps_stop start answers core (event ∷ events) batch is some =
    let after : Core = core_step start answers core event in
    let same : after.stop ≡ core.stop = step_stop start answers core event is some in
    steps_stop start answers after events batch (step_keeps start answers core event batch is)
    (λ none. some (sym same ∙ none)) ∙ same

pub stop_stays : StopStays
stop_stays start answers core events batch reached some =
    let is = keeps_invariant start answers core batch reached in
    ((told_stop start answers core is some).0, steps_stop start answers core events batch is some)

-- what an event leaves of the front
front_kept :
    (b : Bool) (core after : Core) → after.front ≡ core.front
    → (if b then after else core).front ≡ core.front
front_kept true core after e = e
front_kept false core after e = refl

front_left :
    (b : Bool) (core after : Core) → after.front ≡ core.front
    → (if b then core else after).front ≡ core.front
front_left true core after e = refl
front_left false core after e = e

reported_front :
    (answers : List Answer) (j : ℕ) (seat : Seat) (core : Core) (hand : Option ℕ)
    → (reported answers j seat core hand).front ≡ core.front
reported_front answers j seat core None = refl
reported_front answers j seat core (Some k) = refl

abbrev FoldsOne : Front → List Answer → Core → Front → Type 0
FoldsOne start answers core new =
    (new ≡ core.front)
    ⊎ ((new ≡ fold_from start answers (folded_number start core.front + 1))
    × (folded_number start core.front < length answers)
    × (cell_at core.cells (folded_number start core.front) ≢ 0))

glance_folds :
    (start : Front) (answers : List Answer) (core : Core) (seat : Seat) → IsBatch start answers
    → IsCore start answers core → (b c : Bool) → can_glance start (length answers) seat core ≡ b
    → (cell_at core.cells (core.front.sums.n - start.sums.n) == 0) ≡ c
    → FoldsOne start answers core (if b then (if c then core else record core { front = glanced_of start core }) else core).front
glance_folds start answers core seat batch is false c e f = inl refl
glance_folds start answers core seat batch is true true e f = inl refl
glance_folds start answers core seat batch is true false e f =
    let all = and_parts (seat.holder && is_going core.front.ending) (nat_lt core.front.sums.n (start.sums.n + length answers)) e in
    let both = and_parts seat.holder (is_going core.front.ending) all.0 in
    let folds = folds_next start answers core batch is both.1
    (ltb-true core.front.sums.n (start.sums.n + length answers) all.1)
    (eqb-false (cell_at core.cells (core.front.sums.n - start.sums.n)) 0 f) in
    inr (folds.next, folds.below, folds.full)

acted_folds :
    (start : Front) (answers : List Answer) (core : Core) (j : ℕ) (seat : Seat) (act : Act)
    → IsBatch start answers → IsCore start answers core
    → FoldsOne start answers core (acted start answers j seat core act).front
acted_folds start answers core j seat Claim batch is = inl (front_kept (can_claim seat) core _ refl)
acted_folds start answers core j seat Report batch is =
    inl (front_kept (can_report seat) core _ (reported_front answers j seat core seat.hand))
acted_folds start answers core j seat Glance batch is =
    glance_folds start answers core seat batch is (can_glance start (length answers) seat core)
    (cell_at core.cells (core.front.sums.n - start.sums.n) == 0) refl refl
acted_folds start answers core j seat Try batch is =
    inl (front_kept (is_idle seat) core _ (front_kept (core.lock % 2 == 0) core _ refl))
acted_folds start answers core j seat Announce batch is = inl (front_kept (can_announce seat core) core _ refl)
acted_folds start answers core j seat Release batch is = inl (front_kept seat.holder core _ refl)
acted_folds start answers core j seat Look batch is =
    inl (front_kept (can_look seat) core _ (front_left (core.stop == 0) core _ refl))
acted_folds start answers core j seat (Split into) batch is = inl (front_kept (can_split into seat core) core _ refl)
acted_folds start answers core j seat (Join from) batch is = inl (front_kept (can_join j from seat core) core _ refl)

pub folds_in_order : FoldsInOrder
unfolding core_step
folds_in_order start answers core event batch reached =
    let is = keeps_invariant start answers core batch reached in
    (is.front, acted_folds start answers core event.seat (seat_at core.seats event.seat) event.act batch is)
