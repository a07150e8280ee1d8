-- Events that change words, cells or the front keep the invariant.
use Rattle.std.proofs.Common.{◌≡◌, ◌≢◌, ◌⊎◌, ◌+◌, ◌<◌, ◌≤◌, ℕ, true, false, Some, None, List, length, get_or, set, inl, inr, refl, arith, sym, ap, subst, ◌∙◌, length-set}
use Rattle.std.proofs.Math.Arith.{lt_of_le-ne}
use Rattle.std.specs.List.{slice_get}
use Rattle.std.proofs.lemmas.Bool.{cases_eq, cases_lt, lt-ltb, le-ltb}
use Rattle.std.proofs.lemmas.List.{get_or-set_same, get_or-set_other}
use Rattle.std.proofs.lemmas.Option.{slice_get-get_or}
use Rattle.confidence.specs.declared.answer.Answer.{Answer}
use Rattle.confidence.specs.declared.answer.Answer.TheVariants.{Cycles}
use Rattle.ordered_fold.specs.declared.front.Front.{Front}
use Rattle.ordered_fold.specs.declared.seat.Seat.{Seat}
use Rattle.ordered_fold.specs.Batch.{IsBatch}
use Rattle.ordered_fold.specs.Machine.{Core, seat_at, cell_at, code_or_zero, after_claim, after_report}
use Rattle.ordered_fold.specs.Invariant.{HasHand, HasLast, IsSeat, IsCore, is_done}
use Rattle.ordered_fold.proofs.Fronts.{not_both}
use Rattle.ordered_fold.proofs.CellLemmas.{code-some}
use Rattle.ordered_fold.proofs.MachineLemmas.{IsIdle, live_within, every_seat, some_seat, this_seat, had_before, was_before, still_one, only_one, no_hand, done_rises, done_rises_by_one, some_is, not_some}

-- a seat of whom this holds, beside a greater claim
later_claim :
    (size claim lock stop : ℕ) (seat : Seat) → IsSeat size claim lock stop seat
    → IsSeat size (claim + 1) lock stop seat
later_claim size claim lock stop seat is = record {
  made = is.made;
  dead = is.dead;
  last = λ n has. omega (arith, is.last n has);
  hand = is.hand;
  holder = is.holder;
  past = λ l p. omega (arith, is.past l p);
  seen = is.seen;
}

-- nobody has the next number yet
none_yet :
    (start : Front) (answers : List Answer) (core : Core) → IsCore start answers core
    → (i : ℕ) → HasHand core.claim (seat_at core.seats i) → ⊥
none_yet start answers core is i has =
    let last = ((is.each i).hand core.claim has).1 in
    omega (arith, (is.each i).last core.claim (has.0, last))

draws :
    (start : Front) (answers : List Answer) (core : Core) (j : ℕ) → IsCore start answers core
    → IsIdle (seat_at core.seats j) → (seat_at core.seats j).past ≡ false
    → (seat_at core.seats j).seen_end ≡ None → core.claim < length answers
    → IsCore start answers (record core { claim = core.claim + 1; seats = set core.seats j (record (seat_at core.seats j) { hand = Some core.claim; last = Some core.claim }) })
draws start answers core j is idle fresh unseen fits = record {
  wide = is.wide;
  code = λ k full. (omega (arith, (is.code k full).0), (is.code k full).1);
  drawn = λ k below within none. drawn k within none (cases_eq k core.claim) below;
  empty = λ i k has. empty k (had_before (λ s. HasHand k s) core.seats j new here i has);
  one_hand = λ i l k. one_hand k (cases_eq k core.claim) i l;
  latest = λ n top. this_seat (λ s. HasLast n s) core.seats j new here
      (idle.live, ap (λ m. Some m) (omega (arith, top)));
  each = every_seat (λ i s. IsSeat (length answers) (core.claim + 1) core.lock core.stop s)
      core.seats j new here seat (λ i differ. later_claim _ _ _ _ _ (is.each i));
  held = λ odd. some_seat (λ s. s.holder ≡ true) core.seats j new here (λ h. h) (is.held odd);
  one_holder = still_one (λ s. s.holder ≡ true) core.seats j new here (λ h. h) is.one_holder;
  front = is.front;
  full = is.full;
  even = is.even;
  odd = is.odd;
  stop = is.stop;
  bound = omega (arith, fits);
}
  where
    old : Seat
    old = seat_at core.seats j

    new : Seat
    new = record old { hand = Some core.claim; last = Some core.claim }

    here : j < length core.seats
    here = live_within core.seats j idle.live

    drawn :
        (k : ℕ) → k < length answers → cell_at core.cells k ≡ 0 → (k ≡ core.claim) ⊎ (k ≢ core.claim)
        → k < core.claim + 1 → (i : ℕ) × HasHand k (seat_at (set core.seats j new) i)
    drawn k within none (inl e) below =
        this_seat (λ s. HasHand k s) core.seats j new here (idle.live, ap (λ m. Some m) (sym e))
    drawn k within none (inr differ) below =
        some_seat (λ s. HasHand k s) core.seats j new here (λ h. absurd (no_hand old idle.hand h))
        (is.drawn k (lt_of_le-ne (omega arith) differ) within none)

    -- the cell of a number that wasn't drawn is empty
    undrawn : (k : ℕ) → core.claim ≤ k → cell_at core.cells k ≡ 0
    undrawn k past = by (cases_eq (cell_at core.cells k) 0)
      where
        by : (cell_at core.cells k ≡ 0) ⊎ (cell_at core.cells k ≢ 0) → cell_at core.cells k ≡ 0
        by (inl none) = none
        by (inr full) = absurd (omega (arith, (is.code k full).0, past))

    empty :
        (k : ℕ) {i : ℕ} → ((i ≡ j) × HasHand k new) ⊎ ((i ≢ j) × HasHand k (seat_at core.seats i))
        → cell_at core.cells k ≡ 0
    empty k (inl (e, h)) =
        let same : core.claim ≡ k = some_is core.claim k h.1 in
        undrawn k (omega (arith, same))
    empty k {i} (inr (differ, h)) = is.empty i k h

    one_hand :
        (k : ℕ) → (k ≡ core.claim) ⊎ (k ≢ core.claim)
        → (i l : ℕ) → HasHand k (seat_at (set core.seats j new) i)
        → HasHand k (seat_at (set core.seats j new) l) → i ≡ l
    one_hand k (inl e) =
        only_one (λ s. HasHand k s) core.seats j new here
        (λ i h. none_yet start answers core is i (subst (λ m. HasHand m (seat_at core.seats i)) e h))
    one_hand k (inr differ) =
        still_one (λ s. HasHand k s) core.seats j new here
        (λ h. absurd (differ (sym (some_is core.claim k h.1)))) (λ i l. is.one_hand i l k)

    was : IsSeat (length answers) core.claim core.lock core.stop old
    was = is.each j

    seat : IsSeat (length answers) (core.claim + 1) core.lock core.stop new
    seat = record {
      made = was.made;
      dead = was.dead;
      last = λ n has. omega (arith, some_is core.claim n has.1);
      hand = λ k has. (omega (arith, some_is core.claim k has.1, fits), has.1);
      holder = λ h. absurd (not_both old.holder h idle.holder);
      past = λ l p. absurd (not_both old.past p fresh);
      seen = λ l e s. absurd (not_some unseen s);
    }

-- a number beyond the answers' is no hand, and its seat draws no more
passes :
    (start : Front) (answers : List Answer) (core : Core) (j : ℕ) → IsCore start answers core
    → IsIdle (seat_at core.seats j) → (seat_at core.seats j).past ≡ false
    → (seat_at core.seats j).seen_end ≡ None → length answers ≤ core.claim
    → IsCore start answers (record core { claim = core.claim + 1; seats = set core.seats j (record (seat_at core.seats j) { last = Some core.claim; past = true }) })
passes start answers core j is idle fresh unseen beyond = record {
  wide = is.wide;
  code = λ k full. (omega (arith, (is.code k full).0), (is.code k full).1);
  drawn = λ k below within none. some_seat (λ s. HasHand k s) core.seats j new here
      (λ h. absurd (no_hand old idle.hand h)) (is.drawn k (omega (arith, within, beyond)) within none);
  empty = λ i k has. is.empty i k
      (was_before (λ s. HasHand k s) core.seats j new here (λ h. absurd (no_hand new idle.hand h)) i has);
  one_hand = λ i l k. still_one (λ s. HasHand k s) core.seats j new here
      (λ h. absurd (no_hand new idle.hand h)) (λ a b. is.one_hand a b k) i l;
  latest = λ n top. this_seat (λ s. HasLast n s) core.seats j new here
      (idle.live, ap (λ m. Some m) (omega (arith, top)));
  each = every_seat (λ i s. IsSeat (length answers) (core.claim + 1) core.lock core.stop s)
      core.seats j new here seat (λ i differ. later_claim _ _ _ _ _ (is.each i));
  held = λ odd. some_seat (λ s. s.holder ≡ true) core.seats j new here (λ h. h) (is.held odd);
  one_holder = still_one (λ s. s.holder ≡ true) core.seats j new here (λ h. h) is.one_holder;
  front = is.front;
  full = is.full;
  even = is.even;
  odd = is.odd;
  stop = is.stop;
  bound = omega (arith, is.bound, done_rises_by_one core.seats j new here draws_yet done);
}
  where
    old : Seat
    old = seat_at core.seats j

    new : Seat
    new = record old { last = Some core.claim; past = true }

    here : j < length core.seats
    here = live_within core.seats j idle.live

    was : IsSeat (length answers) core.claim core.lock core.stop old
    was = is.each j

    draws_yet : is_done old ≡ false
    draws_yet = rw (was.made idle.live, fresh, idle.live) refl

    done : is_done new ≡ true
    done = rw (was.made idle.live) refl

    seat : IsSeat (length answers) (core.claim + 1) core.lock core.stop new
    seat = record {
      made = was.made;
      dead = was.dead;
      last = λ n has. omega (arith, some_is core.claim n has.1);
      hand = λ k has. absurd (no_hand new idle.hand has);
      holder = λ h. absurd (not_both old.holder h idle.holder);
      past = λ l p. omega (arith, beyond);
      seen = λ l e s. absurd (not_some unseen s);
    }

pub keeps_claim :
    (start : Front) (answers : List Answer) (core : Core) (j : ℕ) → IsCore start answers core
    → IsIdle (seat_at core.seats j) → (seat_at core.seats j).past ≡ false
    → (seat_at core.seats j).seen_end ≡ None
    → IsCore start answers (after_claim (length answers) j (seat_at core.seats j) core)
keeps_claim start answers core j is idle fresh unseen = by_order (cases_lt core.claim (length answers))
  where
    by_order :
        (core.claim < length answers) ⊎ (length answers ≤ core.claim)
        → IsCore start answers (after_claim (length answers) j (seat_at core.seats j) core)
    by_order (inl fits) =
        rw (lt-ltb core.claim (length answers) fits)
        (draws start answers core j is idle fresh unseen fits)
    by_order (inr beyond) =
        rw (le-ltb core.claim (length answers) beyond)
        (passes start answers core j is idle fresh unseen beyond)

-- the code of an answer of the batch
code_at :
    (start : Front) (answers : List Answer) (k : ℕ) → IsBatch start answers → k < length answers
    → code_or_zero (slice_get answers k) ≢ 0
code_at start answers k batch within =
    rw (slice_get-get_or answers k (Cycles 0) within)
    (code-some (get_or answers k (Cycles 0)) (batch.held k (Cycles 0) within))

pub keeps_report :
    (start : Front) (answers : List Answer) (core : Core) (j k : ℕ) → IsBatch start answers
    → IsCore start answers core → HasHand k (seat_at core.seats j)
    → (seat_at core.seats j).holder ≡ false
    → IsCore start answers (after_report (code_or_zero (slice_get answers k)) k j (seat_at core.seats j) core)
keeps_report start answers core j k batch is has free = record {
  wide = length-set core.cells k word ∙ is.wide;
  code = λ i full. code i full (cases_eq i k);
  drawn = λ i below within none. drawn i below within none (cases_eq i k);
  empty = λ i l h. empty i l (had_before (λ s. HasHand l s) core.seats j new here i h);
  one_hand = λ i l n. still_one (λ s. HasHand n s) core.seats j new here
      (λ h. absurd (no_hand new refl h)) (λ a b. is.one_hand a b n) i l;
  latest = λ n top. some_seat (λ s. HasLast n s) core.seats j new here (λ h. h) (is.latest n top);
  each = every_seat (λ i s. IsSeat (length answers) core.claim core.lock core.stop s)
      core.seats j new here seat (λ i differ. is.each i);
  held = λ odd. some_seat (λ s. s.holder ≡ true) core.seats j new here (λ h. h) (is.held odd);
  one_holder = still_one (λ s. s.holder ≡ true) core.seats j new here (λ h. h) is.one_holder;
  front = is.front;
  full = λ i below. full i (is.full i below) (cases_eq i k);
  even = is.even;
  odd = is.odd;
  stop = is.stop;
  bound = omega (arith, is.bound, done_rises core.seats j new here (λ d. d));
}
  where
    word : ℕ
    word = code_or_zero (slice_get answers k)

    old : Seat
    old = seat_at core.seats j

    new : Seat
    new = record old { hand = None }

    here : j < length core.seats
    here = live_within core.seats j has.0

    was : IsSeat (length answers) core.claim core.lock core.stop old
    was = is.each j

    fits : k < length core.cells
    fits = omega (arith, (was.hand k has).0, is.wide)

    drawn_k : k < core.claim
    drawn_k = was.last k (has.0, (was.hand k has).1)

    filled : cell_at (set core.cells k word) k ≡ word
    filled = get_or-set_same core.cells k word 0 fits

    kept : (i : ℕ) → i ≢ k → cell_at (set core.cells k word) i ≡ cell_at core.cells i
    kept i differ = get_or-set_other core.cells k i word 0 differ

    some : word ≢ 0
    some = code_at start answers k batch (was.hand k has).0

    code :
        (i : ℕ) → cell_at (set core.cells k word) i ≢ 0 → (i ≡ k) ⊎ (i ≢ k)
        → (i < core.claim) × (cell_at (set core.cells k word) i ≡ code_or_zero (slice_get answers i))
    code i full (inl e) =
        subst (λ m. (m < core.claim) × (cell_at (set core.cells k word) m ≡ code_or_zero (slice_get answers m)))
        (sym e) (drawn_k, filled)
    code i full (inr differ) =
        let before = is.code i (λ none. full (kept i differ ∙ none)) in
        (before.0, kept i differ ∙ before.1)

    drawn :
        (i : ℕ) → i < core.claim → i < length answers → cell_at (set core.cells k word) i ≡ 0
        → (i ≡ k) ⊎ (i ≢ k) → (l : ℕ) × HasHand i (seat_at (set core.seats j new) l)
    drawn i below within none (inl e) =
        absurd (some (sym filled ∙ subst (λ m. cell_at (set core.cells k word) m ≡ 0) e none))
    drawn i below within none (inr differ) =
        some_seat (λ s. HasHand i s) core.seats j new here
        (λ h. absurd (differ (some_is i k (sym h.1 ∙ has.1))))
        (is.drawn i below within (sym (kept i differ) ∙ none))

    empty :
        (i l : ℕ) → ((i ≡ j) × HasHand l new) ⊎ ((i ≢ j) × HasHand l (seat_at core.seats i))
        → cell_at (set core.cells k word) l ≡ 0
    empty i l (inl (e, h)) = absurd (no_hand new refl h)
    empty i l (inr (differ, h)) = by_cell (cases_eq l k)
      where
        by_cell : (l ≡ k) ⊎ (l ≢ k) → cell_at (set core.cells k word) l ≡ 0
        by_cell (inl e) =
            absurd (differ (is.one_hand i j k (subst (λ m. HasHand m (seat_at core.seats i)) e h) has))
        by_cell (inr apart) = kept l apart ∙ is.empty i l h

    full :
        (i : ℕ) → cell_at core.cells i ≢ 0 → (i ≡ k) ⊎ (i ≢ k)
        → cell_at (set core.cells k word) i ≢ 0
    full i before (inl e) none = some (sym filled ∙ subst (λ m. cell_at (set core.cells k word) m ≡ 0) e none)
    full i before (inr differ) none = before (sym (kept i differ) ∙ none)

    seat : IsSeat (length answers) core.claim core.lock core.stop new
    seat = record {
      made = was.made;
      dead = was.dead;
      last = was.last;
      hand = λ m h. absurd (no_hand new refl h);
      holder = λ h. absurd (not_both old.holder h free);
      past = was.past;
      seen = was.seen;
    }
