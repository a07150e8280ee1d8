-- Events of the lock, of the front and of the stop word keep the invariant.
use Rattle.std.proofs.Common.{◌≡◌, ◌≢◌, ◌⊎◌, ◌+◌, ◌-◌, ◌*◌, ◌%◌, ◌<◌, ◌≤◌, ℕ, true, false, List, length, get_or, set, suc, inl, inr, refl, arith, sym, ap, subst, ◌∙◌}
use Rattle.std.proofs.Math.Arith.{lt_of_le-ne}
use Rattle.std.proofs.lemmas.Bool.{cases_eq, cases_lt, cases_Bool}
use Rattle.std.proofs.lemmas.Option.{slice_get-get_or}
use Rattle.confidence.specs.declared.answer.Answer.{Answer}
use Rattle.confidence.specs.declared.answer.Answer.TheVariants.{Cycles}
use Rattle.ordered_fold.specs.declared.ending.Ending.TheVariants.{Going}
use Rattle.ordered_fold.specs.declared.front.Front.{Front}
use Rattle.ordered_fold.specs.declared.seat.Seat.{Seat}
use Rattle.ordered_fold.specs.Front.{is_going, pushed, folded}
use Rattle.ordered_fold.specs.Cell.{code, answer_of}
use Rattle.ordered_fold.specs.Batch.{fold_from, uncounted, pushed_number, folded_number, count_before_end, IsBatch}
use Rattle.ordered_fold.specs.Machine.{Core, seat_at, cell_at, code_or_zero, after_announce, after_release}
use Rattle.ordered_fold.specs.Invariant.{HasHand, HasLast, IsSeat, IsCore}
use Rattle.ordered_fold.proofs.Fronts.{not_both}
use Rattle.ordered_fold.proofs.BatchLemmas.{going_of, fold_from-more, fold_from-all, whole_fold, prefix_of, IsPrefix, pushed_number-pushed}
use Rattle.ordered_fold.proofs.CellLemmas.{answer_of-code}
use Rattle.ordered_fold.proofs.MachineLemmas.{IsIdle, live_within, every_seat, some_seat, this_seat, had_before, still_one, only_one, done_rises}

-- a holder is live
pub holder_lives : (seat : Seat) → (seat.live ≡ false → seat.holder ≡ false) → seat.holder ≡ true → seat.live ≡ true
holder_lives seat dead holds = by (cases_Bool seat.live)
  where
    by : (seat.live ≡ true) ⊎ (seat.live ≡ false) → seat.live ≡ true
    by (inl live) = live
    by (inr gone) = absurd (not_both seat.holder holds (dead gone))

pub keeps_try :
    (start : Front) (answers : List Answer) (core : Core) (j : ℕ) → IsCore start answers core
    → IsIdle (seat_at core.seats j) → core.lock % 2 ≡ 0
    → IsCore start answers (record core { lock = core.lock + 1; seats = set core.seats j (record (seat_at core.seats j) { holder = true }) })
keeps_try start answers core j is idle free = record {
  wide = is.wide;
  code = is.code;
  drawn = λ k below within none.
      some_seat (λ s. HasHand k s) core.seats j new here (λ h. h) (is.drawn k below within none);
  empty = λ i k h. empty k (had_before (λ s. HasHand k s) core.seats j new here i h);
  one_hand = λ i l k. still_one (λ s. HasHand k s) core.seats j new here (λ h. h) (λ a b. is.one_hand a b k) i l;
  latest = λ n top. some_seat (λ s. HasLast n s) core.seats j new here (λ h. h) (is.latest n top);
  each = every_seat (λ i s. IsSeat (length answers) core.claim (core.lock + 1) core.stop s)
      core.seats j new here seat (λ i differ. others i);
  held = λ odd. this_seat (λ s. s.holder ≡ true) core.seats j new here refl;
  one_holder = only_one (λ s. s.holder ≡ true) core.seats j new here nobody;
  front = is.front;
  full = is.full;
  even = λ e. absurd (omega (arith, e, free));
  odd = λ o. omega (arith, is.even free);
  stop = is.stop;
  bound = omega (arith, is.bound, done_rises core.seats j new here (λ d. d));
}
  where
    old : Seat
    old = seat_at core.seats j

    new : Seat
    new = record old { holder = true }

    here : j < length core.seats
    here = live_within core.seats j idle.live

    nobody : (i : ℕ) → (seat_at core.seats i).holder ≡ true → ⊥
    nobody i h = omega (arith, ((is.each i).holder h).1, free)

    empty :
        (k : ℕ) {i : ℕ} → ((i ≡ j) × HasHand k new) ⊎ ((i ≢ j) × HasHand k (seat_at core.seats i))
        → cell_at core.cells k ≡ 0
    empty k (inl (e, h)) = is.empty j k h
    empty k {i} (inr (differ, h)) = is.empty i k h

    others : (i : ℕ) → IsSeat (length answers) core.claim (core.lock + 1) core.stop (seat_at core.seats i)
    others i = let was = is.each i in record {
      made = was.made;
      dead = was.dead;
      last = was.last;
      hand = was.hand;
      holder = λ h. absurd (nobody i h);
      past = was.past;
      seen = was.seen;
    }

    was : IsSeat (length answers) core.claim core.lock core.stop old
    was = is.each j

    seat : IsSeat (length answers) core.claim (core.lock + 1) core.stop new
    seat = record {
      made = was.made;
      dead = λ d. absurd (not_both old.live idle.live d);
      last = was.last;
      hand = was.hand;
      holder = λ h. (idle.hand, omega (arith, free));
      past = was.past;
      seen = was.seen;
    }

pub keeps_release :
    (start : Front) (answers : List Answer) (core : Core) (j : ℕ) → IsCore start answers core
    → (seat_at core.seats j).holder ≡ true
    → IsCore start answers (after_release start j (seat_at core.seats j) core)
keeps_release start answers core j is holds = record {
  wide = is.wide;
  code = is.code;
  drawn = λ k below within none.
      some_seat (λ s. HasHand k s) core.seats j new here (λ h. h) (is.drawn k below within none);
  empty = λ i k h. empty k (had_before (λ s. HasHand k s) core.seats j new here i h);
  one_hand = λ i l k. still_one (λ s. HasHand k s) core.seats j new here (λ h. h) (λ a b. is.one_hand a b k) i l;
  latest = λ n top. some_seat (λ s. HasLast n s) core.seats j new here (λ h. h) (is.latest n top);
  each = every_seat (λ i s. IsSeat (length answers) core.claim lock core.stop s)
      core.seats j new here seat others;
  held = λ odd. absurd (omega (arith, odd));
  one_holder = λ i l h g. absurd (nobody (had_before (λ s. s.holder ≡ true) core.seats j new here i h));
  front = is.front;
  full = is.full;
  even = λ e. refl;
  odd = λ o. omega arith;
  stop = is.stop;
  bound = omega (arith, is.bound, done_rises core.seats j new here (λ d. d));
}
  where
    lock : ℕ
    lock = 2 * folded_number start core.front

    old : Seat
    old = seat_at core.seats j

    new : Seat
    new = record old { holder = false }

    was : IsSeat (length answers) core.claim core.lock core.stop old
    was = is.each j

    here : j < length core.seats
    here = live_within core.seats j (holder_lives old was.dead holds)

    nobody :
        {i : ℕ} → ((i ≡ j) × (new.holder ≡ true)) ⊎ ((i ≢ j) × ((seat_at core.seats i).holder ≡ true)) → ⊥
    nobody (inl (e, h)) = not_both false h refl
    nobody {i} (inr (differ, h)) = differ (is.one_holder i j h holds)

    empty :
        (k : ℕ) {i : ℕ} → ((i ≡ j) × HasHand k new) ⊎ ((i ≢ j) × HasHand k (seat_at core.seats i))
        → cell_at core.cells k ≡ 0
    empty k (inl (e, h)) = is.empty j k h
    empty k {i} (inr (differ, h)) = is.empty i k h

    others : (i : ℕ) → i ≢ j → IsSeat (length answers) core.claim lock core.stop (seat_at core.seats i)
    others i differ = let was = is.each i in record {
      made = was.made;
      dead = was.dead;
      last = was.last;
      hand = was.hand;
      holder = λ h. absurd (differ (is.one_holder i j h holds));
      past = was.past;
      seen = was.seen;
    }

    seat : IsSeat (length answers) core.claim lock core.stop new
    seat = record {
      made = was.made;
      dead = λ d. refl;
      last = was.last;
      hand = was.hand;
      holder = λ h. absurd (not_both false h refl);
      past = was.past;
      seen = was.seen;
    }

-- what is announced is the count of the whole batch's fold
pub ended_count :
    (start : Front) (answers : List Answer) (core : Core) → IsCore start answers core
    → is_going core.front.ending ≡ false → core.front ≡ fold_from start answers (length answers)
ended_count start answers core is ended =
    is.front ∙ whole_fold start answers (folded_number start core.front) (subst (λ f. is_going f.ending ≡ false) is.front ended)

pub keeps_announce :
    (start : Front) (answers : List Answer) (core : Core) → IsCore start answers core
    → is_going core.front.ending ≡ false → IsCore start answers (after_announce core)
keeps_announce start answers core is ended = record {
  wide = is.wide;
  code = is.code;
  drawn = is.drawn;
  empty = is.empty;
  one_hand = is.one_hand;
  latest = is.latest;
  each = λ j. seat j (is.each j);
  held = is.held;
  one_holder = is.one_holder;
  front = is.front;
  full = is.full;
  even = is.even;
  odd = is.odd;
  stop = inr (told, ended);
  bound = is.bound;
}
  where
    told : core.front.sums.n + 1 ≡ count_before_end start answers + 1
    told = ap (λ f. f.sums.n + 1) (ended_count start answers core is ended)

    seat :
        (j : ℕ) → IsSeat (length answers) core.claim core.lock core.stop (seat_at core.seats j)
        → IsSeat (length answers) core.claim core.lock (core.front.sums.n + 1) (seat_at core.seats j)
    seat j was = record {
      made = was.made;
      dead = was.dead;
      last = was.last;
      hand = was.hand;
      holder = was.holder;
      past = was.past;
      seen = λ l e s. again e (was.seen l e s) is.stop;
    }
      where
        again :
            (e : ℕ) → core.stop ≡ e + 1
            → (core.stop ≡ 0) ⊎ ((core.stop ≡ count_before_end start answers + 1) × (is_going core.front.ending ≡ false))
            → core.front.sums.n + 1 ≡ e + 1
        again e seen (inl none) = absurd (omega (arith, seen, none))
        again e seen (inr (same, over)) = told ∙ sym same ∙ seen

-- where the front goes on, it counted as many answers as it folded
pub going_count :
    (start : Front) (answers : List Answer) (core : Core) → IsBatch start answers
    → IsCore start answers core → core.front.ending ≡ Going
    → folded_number start core.front ≤ length answers
    → core.front.sums.n ≡ start.sums.n + folded_number start core.front
going_count start answers core batch is going within =
    let prefix : IsPrefix start (folded_number start core.front) core.front =
    subst (λ f. IsPrefix start (folded_number start core.front) f) (sym is.front)
    (prefix_of start answers (folded_number start core.front) batch within) in
    let none : uncounted core.front.ending ≡ 0 = rw going refl in
    omega (arith, prefix.going going, none)

-- no more is folded than the batch has
pub folded_within :
    (start : Front) (answers : List Answer) (core : Core) → IsBatch start answers
    → IsCore start answers core → folded_number start core.front ≤ length answers
folded_within start answers core batch is = by_order (cases_lt (length answers) (folded_number start core.front))
  where
    m : ℕ
    m = folded_number start core.front

    by_order : (length answers < m) ⊎ (m ≤ length answers) → m ≤ length answers
    by_order (inr within) = within
    by_order (inl past) =
        let whole : core.front ≡ fold_from start answers (length answers) =
        is.front ∙ fold_from-all start answers m (omega (arith, past)) in
        let prefix = prefix_of start answers (length answers) batch (omega arith) in
        let most : pushed_number core.front ≤ start.sums.n + length answers =
        subst (λ f. pushed_number f ≤ start.sums.n + length answers) (sym whole) prefix.most in
        omega (arith, most)

-- a glance at a full cell folds the next answer
pub record FoldsNext (start : Front) (answers : List Answer) (core : Core) (new : Front) : Type 0 where
  pub below : folded_number start core.front < length answers
  pub full : cell_at core.cells (folded_number start core.front) ≢ 0
  pub number : folded_number start new ≡ folded_number start core.front + 1
  pub next : new ≡ fold_from start answers (folded_number start core.front + 1)

-- what a glance finds
abbrev pub glanced_of : Front → Core → Front
glanced_of start core = pushed core.front (answer_of (cell_at core.cells (core.front.sums.n - start.sums.n)))

pub folds_next :
    (start : Front) (answers : List Answer) (core : Core) → IsBatch start answers
    → IsCore start answers core → is_going core.front.ending ≡ true
    → core.front.sums.n < start.sums.n + length answers
    → cell_at core.cells (core.front.sums.n - start.sums.n) ≢ 0
    → FoldsNext start answers core (glanced_of start core)
folds_next start answers core batch is goes more some = record {
  below = below;
  full = full;
  number = number;
  next = pushes
      ∙ sym (rw next at (fold_from-more start answers m below) ∙ ap (λ f. folded f answer) (sym is.front) ∙ rw goes refl);
}
  where
    m : ℕ
    m = folded_number start core.front

    next : suc m ≡ m + 1
    next = omega arith

    going : core.front.ending ≡ Going
    going = going_of core.front.ending goes

    counted : core.front.sums.n ≡ start.sums.n + m
    counted = going_count start answers core batch is going (folded_within start answers core batch is)

    place : core.front.sums.n - start.sums.n ≡ m
    place = omega (arith, counted)

    below : m < length answers
    below = omega (arith, counted, more)

    answer : Answer
    answer = get_or answers m (Cycles 0)

    full : cell_at core.cells m ≢ 0
    full none = some (rw place none)

    word : cell_at core.cells (core.front.sums.n - start.sums.n) ≡ code answer
    word = rw place ((is.code m full).1 ∙ ap code_or_zero (slice_get-get_or answers m (Cycles 0) below))

    pushes : glanced_of start core ≡ pushed core.front answer
    pushes =
        ap (pushed core.front)
        (ap answer_of word ∙ answer_of-code answer (batch.held m (Cycles 0) below))

    number : folded_number start (glanced_of start core) ≡ m + 1
    number =
        let one : pushed_number (glanced_of start core) ≡ pushed_number core.front + 1 =
        ap pushed_number pushes ∙ pushed_number-pushed core.front answer going in
        let least : start.sums.n ≤ pushed_number core.front = omega (arith, counted) in
        omega (arith, one, least)

pub keeps_push :
    (start : Front) (answers : List Answer) (core : Core) (j : ℕ) → IsBatch start answers
    → IsCore start answers core → (seat_at core.seats j).holder ≡ true
    → is_going core.front.ending ≡ true
    → core.front.sums.n < start.sums.n + length answers
    → cell_at core.cells (core.front.sums.n - start.sums.n) ≢ 0
    → IsCore start answers (record core { front = glanced_of start core })
keeps_push start answers core j batch is holds goes more some = record {
  wide = is.wide;
  code = is.code;
  drawn = is.drawn;
  empty = is.empty;
  one_hand = is.one_hand;
  latest = is.latest;
  each = is.each;
  held = is.held;
  one_holder = is.one_holder;
  front = folds.next ∙ ap (fold_from start answers) (sym folds.number);
  full = λ k below. full k (omega (arith, below, folds.number)) (cases_eq k (folded_number start core.front));
  even = λ e. absurd (omega (arith, odd, e));
  odd = λ o. omega (arith, is.odd odd, folds.number);
  stop = by_stop is.stop;
  bound = is.bound;
}
  where
    folds : FoldsNext start answers core (glanced_of start core)
    folds = folds_next start answers core batch is goes more some

    full :
        (k : ℕ) → k < folded_number start core.front + 1
        → (k ≡ folded_number start core.front) ⊎ (k ≢ folded_number start core.front)
        → cell_at core.cells k ≢ 0
    full k least (inl e) = subst (λ i. cell_at core.cells i ≢ 0) (sym e) folds.full
    full k least (inr differ) = is.full k (lt_of_le-ne (omega (arith, least)) differ)

    odd : core.lock % 2 ≡ 1
    odd = ((is.each j).holder holds).1

    by_stop :
        (core.stop ≡ 0) ⊎ ((core.stop ≡ count_before_end start answers + 1) × (is_going core.front.ending ≡ false))
        → (core.stop ≡ 0) ⊎ ((core.stop ≡ count_before_end start answers + 1) × (is_going (glanced_of start core).ending ≡ false))
    by_stop (inl none) = inl none
    by_stop (inr (told, over)) = absurd (not_both (is_going core.front.ending) goes over)
