-- Events that change one seat alone keep the invariant.
use Rattle.std.proofs.Common.{◌≡◌, ◌≢◌, ◌⊎◌, ◌+◌, ◌-◌, ◌<◌, ◌≤◌, ℕ, Bool, true, false, not, ◌&&◌, ◌||◌, Option, Some, None, List, length, set, inl, inr, refl, arith, sym, subst, ◌∙◌}
use Rattle.std.proofs.lemmas.Bool.{and_parts, cases_eq, cases_lt, cases_Bool, lt-ltb, le-ltb}
use Rattle.std.proofs.lemmas.List.{get_or-set_same, get_or-set_other}
use Rattle.std.specs.Option.{option_or}
use Rattle.confidence.specs.declared.answer.Answer.{Answer}
use Rattle.ordered_fold.specs.declared.front.Front.{Front}
use Rattle.ordered_fold.specs.declared.seat.Seat.{Seat}
use Rattle.ordered_fold.specs.Machine.{Core, unmade, seat_at, child_of, later, joined_of, after_split, after_join}
use Rattle.ordered_fold.specs.Invariant.{HasHand, HasLast, IsSeat, IsCore, is_done}
use Rattle.ordered_fold.proofs.Fronts.{not_both}
use Rattle.ordered_fold.proofs.MachineLemmas.{IsIdle, live_within, every_seat, some_seat, was_before, still_one, no_hand, done_rises}

pub keeps_seat :
    (start : Front) (answers : List Answer) (core : Core) (j : ℕ) (new : Seat)
    → IsCore start answers core → j < length core.seats
    → IsSeat (length answers) core.claim core.lock core.stop new
    → ((k : ℕ) → HasHand k (seat_at core.seats j) → HasHand k new)
    → ((k : ℕ) → HasHand k new → HasHand k (seat_at core.seats j))
    → new.holder ≡ (seat_at core.seats j).holder
    → ((n : ℕ) → core.claim ≡ n + 1 → (i : ℕ) × HasLast n (seat_at (set core.seats j new) i))
    → (is_done (seat_at core.seats j) ≡ true → is_done new ≡ true)
    → IsCore start answers (record core { seats = set core.seats j new })
keeps_seat start answers core j new is within seat kept was holder latest done = record {
  wide = is.wide;
  code = is.code;
  drawn = λ k below fits none.
      some_seat (λ s. HasHand k s) core.seats j new within (kept k) (is.drawn k below fits none);
  empty = λ i k has.
      is.empty i k (was_before (λ s. HasHand k s) core.seats j new within (was k) i has);
  one_hand = λ i l k.
      still_one (λ s. HasHand k s) core.seats j new within (was k) (λ a b. is.one_hand a b k) i l;
  latest = latest;
  each = every_seat (λ i s. IsSeat (length answers) core.claim core.lock core.stop s)
      core.seats j new within seat (λ i differ. is.each i);
  held = λ odd.
      some_seat (λ s. s.holder ≡ true) core.seats j new within (λ h. holder ∙ h) (is.held odd);
  one_holder = still_one (λ s. s.holder ≡ true) core.seats j new within (λ h. sym holder ∙ h) is.one_holder;
  front = is.front;
  full = is.full;
  even = is.even;
  odd = is.odd;
  stop = is.stop;
  bound = omega (arith, is.bound, done_rises core.seats j new within done);
}

pub keeps_look :
    (start : Front) (answers : List Answer) (core : Core) (j : ℕ) → IsCore start answers core
    → (seat_at core.seats j).live ≡ true → (seat_at core.seats j).holder ≡ false
    → core.stop ≢ 0
    → IsCore start answers (record core { seats = set core.seats j (record (seat_at core.seats j) { seen_end = Some (core.stop - 1) }) })
keeps_look start answers core j is live free some =
    let old : Seat = seat_at core.seats j in
    let new : Seat = record old { seen_end = Some (core.stop - 1) } in
    let within : j < length core.seats = live_within core.seats j live in
    let was = is.each j in
    let seat : IsSeat (length answers) core.claim core.lock core.stop new = record {
      made = was.made;
      dead = was.dead;
      last = was.last;
      hand = was.hand;
      holder = was.holder;
      past = was.past;
      seen = λ l e same. seen_end e same;
    } in
    keeps_seat start answers core j new is within seat
    (λ k h. h) (λ k h. h) refl
    (λ n last. some_seat (λ s. HasLast n s) core.seats j new within (λ h. h) (is.latest n last))
    (λ d. d)
  where
    seen_end : (e : ℕ) → Some (core.stop - 1) ≡ Some e → core.stop ≡ e + 1
    seen_end e same =
        let number : core.stop - 1 ≡ e = cc in
        omega (arith, number, some)

-- a seat that was never made is not live
unmade_dead : (seat : Seat) → (seat.live ≡ true → seat.made ≡ true) → seat.made ≡ false → seat.live ≡ false
unmade_dead seat made never = by (cases_Bool seat.live)
  where
    by : (seat.live ≡ true) ⊎ (seat.live ≡ false) → seat.live ≡ false
    by (inl live) = absurd (not_both seat.made (made live) never)
    by (inr dead) = dead

pub keeps_split :
    (start : Front) (answers : List Answer) (core : Core) (j into : ℕ) → IsCore start answers core
    → IsIdle (seat_at core.seats j) → into < length core.seats
    → (seat_at core.seats into).made ≡ false
    → IsCore start answers (after_split into (seat_at core.seats j) core)
keeps_split start answers core j into is idle within never =
    let seat : Seat = seat_at core.seats j in
    let old : Seat = seat_at core.seats into in
    let dead : old.live ≡ false = unmade_dead old (is.each into).made never in
    let was = is.each j in
    let child : IsSeat (length answers) core.claim core.lock core.stop (child_of seat) = record {
      made = λ l. refl;
      dead = λ d. refl;
      last = λ n has. was.last n (idle.live, has.1);
      hand = λ k has. absurd (no_hand (child_of seat) refl has);
      holder = λ h. absurd (not_both false h refl);
      past = λ l. was.past idle.live;
      seen = λ l. was.seen idle.live;
    } in
    keeps_seat start answers core into (child_of seat) is within child
    (λ k h. absurd (not_both old.live h.0 dead))
    (λ k h. absurd (no_hand (child_of seat) refl h))
    (sym ((is.each into).dead dead))
    (λ n last. some_seat (λ s. HasLast n s) core.seats into (child_of seat) within
    (λ h. absurd (not_both old.live h.0 dead)) (is.latest n last))
    (λ d. absurd (not_both old.made (and_parts old.made (old.past || not old.live) d).0 never))

-- the greater of two last numbers below a bound is the one just below it, where either is
later_is :
    (a b : Option ℕ) (n : ℕ)
    → ((m : ℕ) → a ≡ Some m → m < n + 1) → ((m : ℕ) → b ≡ Some m → m < n + 1)
    → (a ≡ Some n) ⊎ (b ≡ Some n) → later a b ≡ Some n
later_is None b n first second (inl e) = cc
later_is None b n first second (inr e) = e
later_is (Some x) None n first second (inl e) = e
later_is (Some x) None n first second (inr e) = cc
later_is (Some x) (Some y) n first second (inl e) =
    let top : x ≡ n = cc in
    let below : y ≤ x = omega (arith, second y refl, top) in
    rw (le-ltb x y below) e
later_is (Some x) (Some y) n first second (inr e) =
    let top : y ≡ n = cc in
    let below : x ≤ y = omega (arith, first x refl, top) in
    by_order (cases_lt x y)
  where
    by_order : (x < y) ⊎ (y ≤ x) → later (Some x) (Some y) ≡ Some n
    by_order (inl less) = rw (lt-ltb x y less) e
    by_order (inr most) =
        let top : y ≡ n = cc in
        let same : x ≡ n = omega (arith, first x refl, most, top) in
        rw (le-ltb x y most, same) refl

-- and it is one of both
later_one :
    (a b : Option ℕ) (m : ℕ) → later a b ≡ Some m → (a ≡ Some m) ⊎ (b ≡ Some m)
later_one None b m e = inr e
later_one (Some x) None m e = inl e
later_one (Some x) (Some y) m e = by_order (cases_lt x y)
  where
    by_order : (x < y) ⊎ (y ≤ x) → (Some x ≡ Some m) ⊎ (Some y ≡ Some m)
    by_order (inl less) = inr (rw (lt-ltb x y less) at e)
    by_order (inr most) = inl (rw (le-ltb x y most) at e)

either_past : (a b : Bool) → (a || b) ≡ true → (a ≡ true) ⊎ (b ≡ true)
either_past true b e = inl refl
either_past false b e = inr e

either_seen :
    (a b : Option ℕ) (e : ℕ) → option_or a b ≡ Some e → (a ≡ Some e) ⊎ (b ≡ Some e)
either_seen (Some x) b e same = inl same
either_seen None b e same = inr same

joined_done : (seat other : Seat) → is_done seat ≡ true → is_done (joined_of seat other) ≡ true
joined_done seat other done = by seat.made seat.past seat.live other.past done
  where
    by :
        (made past live more : Bool) → (made && (past || not live)) ≡ true
        → (made && ((past || more) || not live)) ≡ true
    by true true live more d = refl
    by true false false true d = refl
    by true false false false d = refl
    by true false true more d = cc
    by false past live more d = cc

-- the first half of a join: the seat knows what either does
joins :
    (start : Front) (answers : List Answer) (core : Core) (j from : ℕ) → IsCore start answers core
    → IsIdle (seat_at core.seats j) → IsIdle (seat_at core.seats from)
    → IsCore start answers (record core { seats = set core.seats j (joined_of (seat_at core.seats j) (seat_at core.seats from)) })
joins start answers core j from is idle other_idle =
    let seat : Seat = seat_at core.seats j in
    let other : Seat = seat_at core.seats from in
    let new : Seat = joined_of seat other in
    let within : j < length core.seats = live_within core.seats j idle.live in
    let was = is.each j in
    keeps_seat start answers core j new is within
    (record {
      made = was.made;
      dead = was.dead;
      last = λ n has. last n (later_one seat.last other.last n has.1);
      hand = λ k has. absurd (no_hand new idle.hand has);
      holder = was.holder;
      past = λ l p. past (either_past seat.past other.past p);
      seen = λ l e s. seen e (either_seen seat.seen_end other.seen_end e s);
    })
    (λ k h. h) (λ k h. h) refl
    (λ n top. some_seat (λ s. HasLast n s) core.seats j new within (λ h. (h.0, at_top n top h.1)) (is.latest n top))
    (joined_done seat other)
  where
    last :
        (n : ℕ) → ((seat_at core.seats j).last ≡ Some n) ⊎ ((seat_at core.seats from).last ≡ Some n)
        → n < core.claim
    last n (inl e) = (is.each j).last n (idle.live, e)
    last n (inr e) = (is.each from).last n (other_idle.live, e)

    past :
        ((seat_at core.seats j).past ≡ true) ⊎ ((seat_at core.seats from).past ≡ true)
        → length answers ≤ core.claim
    past (inl e) = (is.each j).past idle.live e
    past (inr e) = (is.each from).past other_idle.live e

    seen :
        (e : ℕ) → ((seat_at core.seats j).seen_end ≡ Some e) ⊎ ((seat_at core.seats from).seen_end ≡ Some e)
        → core.stop ≡ e + 1
    seen e (inl s) = (is.each j).seen idle.live e s
    seen e (inr s) = (is.each from).seen other_idle.live e s

    at_top :
        (n : ℕ) → core.claim ≡ n + 1 → (seat_at core.seats j).last ≡ Some n
        → later (seat_at core.seats j).last (seat_at core.seats from).last ≡ Some n
    at_top n top e =
        later_is (seat_at core.seats j).last (seat_at core.seats from).last n
        (λ m h. omega (arith, (is.each j).last m (idle.live, h), top))
        (λ m h. omega (arith, (is.each from).last m (other_idle.live, h), top))
        (inl e)

-- the second half: the other seat is live no more, and what it drew last another seat knows
dies :
    (start : Front) (answers : List Answer) (core : Core) (from : ℕ) → IsCore start answers core
    → IsIdle (seat_at core.seats from)
    → ((n : ℕ) → core.claim ≡ n + 1 → (i : ℕ) × HasLast n (seat_at (set core.seats from (record (seat_at core.seats from) { live = false })) i))
    → IsCore start answers (record core { seats = set core.seats from (record (seat_at core.seats from) { live = false }) })
dies start answers core from is idle latest =
    let other : Seat = seat_at core.seats from in
    let new : Seat = record other { live = false } in
    let was = is.each from in
    keeps_seat start answers core from new is (live_within core.seats from idle.live)
    (record {
      made = λ l. was.made idle.live;
      dead = λ d. idle.holder;
      last = λ n has. absurd (not_both false has.0 refl);
      hand = λ k has. absurd (not_both false has.0 refl);
      holder = was.holder;
      past = λ l. absurd (not_both false l refl);
      seen = λ l. absurd (not_both false l refl);
    })
    (λ k h. absurd (no_hand other idle.hand h))
    (λ k h. absurd (not_both false h.0 refl))
    refl
    latest
    (λ d. gone other.made other.past other.live d)
  where
    gone : (made past live : Bool) → (made && (past || not live)) ≡ true → (made && (past || true)) ≡ true
    gone true true live d = refl
    gone true false live d = refl
    gone false past live d = cc

pub keeps_join :
    (start : Front) (answers : List Answer) (core : Core) (j from : ℕ) → IsCore start answers core
    → IsIdle (seat_at core.seats j) → IsIdle (seat_at core.seats from) → j ≢ from
    → IsCore start answers (after_join j from (seat_at core.seats j) core)
keeps_join start answers core j from is idle other_idle differ =
    subst (λ o. IsCore start answers (record core { seats = set both from (record o { live = false }) }))
    untouched
    (dies start answers half from (joins start answers core j from is idle other_idle)
    (subst (λ o. IsIdle o) (sym untouched) other_idle) known)
  where
    other : Seat
    other = seat_at core.seats from

    new : Seat
    new = joined_of (seat_at core.seats j) other

    both : List Seat
    both = set core.seats j new

    half : Core
    half = record core { seats = both }

    untouched : seat_at both from ≡ other
    untouched = get_or-set_other core.seats j from new unmade (λ e. differ (sym e))

    after : List Seat
    after = set both from (record (seat_at both from) { live = false })

    kept : (i : ℕ) → i ≢ from → seat_at after i ≡ seat_at both i
    kept i apart = get_or-set_other both from i (record (seat_at both from) { live = false }) unmade apart

    at_j : seat_at both j ≡ new
    at_j = get_or-set_same core.seats j new unmade (live_within core.seats j idle.live)

    known : (n : ℕ) → core.claim ≡ n + 1 → (i : ℕ) × HasLast n (seat_at after i)
    known n top = by_place (is.latest n top)
      where
        joined : (seat_at core.seats j).last ≡ Some n ⊎ other.last ≡ Some n → (i : ℕ) × HasLast n (seat_at after i)
        joined e = (
          j,
          subst (λ s. HasLast n s) (sym (kept j differ ∙ at_j)) (
            idle.live,
            later_is (seat_at core.seats j).last other.last n
                (λ m h. omega (arith, (is.each j).last m (idle.live, h), top))
                (λ m h. omega (arith, (is.each from).last m (other_idle.live, h), top)) e,
          ),
        )

        by_place : ((i : ℕ) × HasLast n (seat_at core.seats i)) → (i : ℕ) × HasLast n (seat_at after i)
        by_place (i, has) = by_seat (cases_eq i j) (cases_eq i from)
          where
            by_seat : (i ≡ j) ⊎ (i ≢ j) → (i ≡ from) ⊎ (i ≢ from) → (k : ℕ) × HasLast n (seat_at after k)
            by_seat (inl e) f = joined (inl (subst (λ k. (seat_at core.seats k).last ≡ Some n) e has.1))
            by_seat (inr e) (inl f) = joined (inr (subst (λ k. (seat_at core.seats k).last ≡ Some n) f has.1))
            by_seat (inr e) (inr f) =
                (i, subst (λ s. HasLast n s) (sym (kept i f ∙ get_or-set_other core.seats j i new unmade e)) has)
