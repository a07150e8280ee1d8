-- Making the first pass, splitting one and joining two keep the rule.
use Rattle.std.proofs.Common.{◌≡◌, ◌≢◌, ◌⊎◌, ◌+◌, ◌<◌, ◌≤◌, ℕ, zero, suc, true, false, Some, List, [], ◌∷◌, ◌++◌, length, set, replicate, inl, inr, refl, arith, sym, ap, subst, ◌∙◌, length-set, length-append}
use Rattle.std.specs.List.{sum_by}
use Rattle.std.proofs.lemmas.List.{get_or-set_same, get_or-set_other, length-replicate}
use Rattle.std.proofs.lemmas.List.Sums.{sum_by_push, get_or-le-sum_by}
use mathlib.Core.Option.{some}
use lib.ListN.{get_elem?}
use Rattle.atomic_table.specs.Table.{Splits, Joins, opening}
use Rattle.atomic_table.proofs.Lists.{at_set, set_else}
use Rattle.confidence.specs.declared.answer.Answer.{Answer}
use Rattle.ordered_fold.specs.declared.seat.Seat.{Seat}
use Rattle.ordered_fold.specs.Batch.{folded_number, IsBatch}
use Rattle.ordered_fold.specs.Machine.{Core, unmade, seat_at, core_start, child_of, joined_of, after_split, after_join}
use Rattle.ordered_fold.specs.Invariant.{IsCore}
use Rattle.ordered_fold.proofs.Fronts.{not_both}
use Rattle.ordered_fold.proofs.MachineLemmas.{IsIdle, live_within}
use Rattle.ordered_fold.proofs.SeatLemmas.{keeps_split, keeps_join}
use Rattle.ordered_fold.proofs.RunLemmas.{start_is_core, blank}
use Rattle.claim_table.specs.declared.rule.Key.{Key}
use Rattle.claim_table.specs.declared.rule.View.{View}
use Rattle.claim_table.specs.Board.{list_at, Shows, IsView, IsBoard, first_view}
use Rattle.claim_table.specs.Steps.{parent_view, child_view, joined_view, spent_view}
use Rattle.claim_table.proofs.ViewLemmas.{found_at, sum-changed, seat_of}

-- an element of a list with one more at its end
at_end :
    {A : Type 0} (l : List A) (a b : A) (j : ℕ) → get_elem? (l ++ a ∷ []) j ≡ some b
    → ((j < length l) × (get_elem? l j ≡ some b)) ⊎ ((j ≡ length l) × (a ≡ b))
at_end [] a b zero e = inr (refl, cc)
at_end [] a b (suc j) e = absurd cc
at_end (x ∷ l) a b zero e = inl (omega arith, e)
at_end (x ∷ l) a b (suc j) e = by (at_end l a b j e)
  where
    by :
        ((j < length l) × (get_elem? l j ≡ some b)) ⊎ ((j ≡ length l) × (a ≡ b))
        → ((suc j < length (x ∷ l)) × (get_elem? (x ∷ l) (suc j) ≡ some b)) ⊎ ((suc j ≡ length (x ∷ l)) × (a ≡ b))
    by (inl (below, at)) = inl (omega (arith, below), at)
    by (inr (last, same)) = inr (ap suc last, same)

pub opens :
    (lists : List (List Answer)) (key : Key) (words : List ℕ)
    → IsBatch key.start (list_at lists key.which)
    → words ≡ replicate (length (list_at lists key.which) + 3) 0
    → IsBoard lists key (opening words (Some key.start ∷ []) (first_view key))
unfolding core_start
opens lists key words batch zeros = record {
  core = core_start key.start (length answers) 65;
  batch = batch;
  is = start_is_core key.start answers 65 batch (omega arith);
  words = zeros ∙ ap (λ n. replicate n 0) three;
  home = λ e. refl;
  away = λ o. absurd (omega (arith, o));
  seats = length-set (replicate 65 unmade) 0 first ∙ length-replicate 65 unmade;
  shown = shown;
  fresh = λ j past. ap (λ x. x.made) (get_or-set_other (replicate 65 unmade) 0 j first unmade (λ e. omega (arith, e, past)) ∙ blank 65 j);
  each = each;
  spares = refl;
  merges = refl;
  points = omega arith;
}
  where
    answers : List Answer
    answers = list_at lists key.which

    first : Seat
    first = record unmade { made = true; live = true }

    three : length answers + 3 ≡ suc (suc (suc (length answers)))
    three = omega arith

    shown : (j : ℕ) (v : View) → get_elem? (first_view key ∷ []) j ≡ some v → Shows v (seat_at (set (replicate 65 unmade) 0 first) j)
    shown zero v e =
        let same : first_view key ≡ v = cc in
        subst (λ u. Shows u first) same (record { live = λ l. refl; dead = λ d. absurd (not_both true refl d) })
    shown (suc j) v e = absurd cc

    each : (j : ℕ) (v : View) → get_elem? (first_view key ∷ []) j ≡ some v → IsView key 0 (folded_number key.start key.start) v
    each zero v e =
        let same : first_view key ≡ v = cc in
        subst (IsView key 0 (folded_number key.start key.start)) same (record {
          which = λ l. refl;
          start = λ l. refl;
          merged = λ l. omega arith;
          held = λ l h. absurd (not_both false h refl);
          told = λ t. absurd (not_both false t refl);
          spent = λ d. refl;
        })
    each (suc j) v e = absurd cc

pub splits :
    (lists : List (List Answer)) (key : Key) (id : ℕ) (v : View) → IsIdle v.seat → 0 < v.spare
    → Splits (IsBoard lists key) id v (parent_view v) (child_view v)
splits lists key id v idle spare s board at = record {
  core = after;
  batch = board.batch;
  is = is;
  words = board.words;
  home = board.home;
  away = board.away;
  seats = length-set core.seats into (child_of (seat_at core.seats id)) ∙ board.seats;
  shown = λ j u e. shown j u (at_end views (child_view v) u j e);
  fresh = λ j past. subst (λ x. x.made ≡ false) (sym (kept j (λ e. omega (arith, past, e, long, more))))
      (board.fresh j (omega (arith, past, long, more)));
  each = λ j u e. each j u (at_end views (child_view v) u j e);
  spares = omega (arith, sum_by_push (λ u. u.spare) views (child_view v), sum-changed (λ u. u.spare) s.views id v (parent_view v) at, board.spares, long, more, spare);
  merges = omega (arith, sum_by_push (λ u. u.merged) views (child_view v), sum-changed (λ u. u.merged) s.views id v (parent_view v) at, board.merges, long, more);
  points = omega (arith, sum_by_push (λ u. u.points) views (child_view v), sum-changed (λ u. u.points) s.views id v (parent_view v) at, board.points);
}
  where
    core : Core
    core = board.core

    into : ℕ
    into = length s.views

    views : List View
    views = set s.views id (parent_view v)

    long : length views ≡ length s.views
    long = length-set s.views id (parent_view v)

    more : length (views ++ child_view v ∷ []) ≡ length views + 1
    more = length-append views (child_view v ∷ [])

    below : id < length s.views
    below = (found_at s.views id v v at).0

    least : v.spare ≤ sum_by (λ u. u.spare) s.views
    least =
        let found = found_at s.views id v v at in
        rw found.1 at (get_or-le-sum_by (λ u. u.spare) s.views id v found.0)

    mine : seat_at core.seats id ≡ v.seat
    mine = seat_of lists key s board id v at idle.live

    after : Core
    after = after_split into (seat_at core.seats id) core

    is : IsCore key.start (list_at lists key.which) after
    is = keeps_split key.start (list_at lists key.which) core id into board.is (subst IsIdle (sym mine) idle)
        (omega (arith, board.seats, board.spares, least, spare)) (board.fresh into (omega arith))

    kept : (j : ℕ) → j ≢ into → seat_at after.seats j ≡ seat_at core.seats j
    kept j differ = get_or-set_other core.seats into j (child_of (seat_at core.seats id)) unmade differ

    child : seat_at after.seats into ≡ (child_view v).seat
    child = get_or-set_same core.seats into (child_of (seat_at core.seats id)) unmade (omega (arith, board.seats, board.spares, least, spare)) ∙ ap child_of mine

    shown_old :
        (j : ℕ) (u : View) → ((j ≡ id) × (parent_view v ≡ u)) ⊎ ((j ≢ id) × (get_elem? s.views j ≡ some u))
        → Shows u (seat_at core.seats j)
    shown_old j u (inl (e, f)) =
        subst (λ k. Shows u (seat_at core.seats k)) (sym e) (subst (λ x. Shows x (seat_at core.seats id)) f
        (record { live = (board.shown id v at).live; dead = (board.shown id v at).dead }))
    shown_old j u (inr (e, f)) = board.shown j u f

    shown :
        (j : ℕ) (u : View) → ((j < length views) × (get_elem? views j ≡ some u)) ⊎ ((j ≡ length views) × (child_view v ≡ u))
        → Shows u (seat_at after.seats j)
    shown j u (inl (e, f)) =
        subst (Shows u) (sym (kept j (λ same. omega (arith, same, e, long)))) (shown_old j u (at_set s.views id j (parent_view v) u f))
    shown j u (inr (e, f)) =
        subst (λ k. Shows u (seat_at after.seats k)) (sym (e ∙ long)) (subst (λ x. Shows x (seat_at after.seats into)) f
        (record { live = λ l. child; dead = λ d. absurd (not_both true refl d) }))

    was : IsView key core.stop (folded_number key.start core.front) v
    was = board.each id v at

    each_old :
        (j : ℕ) (u : View) → ((j ≡ id) × (parent_view v ≡ u)) ⊎ ((j ≢ id) × (get_elem? s.views j ≡ some u))
        → IsView key core.stop (folded_number key.start core.front) u
    each_old j u (inl (e, f)) =
        subst (IsView key core.stop (folded_number key.start core.front)) f (record {
          which = was.which;
          start = was.start;
          merged = was.merged;
          held = was.held;
          told = was.told;
          spent = was.spent;
        })
    each_old j u (inr (e, f)) = board.each j u f

    each :
        (j : ℕ) (u : View) → ((j < length views) × (get_elem? views j ≡ some u)) ⊎ ((j ≡ length views) × (child_view v ≡ u))
        → IsView key core.stop (folded_number key.start core.front) u
    each j u (inl (e, f)) = each_old j u (at_set s.views id j (parent_view v) u f)
    each j u (inr (e, f)) =
        subst (IsView key core.stop (folded_number key.start core.front)) f (record {
          which = λ l. was.which idle.live;
          start = λ l. was.start idle.live;
          merged = λ l. omega arith;
          held = λ l h. absurd (not_both false h refl);
          told = λ t. absurd (not_both false t refl);
          spent = λ d. refl;
        })

pub joins :
    (lists : List (List Answer)) (key : Key) (id : ℕ) (v : View) (other : ℕ) (w : View)
    → IsIdle v.seat → IsIdle w.seat
    → Joins (IsBoard lists key) id v other w (joined_view v w) spent_view
joins lists key id v other w idle other_idle s board at apart other_at = record {
  core = after;
  batch = board.batch;
  is = is;
  words = board.words;
  home = board.home;
  away = board.away;
  seats = length-set both other (record (seat_at core.seats other) { live = false }) ∙ length-set core.seats id joined ∙ board.seats;
  shown = λ j u e. shown j u (at_set views other j spent_view u e);
  fresh = λ j past. subst (λ x. x.made ≡ false) (sym (kept j (λ e. omega (arith, past, e, long, below)) (λ e. omega (arith, past, e, long, other_below))))
      (board.fresh j (omega (arith, past, long)));
  each = λ j u e. each j u (at_set views other j spent_view u e);
  spares = omega (arith, sum-changed (λ u. u.spare) s.views id v (joined_view v w) at, sum-changed (λ u. u.spare) views other w spent_view other_at, board.spares, long);
  merges = omega (arith, sum-changed (λ u. u.merged) s.views id v (joined_view v w) at, sum-changed (λ u. u.merged) views other w spent_view other_at, board.merges, long);
  points = omega (arith, sum-changed (λ u. u.points) s.views id v (joined_view v w) at, sum-changed (λ u. u.points) views other w spent_view other_at, board.points);
}
  where
    core : Core
    core = board.core

    views : List View
    views = set s.views id (joined_view v w)

    long : length (set views other spent_view) ≡ length s.views
    long = length-set views other spent_view ∙ length-set s.views id (joined_view v w)

    below : id < length s.views
    below = (found_at s.views id v v at).0

    there : get_elem? s.views other ≡ some w
    there = sym (set_else s.views id other (joined_view v w) apart) ∙ other_at

    other_below : other < length s.views
    other_below = (found_at s.views other w w there).0

    mine : seat_at core.seats id ≡ v.seat
    mine = seat_of lists key s board id v at idle.live

    others : seat_at core.seats other ≡ w.seat
    others = seat_of lists key s board other w there other_idle.live

    joined : Seat
    joined = joined_of (seat_at core.seats id) (seat_at core.seats other)

    both : List Seat
    both = set core.seats id joined

    after : Core
    after = after_join id other (seat_at core.seats id) core

    is : IsCore key.start (list_at lists key.which) after
    is = keeps_join key.start (list_at lists key.which) core id other board.is (subst IsIdle (sym mine) idle)
        (subst IsIdle (sym others) other_idle) (λ e. apart (sym e))

    within : other < length both
    within = omega (arith, live_within core.seats other (ap (λ x. x.live) others ∙ other_idle.live), length-set core.seats id joined)

    dead : (seat_at after.seats other).live ≡ false
    dead = ap (λ x. x.live) (get_or-set_same both other (record (seat_at core.seats other) { live = false }) unmade within)

    at_id : seat_at after.seats id ≡ (joined_view v w).seat
    at_id =
        get_or-set_other both other id (record (seat_at core.seats other) { live = false }) unmade (λ e. apart (sym e))
        ∙ get_or-set_same core.seats id joined unmade (live_within core.seats id (ap (λ x. x.live) mine ∙ idle.live))
        ∙ ap (λ x. joined_of x (seat_at core.seats other)) mine ∙ ap (joined_of v.seat) others

    kept : (j : ℕ) → j ≢ id → j ≢ other → seat_at after.seats j ≡ seat_at core.seats j
    kept j first second =
        get_or-set_other both other j (record (seat_at core.seats other) { live = false }) unmade second
        ∙ get_or-set_other core.seats id j joined unmade first

    shown_kept :
        (j : ℕ) (u : View) → j ≢ other
        → ((j ≡ id) × (joined_view v w ≡ u)) ⊎ ((j ≢ id) × (get_elem? s.views j ≡ some u))
        → Shows u (seat_at after.seats j)
    shown_kept j u differ (inl (e, f)) =
        subst (λ k. Shows u (seat_at after.seats k)) (sym e) (subst (λ x. Shows x (seat_at after.seats id)) f
        (record { live = λ l. at_id; dead = λ d. absurd (not_both v.seat.live idle.live d) }))
    shown_kept j u differ (inr (e, f)) = subst (Shows u) (sym (kept j e differ)) (board.shown j u f)

    shown :
        (j : ℕ) (u : View) → ((j ≡ other) × (spent_view ≡ u)) ⊎ ((j ≢ other) × (get_elem? views j ≡ some u))
        → Shows u (seat_at after.seats j)
    shown j u (inl (e, f)) =
        subst (λ k. Shows u (seat_at after.seats k)) (sym e) (subst (λ x. Shows x (seat_at after.seats other)) f
        (record { live = λ l. absurd (not_both false l refl); dead = λ d. dead }))
    shown j u (inr (e, f)) = shown_kept j u e (at_set s.views id j (joined_view v w) u f)

    was : IsView key core.stop (folded_number key.start core.front) v
    was = board.each id v at

    each_kept :
        (j : ℕ) (u : View) → ((j ≡ id) × (joined_view v w ≡ u)) ⊎ ((j ≢ id) × (get_elem? s.views j ≡ some u))
        → IsView key core.stop (folded_number key.start core.front) u
    each_kept j u (inl (e, f)) =
        subst (IsView key core.stop (folded_number key.start core.front)) f (record {
          which = was.which;
          start = was.start;
          merged = λ l. omega (arith, was.merged l);
          held = was.held;
          told = was.told;
          spent = λ d. absurd (not_both v.seat.live idle.live d);
        })
    each_kept j u (inr (e, f)) = board.each j u f

    each :
        (j : ℕ) (u : View) → ((j ≡ other) × (spent_view ≡ u)) ⊎ ((j ≢ other) × (get_elem? views j ≡ some u))
        → IsView key core.stop (folded_number key.start core.front) u
    each j u (inl (e, f)) =
        subst (IsView key core.stop (folded_number key.start core.front)) f (record {
          which = λ l. absurd (not_both false l refl);
          start = λ l. absurd (not_both false l refl);
          merged = λ l. absurd (not_both false l refl);
          held = λ l. absurd (not_both false l refl);
          told = λ t. absurd (not_both false t refl);
          spent = λ d. refl;
        })
    each j u (inr (e, f)) = each_kept j u (at_set s.views id j (joined_view v w) u f)
