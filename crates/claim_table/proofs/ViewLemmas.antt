-- The views of a board's passes, and how one that changed leaves the rule.
use Rattle.std.proofs.Common.{◌≡◌, ◌≢◌, ◌⊎◌, ◌+◌, ◌-◌, ◌%◌, ◌<◌, ◌≤◌, ℕ, zero, suc, true, false, min, Option, Some, None, List, [], ◌∷◌, length, get_or, set, inl, inr, refl, arith, sym, ap, subst, ◌∙◌, length-set}
use Rattle.std.specs.List.{sum_by}
use Rattle.std.proofs.lemmas.Bool.{cases_eq, cases_lt, cases_Bool}
use Rattle.std.proofs.lemmas.List.Sums.{sum_by-set, get_or-le-sum_by}
use Rattle.std.proofs.lemmas.List.{get_or-set_same, get_or-set_other, set-get_or}
use mathlib.Core.Option.{none, some}
use mathlib.Core.Option as maybe
use lib.ListN.{get_elem?}
use Rattle.atomic_table.specs.Table.{State, Act, Valid, stepped, carried_after, Allows}
use Rattle.atomic_table.proofs.Lists.{at_set}
use Rattle.confidence.specs.declared.answer.Answer.{Answer}
use Rattle.ordered_fold.specs.declared.front.Front.{Front}
use Rattle.ordered_fold.specs.Batch.{folded_number}
use Rattle.ordered_fold.specs.Machine.{Core, unmade, seat_at}
use Rattle.ordered_fold.specs.Invariant.{HasLast, IsCore}
use Rattle.ordered_fold.proofs.Fronts.{not_both}
use Rattle.ordered_fold.proofs.MachineLemmas.{live_within}
use Rattle.claim_table.specs.declared.rule.Key.{Key}
use Rattle.claim_table.specs.declared.rule.View.{View}
use Rattle.claim_table.specs.Board.{list_at, Shows, IsView, IsBoard, IsAlone}
use Rattle.claim_table.specs.Steps.{Holding, next_number}

-- an element that is there, by its place
pub found_at :
    {A : Type 0} (l : List A) (i : ℕ) (a d : A) → get_elem? l i ≡ some a
    → (i < length l) × (get_or l i d ≡ a)
found_at [] i a d e = absurd cc
found_at (x ∷ l) zero a d e = (omega arith, cc)
found_at (x ∷ l) (suc i) a d e =
    let rest = found_at l i a d e in
    (omega (arith, rest.0), rest.1)

pub there : {A : Type 0} (l : List A) (i : ℕ) → i < length l → (a : A) × (get_elem? l i ≡ some a)
there [] i below = absurd (omega (arith, below))
there (x ∷ l) zero below = (x, refl)
there (x ∷ l) (suc i) below = there l i (omega (arith, below))

-- a sum over the views after one changed
pub sum-changed :
    (f : View → ℕ) (views : List View) (id : ℕ) (v w : View) → get_elem? views id ≡ some v
    → sum_by f (set views id w) + f v ≡ sum_by f views + f w
sum-changed f views id v w at =
    let found = found_at views id v v at in
    rw found.1 at (sum_by-set f views id w v found.0)

-- the key of the board that this is a view of
abbrev pub view_key : View → Key
view_key v = record { which = v.which; start = v.start }

pub own_key :
    (lists : List (List Answer)) (key : Key) (s : State (Option Front) View) (id : ℕ) (v : View)
    → IsBoard lists key s → get_elem? s.views id ≡ some v → v.seat.live ≡ true → key ≡ view_key v
own_key lists key s id v board at live =
    let is = board.each id v at in
    λ i. record { which = sym (is.which live) i; start = sym (is.start live) i }

-- what a step comes to, where it found the number n
abbrev pub Comes :
    (State (Option Front) View → Type 0) → State (Option Front) View → ℕ → Holding → ℕ → (ℕ → ℕ)
    → (ℕ → Holding → Type 0) → ℕ → Type 0
Comes holds s id me i f then n =
    (w : View) × (a : Act (Option Front)) × Valid s.homes me.1 a
    × holds (stepped s i (f n) id me.1 w a) × then n (w, carried_after me.1 a)

-- a step is allowed whatever the board, where it is on the pass's own board
pub on_own_board :
    (lists : List (List Answer)) (key : Key) (slots id : ℕ) (me : Holding) (i : ℕ) (f : ℕ → ℕ)
    (then : ℕ → Holding → Type 0) → me.0.seat.live ≡ true
    → ((s : State (Option Front) View) → IsBoard lists (view_key me.0) s
    → get_elem? s.views id ≡ some me.0
    → (n : ℕ) × (get_or s.words i 0 ≡ n) × Comes (IsBoard lists (view_key me.0)) s id me i f then n)
    → Allows (IsBoard lists key) slots id me i f then
on_own_board lists key slots id me i f then live does s board deep at small =
    let same : key ≡ view_key me.0 = own_key lists key s id me.0 board at live in
    let (n, found, comes) = does s (subst (λ k. IsBoard lists k s) same board) at in
    subst (Comes (IsBoard lists key) s id me i f then) (sym found)
    (subst (λ k. Comes (IsBoard lists k) s id me i f then n) (sym same) comes)

-- the seat that a view tells
pub seat_of :
    (lists : List (List Answer)) (key : Key) (s : State (Option Front) View) (board : IsBoard lists key s)
    (id : ℕ) (v : View) → get_elem? s.views id ≡ some v → v.seat.live ≡ true
    → seat_at board.core.seats id ≡ v.seat
seat_of lists key s board id v at live = (board.shown id v at).live live

-- what one changed view, its seat and the words leave
pub moved :
    (lists : List (List Answer)) (key : Key) (s : State (Option Front) View) (board : IsBoard lists key s)
    (id : ℕ) (v w : View) (core : Core) (words : List ℕ) (homes : List (maybe.Option (Option Front)))
    → get_elem? s.views id ≡ some v
    → IsCore key.start (list_at lists key.which) core
    → length core.seats ≡ 65
    → words ≡ core.claim ∷ core.lock ∷ core.stop ∷ core.cells
    → (core.lock % 2 ≡ 0 → homes ≡ some (Some core.front) ∷ [])
    → (core.lock % 2 ≡ 1 → homes ≡ none ∷ [])
    → ((j : ℕ) → j ≢ id → seat_at core.seats j ≡ seat_at board.core.seats j)
    → Shows w (seat_at core.seats id)
    → IsView key core.stop (folded_number key.start core.front) w
    → ((j : ℕ) (u : View) → j ≢ id → get_elem? s.views j ≡ some u
    → IsView key core.stop (folded_number key.start core.front) u)
    → w.spare ≡ v.spare → w.merged ≡ v.merged
    → sum_by (λ u. u.points) (set s.views id w) ≡ min core.claim (length (list_at lists key.which))
    → IsBoard lists key (record { words = words; homes = homes; views = set s.views id w })
moved lists key s board id v w core words homes at is wide same home away kept shows view others spare merged points = record {
  core = core;
  batch = board.batch;
  is = is;
  words = same;
  home = home;
  away = away;
  seats = wide;
  shown = λ j u e. shown j u (at_set s.views id j w u e);
  fresh = λ j past. subst (λ x. x.made ≡ false) (sym (kept j (apart j past)))
      (board.fresh j (omega (arith, past, length-set s.views id w)));
  each = λ j u e. each j u (at_set s.views id j w u e);
  spares = omega (arith, board.spares, sum-changed (λ u. u.spare) s.views id v w at, spare, length-set s.views id w);
  merges = omega (arith, board.merges, sum-changed (λ u. u.merged) s.views id v w at, merged, length-set s.views id w);
  points = points;
}
  where
    apart : (j : ℕ) → length (set s.views id w) ≤ j → j ≢ id
    apart j past e = omega (arith, past, e, length-set s.views id w, (found_at s.views id v v at).0)

    shown :
        (j : ℕ) (u : View) → ((j ≡ id) × (w ≡ u)) ⊎ ((j ≢ id) × (get_elem? s.views j ≡ some u))
        → Shows u (seat_at core.seats j)
    shown j u (inl (e, f)) = subst (λ k. Shows u (seat_at core.seats k)) (sym e) (subst (λ x. Shows x (seat_at core.seats id)) f shows)
    shown j u (inr (e, f)) = subst (Shows u) (sym (kept j e)) (board.shown j u f)

    each :
        (j : ℕ) (u : View) → ((j ≡ id) × (w ≡ u)) ⊎ ((j ≢ id) × (get_elem? s.views j ≡ some u))
        → IsView key core.stop (folded_number key.start core.front) u
    each j u (inl (e, f)) = subst (IsView key core.stop (folded_number key.start core.front)) f view
    each j u (inr (e, f)) = others j u e f

-- the same where the view and the seat change alike, and no number is drawn
pub moved_alike :
    (lists : List (List Answer)) (key : Key) (s : State (Option Front) View) (board : IsBoard lists key s)
    (id : ℕ) (v w : View) (core : Core) (words : List ℕ) (homes : List (maybe.Option (Option Front)))
    → get_elem? s.views id ≡ some v → v.seat.live ≡ true → w.seat.live ≡ true
    → IsCore key.start (list_at lists key.which) core
    → core.seats ≡ set board.core.seats id w.seat
    → core.claim ≡ board.core.claim
    → words ≡ core.claim ∷ core.lock ∷ core.stop ∷ core.cells
    → (core.lock % 2 ≡ 0 → homes ≡ some (Some core.front) ∷ [])
    → (core.lock % 2 ≡ 1 → homes ≡ none ∷ [])
    → IsView key core.stop (folded_number key.start core.front) w
    → ((j : ℕ) (u : View) → j ≢ id → get_elem? s.views j ≡ some u
    → IsView key core.stop (folded_number key.start core.front) u)
    → w.spare ≡ v.spare → w.merged ≡ v.merged → w.points ≡ v.points
    → IsBoard lists key (record { words = words; homes = homes; views = set s.views id w })
moved_alike lists key s board id v w core words homes at live lives is seats claim same home away view others spare merged points =
    moved lists key s board id v w core words homes at is wide same home away kept shows view others spare merged total
  where
    within : id < length board.core.seats
    within = live_within board.core.seats id (ap (λ x. x.live) (seat_of lists key s board id v at live) ∙ live)

    wide : length core.seats ≡ 65
    wide = ap length seats ∙ length-set board.core.seats id w.seat ∙ board.seats

    kept : (j : ℕ) → j ≢ id → seat_at core.seats j ≡ seat_at board.core.seats j
    kept j differ =
        ap (λ l. seat_at l j) seats ∙ get_or-set_other board.core.seats id j w.seat unmade differ

    shows : Shows w (seat_at core.seats id)
    shows = record {
      live = λ l. ap (λ l. seat_at l id) seats ∙ get_or-set_same board.core.seats id w.seat unmade within;
      dead = λ d. absurd (not_both w.seat.live lives d);
    }

    total : sum_by (λ u. u.points) (set s.views id w) ≡ min core.claim (length (list_at lists key.which))
    total =
        let sum : sum_by (λ u. u.points) (set s.views id w) ≡ sum_by (λ u. u.points) s.views =
        omega (arith, sum-changed (λ u. u.points) s.views id v w at, points) in
        sum ∙ board.points ∙ ap (λ n. min n (length (list_at lists key.which))) (sym claim)

-- a seat that didn't change
pub same_seat :
    (lists : List (List Answer)) (key : Key) (s : State (Option Front) View) (board : IsBoard lists key s)
    (id : ℕ) (v : View) → get_elem? s.views id ≡ some v → v.seat.live ≡ true
    → board.core.seats ≡ set board.core.seats id v.seat
same_seat lists key s board id v at live =
    sym (ap (set board.core.seats id) (sym (seat_of lists key s board id v at live)) ∙ set-get_or board.core.seats id unmade)

-- a live seat has a live view, which counts as a pass
live_view :
    (lists : List (List Answer)) (key : Key) (s : State (Option Front) View) (board : IsBoard lists key s)
    (j : ℕ) → (seat_at board.core.seats j).live ≡ true
    → (u : View) × (get_elem? s.views j ≡ some u) × (u.seat.live ≡ true)
live_view lists key s board j live = by_place (cases_lt j (length s.views))
  where
    by_place :
        (j < length s.views) ⊎ (length s.views ≤ j)
        → (u : View) × (get_elem? s.views j ≡ some u) × (u.seat.live ≡ true)
    by_place (inr past) =
        absurd (not_both (seat_at board.core.seats j).made ((board.is.each j).made live) (board.fresh j past))
    by_place (inl below) =
        let (u, at) = there s.views j below in
        (u, at, by_live u at (cases_Bool u.seat.live))
      where
        by_live :
            (u : View) → get_elem? s.views j ≡ some u
            → (u.seat.live ≡ true) ⊎ (u.seat.live ≡ false) → u.seat.live ≡ true
        by_live u at (inl lives) = lives
        by_live u at (inr dead) =
            absurd (not_both (seat_at board.core.seats j).live live ((board.shown j u at).dead dead))

-- where one pass is left, every live seat is its own
pub alone_live :
    (lists : List (List Answer)) (key : Key) (s : State (Option Front) View) (board : IsBoard lists key s)
    (id : ℕ) (v : View) → get_elem? s.views id ≡ some v → IsAlone v
    → (j : ℕ) → (seat_at board.core.seats j).live ≡ true → j ≡ id
alone_live lists key s board id v at alone j live = by_place (cases_eq j id)
  where
    by_place : (j ≡ id) ⊎ (j ≢ id) → j ≡ id
    by_place (inl e) = e
    by_place (inr differ) =
        let (u, seen, lives) = live_view lists key s board j live in
        let spent : View = record v { spare = 0; merged = 0 } in
        let here : get_or (set s.views id spent) j u ≡ u =
        get_or-set_other s.views id j spent u differ ∙ (found_at s.views j u u seen).1 in
        let below : j < length (set s.views id spent) =
        omega (arith, length-set s.views id spent, (found_at s.views j u u seen).0) in
        let least : (get_or (set s.views id spent) j u).merged ≤ sum_by (λ x. x.merged) (set s.views id spent) =
        get_or-le-sum_by (λ x. x.merged) (set s.views id spent) j u below in
        let positive : u.merged ≤ sum_by (λ x. x.merged) (set s.views id spent) = rw here at least in
        let spares = sum-changed (λ x. x.spare) s.views id v spent at in
        let merges = sum-changed (λ x. x.merged) s.views id v spent at in
        let is = (board.each j u seen).merged lives in
        absurd (omega (arith, positive, spares, merges, is, board.spares, board.merges, alone))

-- and its last number is the last one drawn
pub alone_next :
    (lists : List (List Answer)) (key : Key) (s : State (Option Front) View) (board : IsBoard lists key s)
    (id : ℕ) (v : View) → get_elem? s.views id ≡ some v → v.seat.live ≡ true → IsAlone v
    → board.core.claim ≡ next_number v.seat.last
alone_next lists key s board id v at live alone = by_claim (cases_eq board.core.claim 0)
  where
    core : Core
    core = board.core

    mine : seat_at core.seats id ≡ v.seat
    mine = seat_of lists key s board id v at live

    fresh : (last : Option ℕ) → v.seat.last ≡ last → core.claim ≡ 0 → core.claim ≡ next_number last
    fresh None e first = first
    fresh (Some n) e first =
        let has : HasLast n (seat_at core.seats id) = subst (λ x. HasLast n x) (sym mine) (live, e) in
        absurd (omega (arith, (board.is.each id).last n has, first))

    by_claim : (core.claim ≡ 0) ⊎ (core.claim ≢ 0) → core.claim ≡ next_number v.seat.last
    by_claim (inl first) = fresh v.seat.last refl first
    by_claim (inr more) =
        let top : core.claim ≡ (core.claim - 1) + 1 = omega (arith, more) in
        let (j, has) = board.is.latest (core.claim - 1) top in
        let e : j ≡ id = alone_live lists key s board id v at alone j has.0 in
        let last : v.seat.last ≡ Some (core.claim - 1) =
        ap (λ x. x.last) (sym mine) ∙ subst (λ k. (seat_at core.seats k).last ≡ Some (core.claim - 1)) e has.1 in
        top ∙ ap next_number (sym last)
