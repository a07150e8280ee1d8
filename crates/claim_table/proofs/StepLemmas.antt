-- The steps of a pass that holds no front keep the rule, and tell what they say.
use Rattle.std.proofs.Common.{◌≡◌, ◌≢◌, ◌⊎◌, ◌+◌, ◌-◌, ◌%◌, ◌^◌, ◌<◌, ◌≤◌, ℕ, suc, true, false, min, Option, Some, None, List, ◌∷◌, length, get_or, set, inl, inr, refl, arith, sym, ap, subst, ◌∙◌, length-set}
use Rattle.std.specs.List.{sum_by, slice_get}
use Rattle.std.proofs.lemmas.Bool.{cases_eq, cases_lt, cases_Bool, lt-ltb, le-ltb}
use Rattle.std.proofs.lemmas.List.{get_or-set_same, get_or-set_other, set-get_or}
use mathlib.Core.Option.{some}
use lib.ListN.{get_elem?}
use Rattle.atomic_table.specs.Table.{State, keeps, Allows}
use Rattle.confidence.specs.declared.answer.Answer.{Answer}
use Rattle.ordered_fold.specs.declared.front.Front.{Front}
use Rattle.ordered_fold.specs.Front.{is_going}
use Rattle.ordered_fold.specs.Cell.{code}
use Rattle.ordered_fold.specs.Batch.{folded_number}
use Rattle.ordered_fold.specs.Machine.{Core, unmade, seat_at, cell_at, code_or_zero, drawing, after_claim, after_report}
use Rattle.ordered_fold.specs.Invariant.{HasLast, HasHand, IsCore}
use Rattle.ordered_fold.proofs.Fronts.{not_both}
use Rattle.ordered_fold.proofs.MachineLemmas.{IsIdle, live_within}
use Rattle.ordered_fold.proofs.EventLemmas.{keeps_claim, keeps_report}
use Rattle.ordered_fold.proofs.SeatLemmas.{keeps_look}
use Rattle.ordered_fold.proofs.RunLemmas.{told_stop}
use Rattle.ordered_fold.proofs.RoomLemmas.{has_room}
use Rattle.claim_table.proofs.DrawnLemmas.{front_of_drawn}
use Rattle.claim_table.specs.declared.rule.Key.{Key}
use Rattle.claim_table.specs.declared.rule.View.{View}
use Rattle.claim_table.specs.Board.{Shows, IsView, IsBoard, IsAlone}
use Rattle.claim_table.specs.Steps.{Holding, answers_of, front_at, next_number, drawn_view, reported_view, looking_view, seeing_view, Claimed, Reported, Looked}
use Rattle.claim_table.proofs.ViewLemmas.{sum-changed, view_key, Comes, on_own_board, seat_of, moved, moved_alike, same_seat, alone_next}

-- the words of a core
pub word_0 :
    (lists : List (List Answer)) (key : Key) (s : State (Option Front) View) (board : IsBoard lists key s)
    → get_or s.words 0 0 ≡ board.core.claim
word_0 lists key s board = ap (λ ws. get_or ws 0 0) board.words

pub word_1 :
    (lists : List (List Answer)) (key : Key) (s : State (Option Front) View) (board : IsBoard lists key s)
    → get_or s.words 1 0 ≡ board.core.lock
word_1 lists key s board = ap (λ ws. get_or ws 1 0) board.words

pub word_2 :
    (lists : List (List Answer)) (key : Key) (s : State (Option Front) View) (board : IsBoard lists key s)
    → get_or s.words 2 0 ≡ board.core.stop
word_2 lists key s board = ap (λ ws. get_or ws 2 0) board.words

cell_place : (k : ℕ) → k + 3 ≡ suc (suc (suc k))
cell_place k = omega arith

pub word_3 :
    (lists : List (List Answer)) (key : Key) (s : State (Option Front) View) (board : IsBoard lists key s)
    (k : ℕ) → get_or s.words (k + 3) 0 ≡ cell_at board.core.cells k
word_3 lists key s board k =
    ap (λ ws. get_or ws (k + 3) 0) board.words
    ∙ ap (λ i. get_or (board.core.claim ∷ board.core.lock ∷ board.core.stop ∷ board.core.cells) i 0) (cell_place k)

pub cell_set :
    (core : Core) (k x : ℕ)
    → set (core.claim ∷ core.lock ∷ core.stop ∷ core.cells) (k + 3) x
    ≡ core.claim ∷ core.lock ∷ core.stop ∷ set core.cells k x
cell_set core k x =
    ap (λ i. set (core.claim ∷ core.lock ∷ core.stop ∷ core.cells) i x) (cell_place k)

-- an idle view's seat is idle
pub idle_seat :
    (lists : List (List Answer)) (key : Key) (s : State (Option Front) View) (board : IsBoard lists key s)
    (id : ℕ) (v : View) → get_elem? s.views id ≡ some v → IsIdle v.seat
    → IsIdle (seat_at board.core.seats id)
idle_seat lists key s board id v at idle =
    subst IsIdle (sym (seat_of lists key s board id v at idle.live)) idle

pub claims :
    (lists : List (List Answer)) (key : Key) (slots id : ℕ) (me : Holding)
    → IsIdle me.0.seat → me.0.seat.past ≡ false → me.0.seat.seen_end ≡ None
    → Allows (IsBoard lists key) slots id me 0 (λ n. (n + 1) % 2 ^ 64) (Claimed lists me)
claims lists key slots id me idle fresh unseen =
    on_own_board lists key slots id me 0 (λ n. (n + 1) % 2 ^ 64) (Claimed lists me) idle.live does
  where
    v : View
    v = me.0

    does :
        (s : State (Option Front) View) → IsBoard lists (view_key v) s → get_elem? s.views id ≡ some v
        → (n : ℕ) × (get_or s.words 0 0 ≡ n)
        × Comes (IsBoard lists (view_key v)) s id me 0 (λ n. (n + 1) % 2 ^ 64) (Claimed lists me) n
    does s board at = (
      core.claim,
      word_0 lists (view_key v) s board,
      (
        w,
        keeps,
        tt,
        kept,
        record {
          view = refl;
          later = λ last e. (board.is.each id).last last (subst (λ x. HasLast last x) (sym mine) (idle.live, e));
          alone = λ alone. alone_next lists (view_key v) s board id v at idle.live alone;
        },
      ),
    )
      where
        core : Core
        core = board.core

        size : ℕ
        size = length (answers_of lists v)

        mine : seat_at core.seats id ≡ v.seat
        mine = seat_of lists (view_key v) s board id v at idle.live

        w : View
        w = drawn_view size core.claim v

        after : Core
        after = after_claim size id (seat_at core.seats id) core

        is : IsCore v.start (answers_of lists v) after
        is = keeps_claim v.start (answers_of lists v) core id board.is
            (idle_seat lists (view_key v) s board id v at idle)
            (ap (λ x. x.past) mine ∙ fresh) (ap (λ x. x.seen_end) mine ∙ unseen)

        wide : length after.seats ≡ 65
        wide = length-set core.seats id (drawing size core.claim (seat_at core.seats id)) ∙ board.seats

        room : core.claim + 1 < 2 ^ 64
        room = (has_room v.start (answers_of lists v) core board.batch board.is (omega (arith, board.seats))).claim

        next : (core.claim + 1) % 2 ^ 64 ≡ core.claim + 1
        next = omega (arith, room)

        words : set s.words 0 ((core.claim + 1) % 2 ^ 64) ≡ after.claim ∷ after.lock ∷ after.stop ∷ after.cells
        words = ap (λ ws. set ws 0 ((core.claim + 1) % 2 ^ 64)) board.words ∙ ap (λ n. n ∷ core.lock ∷ core.stop ∷ core.cells) next

        within : id < length core.seats
        within = live_within core.seats id (ap (λ x. x.live) mine ∙ idle.live)

        shows : Shows w (seat_at after.seats id)
        shows = record {
          live = λ l. get_or-set_same core.seats id (drawing size core.claim (seat_at core.seats id)) unmade within ∙ ap (drawing size core.claim) mine;
          dead = λ d. absurd (not_both w.seat.live (lives (cases_lt core.claim size)) d);
        }
          where
            lives : (core.claim < size) ⊎ (size ≤ core.claim) → w.seat.live ≡ true
            lives (inl below) = rw (lt-ltb core.claim size below) idle.live
            lives (inr past) = rw (le-ltb core.claim size past) idle.live

        was : IsView (view_key v) core.stop (folded_number v.start core.front) v
        was = board.each id v at

        view : IsView (view_key v) core.stop (folded_number v.start core.front) w
        view = record {
          which = λ l. refl;
          start = λ l. refl;
          merged = λ l. was.merged idle.live;
          held = λ l h. absurd (not_both v.seat.holder (holds (cases_lt core.claim size) h) idle.holder);
          told = was.told;
          spent = λ d. absurd (not_both w.seat.live (shows_live (cases_lt core.claim size)) d);
        }
          where
            holds : (core.claim < size) ⊎ (size ≤ core.claim) → w.seat.holder ≡ true → v.seat.holder ≡ true
            holds (inl below) h = rw (lt-ltb core.claim size below) at h
            holds (inr past) h = rw (le-ltb core.claim size past) at h

            shows_live : (core.claim < size) ⊎ (size ≤ core.claim) → w.seat.live ≡ true
            shows_live (inl below) = rw (lt-ltb core.claim size below) idle.live
            shows_live (inr past) = rw (le-ltb core.claim size past) idle.live

        points : sum_by (λ u. u.points) (set s.views id w) ≡ min (core.claim + 1) size
        points = by_order (cases_lt core.claim size)
          where
            by_order : (core.claim < size) ⊎ (size ≤ core.claim) → sum_by (λ u. u.points) (set s.views id w) ≡ min (core.claim + 1) size
            by_order (inl below) =
                let one : w.points ≡ v.points + 1 = rw (lt-ltb core.claim size below) refl in
                omega (arith, board.points, sum-changed (λ u. u.points) s.views id v w at, one, below)
            by_order (inr past) =
                let none : w.points ≡ v.points + 0 = rw (le-ltb core.claim size past) refl in
                omega (arith, board.points, sum-changed (λ u. u.points) s.views id v w at, none, past)

        kept : IsBoard lists (view_key v) (record { words = set s.words 0 ((core.claim + 1) % 2 ^ 64); homes = s.homes; views = set s.views id w })
        kept = moved lists (view_key v) s board id v w after (set s.words 0 ((core.claim + 1) % 2 ^ 64)) s.homes at is wide words board.home board.away
            (λ j differ. get_or-set_other core.seats id j (drawing size core.claim (seat_at core.seats id)) unmade differ)
            shows view (λ j u differ e. board.each j u e) refl refl points

pub reports :
    (lists : List (List Answer)) (key : Key) (slots id : ℕ) (me : Holding) (k : ℕ) (answer : Answer)
    → me.0.seat.live ≡ true → me.0.seat.hand ≡ Some k → me.0.seat.holder ≡ false
    → slice_get (answers_of lists me.0) k ≡ Some answer
    → Allows (IsBoard lists key) slots id me (k + 3) (λ n. code answer) (Reported lists me)
reports lists key slots id me k answer live hand free is_answer =
    on_own_board lists key slots id me (k + 3) (λ n. code answer) (Reported lists me) live does
  where
    v : View
    v = me.0

    does :
        (s : State (Option Front) View) → IsBoard lists (view_key v) s → get_elem? s.views id ≡ some v
        → (n : ℕ) × (get_or s.words (k + 3) 0 ≡ n)
        × Comes (IsBoard lists (view_key v)) s id me (k + 3) (λ n. code answer) (Reported lists me) n
    does s board at =
        (cell_at core.cells k, word_3 lists (view_key v) s board k, (w, keeps, tt, kept, record { view = refl }))
      where
        core : Core
        core = board.core

        mine : seat_at core.seats id ≡ v.seat
        mine = seat_of lists (view_key v) s board id v at live

        w : View
        w = reported_view v

        after : Core
        after = after_report (code_or_zero (slice_get (answers_of lists v) k)) k id (seat_at core.seats id) core

        is : IsCore v.start (answers_of lists v) after
        is = keeps_report v.start (answers_of lists v) core id k board.batch board.is
            (subst (λ x. HasHand k x) (sym mine) (live, hand)) (ap (λ x. x.holder) mine ∙ free)

        words : set s.words (k + 3) (code answer) ≡ after.claim ∷ after.lock ∷ after.stop ∷ after.cells
        words =
            ap (λ ws. set ws (k + 3) (code answer)) board.words ∙ cell_set core k (code answer)
            ∙ ap (λ x. core.claim ∷ core.lock ∷ core.stop ∷ set core.cells k (code_or_zero x)) (sym is_answer)

        was : IsView (view_key v) core.stop (folded_number v.start core.front) v
        was = board.each id v at

        view : IsView (view_key v) core.stop (folded_number v.start core.front) w
        view = record {
          which = λ l. refl;
          start = λ l. refl;
          merged = was.merged;
          held = was.held;
          told = was.told;
          spent = was.spent;
        }

        kept : IsBoard lists (view_key v) (record { words = set s.words (k + 3) (code answer); homes = s.homes; views = set s.views id w })
        kept = moved_alike lists (view_key v) s board id v w after (set s.words (k + 3) (code answer)) s.homes at live live is
            (ap (λ x. set core.seats id (record x { hand = None })) mine) refl words board.home board.away
            view (λ j u differ e. board.each j u e) refl refl refl

-- a load changes no word
pub loaded : (words : List ℕ) (i : ℕ) → set words i (get_or words i 0) ≡ words
loaded words i = set-get_or words i 0

pub looks :
    (lists : List (List Answer)) (key : Key) (slots id : ℕ) (me : Holding)
    → me.0.seat.live ≡ true → me.0.seat.holder ≡ false
    → Allows (IsBoard lists key) slots id me 2 (λ n. n) (Looked lists me)
looks lists key slots id me live free = on_own_board lists key slots id me 2 (λ n. n) (Looked lists me) live does
  where
    v : View
    v = me.0

    does :
        (s : State (Option Front) View) → IsBoard lists (view_key v) s → get_elem? s.views id ≡ some v
        → (n : ℕ) × (get_or s.words 2 0 ≡ n)
        × Comes (IsBoard lists (view_key v)) s id me 2 (λ n. n) (Looked lists me) n
    does s board at = (core.stop, word_2 lists (view_key v) s board, by_stop (cases_eq core.stop 0))
      where
        core : Core
        core = board.core

        mine : seat_at core.seats id ≡ v.seat
        mine = seat_of lists (view_key v) s board id v at live

        was : IsView (view_key v) core.stop (folded_number v.start core.front) v
        was = board.each id v at

        words : set s.words 2 core.stop ≡ core.claim ∷ core.lock ∷ core.stop ∷ core.cells
        words = ap (λ ws. set ws 2 core.stop) board.words

        view : (w : View) → w.which ≡ v.which → w.start ≡ v.start → w.merged ≡ v.merged → w.held ≡ v.held → w.announced ≡ v.announced → w.seat.live ≡ v.seat.live → w.seat.holder ≡ v.seat.holder
            → IsView (view_key v) core.stop (folded_number v.start core.front) w
        view w which start merged held announced lives holder = record {
          which = λ l. which;
          start = λ l. start;
          merged = λ l. subst (λ n. 0 < n) (sym merged) (was.merged live);
          held = λ l h. held ∙ was.held live (sym holder ∙ h);
          told = λ a. was.told (sym announced ∙ a);
          spent = λ d. absurd (not_both w.seat.live (lives ∙ live) d);
        }

        by_stop :
            (core.stop ≡ 0) ⊎ (core.stop ≢ 0)
            → Comes (IsBoard lists (view_key v)) s id me 2 (λ n. n) (Looked lists me) core.stop
        by_stop (inl no_end) = (
          looking_view 0 v,
          keeps,
          tt,
          moved_alike lists (view_key v) s board id v (looking_view 0 v) core (set s.words 2 core.stop) s.homes at live live board.is
              (same_seat lists (view_key v) s board id v at live) refl words board.home board.away
              (view (looking_view 0 v) refl refl refl refl refl refl refl) (λ j u differ e. board.each j u e) refl refl refl,
          record {
            none = λ e. refl;
            told = λ e. untold (cases_Bool v.announced);
            end = λ e. absurd (e no_end);
            most = omega (arith, no_end);
            count = λ e. absurd (e no_end);
            alone = λ e. absurd (e no_end);
          },
        )
          where
            untold : (v.announced ≡ true) ⊎ (v.announced ≡ false) → v.announced ≡ false
            untold (inl told) = absurd (omega (arith, was.told told, no_end))
            untold (inr not_told) = not_told
        by_stop (inr some_end) = (
          seeing_view core.stop v,
          keeps,
          tt,
          moved_alike lists (view_key v) s board id v (seeing_view core.stop v) after (set s.words 2 core.stop) s.homes at live live is
              (ap (λ x. set core.seats id (record x { seen_end = Some (core.stop - 1) })) mine) refl words board.home board.away
              (view (seeing_view core.stop v) refl refl refl refl refl refl refl) (λ j u differ e. board.each j u e) refl refl refl,
          record {
            none = λ e. absurd (some_end e);
            told = λ e. absurd (some_end e);
            end = λ e. refl;
            most = (has_room v.start (answers_of lists v) core board.batch board.is (omega (arith, board.seats))).stop;
            count = λ e. (told_stop v.start (answers_of lists v) core board.is some_end).0;
            alone = λ e alone. ended alone;
          },
        )
          where
            after : Core
            after = record core { seats = set core.seats id (record (seat_at core.seats id) { seen_end = Some (core.stop - 1) }) }

            is : IsCore v.start (answers_of lists v) after
            is = keeps_look v.start (answers_of lists v) core id board.is
                (ap (λ x. x.live) mine ∙ live) (ap (λ x. x.holder) mine ∙ free) some_end

            ended : IsAlone v → is_going (front_at lists v (next_number v.seat.last)).ending ≡ false
            ended alone =
                let over : is_going core.front.ending ≡ false = (told_stop v.start (answers_of lists v) core board.is some_end).1 in
                subst (λ m. is_going (front_at lists v m).ending ≡ false)
                (alone_next lists (view_key v) s board id v at live alone)
                (subst (λ f. is_going f.ending ≡ false) (front_of_drawn v.start (answers_of lists v) core board.is over) over)
