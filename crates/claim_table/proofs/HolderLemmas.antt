-- The steps of the pass that holds the front keep the rule.
use Rattle.std.proofs.Common.{◌≡◌, ◌≢◌, ◌⊎◌, ◌+◌, ◌-◌, ◌*◌, ◌%◌, ◌<◌, ◌≤◌, ℕ, true, false, Option, Some, None, List, [], ◌∷◌, length, get_or, set, inl, inr, refl, arith, sym, ap, subst, ◌∙◌}
use Rattle.std.proofs.lemmas.Bool.{cases_eq, cases_lt}
use mathlib.Core.Option.{some}
use lib.ListN.{get_elem?}
use Rattle.atomic_table.specs.Table.{State, keeps, gives, Allows, homes_after}
use Rattle.confidence.specs.declared.answer.Answer.{Answer}
use Rattle.ordered_fold.specs.declared.front.Front.{Front}
use Rattle.ordered_fold.specs.Front.{is_going, pushed}
use Rattle.ordered_fold.specs.Cell.{answer_of}
use Rattle.ordered_fold.specs.Batch.{pushed_number, folded_number}
use Rattle.ordered_fold.specs.Machine.{Core, seat_at, cell_at, after_announce, after_release}
use Rattle.ordered_fold.specs.Invariant.{IsCore}
use Rattle.ordered_fold.proofs.Fronts.{not_both}
use Rattle.ordered_fold.proofs.BatchLemmas.{going_of}
use Rattle.ordered_fold.proofs.MachineLemmas.{not_some}
use Rattle.ordered_fold.proofs.FrontLemmas.{keeps_release, keeps_announce, keeps_push, glanced_of, folds_next, FoldsNext, folded_within, going_count}
use Rattle.ordered_fold.proofs.RoomLemmas.{holds_valid}
use Rattle.claim_table.specs.declared.rule.Key.{Key}
use Rattle.claim_table.specs.declared.rule.View.{View}
use Rattle.claim_table.specs.Board.{IsView, IsBoard, IsAlone}
use Rattle.claim_table.specs.Steps.{Holding, answers_of, front_at, next_number, glanced_view, told_view, released_view, Glanced, Announced, Released}
use Rattle.claim_table.proofs.ViewLemmas.{view_key, Comes, on_own_board, seat_of, moved_alike, same_seat, alone_live, alone_next}
use Rattle.claim_table.proofs.StepLemmas.{word_1, word_2, word_3, loaded}
use Rattle.claim_table.proofs.LockLemmas.{prefix_at, core_count}

-- what a board is to the pass that holds its front
record Holds (lists : List (List Answer)) (s : State (Option Front) View) (v : View) (core : Core) (id : ℕ) : Type 0 where
  seat : seat_at core.seats id ≡ v.seat
  holder : (seat_at core.seats id).holder ≡ true
  hand : v.seat.hand ≡ None
  odd : core.lock % 2 ≡ 1
  held : v.held ≡ folded_number v.start core.front
  front : core.front ≡ front_at lists v v.held

holds :
    (lists : List (List Answer)) (s : State (Option Front) View) (id : ℕ) (v : View)
    (board : IsBoard lists (view_key v) s) → get_elem? s.views id ≡ some v
    → v.seat.live ≡ true → v.seat.holder ≡ true → Holds lists s v board.core id
holds lists s id v board at live holder =
    let mine : seat_at board.core.seats id ≡ v.seat = seat_of lists (view_key v) s board id v at live in
    let here : (seat_at board.core.seats id).holder ≡ true = ap (λ x. x.holder) mine ∙ holder in
    let held : v.held ≡ folded_number v.start board.core.front = (board.each id v at).held live holder in
    record {
      seat = mine;
      holder = here;
      hand = ap (λ x. x.hand) (sym mine) ∙ ((board.is.each id).holder here).0;
      odd = ((board.is.each id).holder here).1;
      held = held;
      front = board.is.front ∙ ap (front_at lists v) (sym held);
    }

-- no other pass holds
other_free :
    (lists : List (List Answer)) (s : State (Option Front) View) (id : ℕ) (v : View)
    (board : IsBoard lists (view_key v) s) → Holds lists s v board.core id
    → (j : ℕ) (u : View) → j ≢ id → get_elem? s.views j ≡ some u → u.seat.live ≡ true
    → u.seat.holder ≡ true → ⊥
other_free lists s id v board is j u differ at live holder =
    let other : (seat_at board.core.seats j).holder ≡ true =
    ap (λ x. x.holder) (seat_of lists (view_key v) s board j u at live) ∙ holder in
    differ (board.is.one_holder j id other is.holder)

pub glances :
    (lists : List (List Answer)) (key : Key) (slots id : ℕ) (me : Holding)
    → me.0.seat.live ≡ true → me.0.seat.holder ≡ true
    → is_going (front_at lists me.0 me.0.held).ending ≡ true
    → me.0.held < length (answers_of lists me.0)
    → Allows (IsBoard lists key) slots id me (me.0.held + 3) (λ n. n) (Glanced lists me)
glances lists key slots id me live holder goes below =
    on_own_board lists key slots id me (me.0.held + 3) (λ n. n) (Glanced lists me) live does
  where
    v : View
    v = me.0

    does :
        (s : State (Option Front) View) → IsBoard lists (view_key v) s → get_elem? s.views id ≡ some v
        → (n : ℕ) × (get_or s.words (v.held + 3) 0 ≡ n)
        × Comes (IsBoard lists (view_key v)) s id me (v.held + 3) (λ n. n) (Glanced lists me) n
    does s board at =
        (word, found, by_cell (cases_eq word 0))
      where
        core : Core
        core = board.core

        m : ℕ
        m = folded_number v.start core.front

        word : ℕ
        word = cell_at core.cells v.held

        found : get_or s.words (v.held + 3) 0 ≡ word
        found = word_3 lists (view_key v) s board v.held

        is : Holds lists s v core id
        is = holds lists s id v board at live holder

        was : IsView (view_key v) core.stop m v
        was = board.each id v at

        words : set s.words (v.held + 3) word ≡ core.claim ∷ core.lock ∷ core.stop ∷ core.cells
        words = ap (set s.words (v.held + 3)) (sym found) ∙ loaded s.words (v.held + 3) ∙ board.words

        by_cell :
            (word ≡ 0) ⊎ (word ≢ 0)
            → Comes (IsBoard lists (view_key v)) s id me (v.held + 3) (λ n. n) (Glanced lists me) word
        by_cell (inl bare) = (
          glanced_view v.held 0 v,
          keeps,
          tt,
          moved_alike lists (view_key v) s board id v (glanced_view v.held 0 v) core (set s.words (v.held + 3) word) s.homes at live live board.is
              (same_seat lists (view_key v) s board id v at live) refl words board.home board.away
              view (λ j u differ e. board.each j u e) refl refl refl,
          record {
            empty = λ e. refl;
            alone = λ e alone. all_drawn alone;
            full = λ e. absurd (e bare);
            drawn = λ e. absurd (e bare);
            valid = λ e. absurd (e bare);
            next = λ e. absurd (e bare);
            sound = λ e. absurd (e bare);
            count = λ e. absurd (e bare);
          },
        )
          where
            view : IsView (view_key v) core.stop m (glanced_view v.held 0 v)
            view = record {
              which = λ l. refl;
              start = λ l. refl;
              merged = was.merged;
              held = was.held;
              told = was.told;
              spent = was.spent;
            }

            -- an empty cell of a number that was drawn is in some hand, and this pass's is empty
            all_drawn : IsAlone v → next_number v.seat.last ≤ v.held
            all_drawn alone = by_order (cases_lt v.held core.claim)
              where
                by_order : (v.held < core.claim) ⊎ (core.claim ≤ v.held) → next_number v.seat.last ≤ v.held
                by_order (inr past) = omega (arith, past, alone_next lists (view_key v) s board id v at live alone)
                by_order (inl drawn) =
                    let (j, has) = board.is.drawn v.held drawn below bare in
                    let e : j ≡ id = alone_live lists (view_key v) s board id v at alone j has.0 in
                    let here : (seat_at core.seats id).hand ≡ Some v.held = subst (λ k. (seat_at core.seats k).hand ≡ Some v.held) e has.1 in
                    absurd (not_some (ap (λ x. x.hand) is.seat ∙ is.hand) here)
        by_cell (inr filled) = (
          glanced_view (v.held + 1) word v,
          keeps,
          tt,
          moved_alike lists (view_key v) s board id v (glanced_view (v.held + 1) word v) after (set s.words (v.held + 3) word) s.homes at live live pushes
              (same_seat lists (view_key v) s board id v at live) refl words
              (λ e. absurd (omega (arith, e, is.odd))) board.away
              view others refl refl refl,
          record {
            empty = λ e. absurd (filled e);
            alone = λ e. absurd (filled e);
            full = λ e. refl;
            drawn = λ e alone. omega (arith, (board.is.code v.held filled).0, alone_next lists (view_key v) s board id v at live alone);
            valid = λ e. holds_valid v.start (answers_of lists v) core v.held board.batch board.is filled;
            next = λ e. next;
            sound = λ e. (prefix_at lists v (v.held + 1) board.batch (omega (arith, below))).sound;
            count = λ e. counted;
          },
        )
          where
            going : is_going core.front.ending ≡ true
            going = subst (λ f. is_going f.ending ≡ true) (sym is.front) goes

            counts : core.front.sums.n ≡ v.start.sums.n + m
            counts = going_count v.start (answers_of lists v) core board.batch board.is (going_of core.front.ending going)
                (folded_within v.start (answers_of lists v) core board.batch board.is)

            place : core.front.sums.n - v.start.sums.n ≡ v.held
            place = omega (arith, counts, is.held)

            more : core.front.sums.n < v.start.sums.n + length (answers_of lists v)
            more = omega (arith, counts, is.held, below)

            full : cell_at core.cells (core.front.sums.n - v.start.sums.n) ≢ 0
            full e = filled (ap (cell_at core.cells) (sym place) ∙ e)

            after : Core
            after = record core { front = glanced_of v.start core }

            pushes : IsCore v.start (answers_of lists v) after
            pushes = keeps_push v.start (answers_of lists v) core id board.batch board.is is.holder going more full

            folds : FoldsNext v.start (answers_of lists v) core (glanced_of v.start core)
            folds = folds_next v.start (answers_of lists v) core board.batch board.is going more full

            number : v.held + 1 ≡ folded_number v.start (glanced_of v.start core)
            number = ap (λ k. k + 1) is.held ∙ sym folds.number

            next : front_at lists v (v.held + 1) ≡ pushed (front_at lists v v.held) (answer_of word)
            next =
                ap (front_at lists v) (ap (λ k. k + 1) is.held) ∙ sym folds.next
                ∙ ap (λ f. pushed f (answer_of (cell_at core.cells (core.front.sums.n - v.start.sums.n)))) is.front
                ∙ ap (λ k. pushed (front_at lists v v.held) (answer_of (cell_at core.cells k))) place

            counted : pushed_number (front_at lists v (v.held + 1)) ≡ v.start.sums.n + (v.held + 1)
            counted =
                ap pushed_number (ap (front_at lists v) (ap (λ k. k + 1) is.held) ∙ sym folds.next)
                ∙ core_count v.start (answers_of lists v) after board.batch pushes
                ∙ ap (λ k. v.start.sums.n + k) (sym number)

            view : IsView (view_key v) core.stop (folded_number v.start (glanced_of v.start core)) (glanced_view (v.held + 1) word v)
            view = record {
              which = λ l. refl;
              start = λ l. refl;
              merged = was.merged;
              held = λ l h. number;
              told = was.told;
              spent = was.spent;
            }

            others : (j : ℕ) (u : View) → j ≢ id → get_elem? s.views j ≡ some u → IsView (view_key v) core.stop (folded_number v.start (glanced_of v.start core)) u
            others j u differ e = let old = board.each j u e in record {
              which = old.which;
              start = old.start;
              merged = old.merged;
              held = λ l h. absurd (other_free lists s id v board is j u differ e l h);
              told = old.told;
              spent = old.spent;
            }

pub announces :
    (lists : List (List Answer)) (key : Key) (slots id : ℕ) (me : Holding) (word : ℕ)
    → me.0.seat.live ≡ true → me.0.seat.holder ≡ true
    → is_going (front_at lists me.0 me.0.held).ending ≡ false
    → word ≡ (front_at lists me.0 me.0.held).sums.n + 1
    → Allows (IsBoard lists key) slots id me 2 (λ n. word) (λ n. Announced lists me word)
announces lists key slots id me word live holder over stored =
    on_own_board lists key slots id me 2 (λ n. word) (λ n. Announced lists me word) live does
  where
    v : View
    v = me.0

    does :
        (s : State (Option Front) View) → IsBoard lists (view_key v) s → get_elem? s.views id ≡ some v
        → (n : ℕ) × (get_or s.words 2 0 ≡ n)
        × Comes (IsBoard lists (view_key v)) s id me 2 (λ n. word) (λ n. Announced lists me word) n
    does s board at = (
      core.stop,
      word_2 lists (view_key v) s board,
      (
        told_view v,
        keeps,
        tt,
        moved_alike lists (view_key v) s board id v (told_view v) after (set s.words 2 word) s.homes at live live tells
            (same_seat lists (view_key v) s board id v at live) refl words board.home board.away
            view others refl refl refl,
        record { view = refl },
      ),
    )
      where
        core : Core
        core = board.core

        is : Holds lists s v core id
        is = holds lists s id v board at live holder

        after : Core
        after = after_announce core

        tells : IsCore v.start (answers_of lists v) after
        tells = keeps_announce v.start (answers_of lists v) core board.is (subst (λ f. is_going f.ending ≡ false) (sym is.front) over)

        same : word ≡ core.front.sums.n + 1
        same = stored ∙ ap (λ f. f.sums.n + 1) (sym is.front)

        words : set s.words 2 word ≡ core.claim ∷ core.lock ∷ (core.front.sums.n + 1) ∷ core.cells
        words = ap (λ ws. set ws 2 word) board.words ∙ ap (λ x. core.claim ∷ core.lock ∷ x ∷ core.cells) same

        others : (j : ℕ) (u : View) → j ≢ id → get_elem? s.views j ≡ some u → IsView (view_key v) (core.front.sums.n + 1) (folded_number v.start core.front) u
        others j u differ e = let old = board.each j u e in record {
          which = old.which;
          start = old.start;
          merged = old.merged;
          held = old.held;
          told = λ t. omega arith;
          spent = old.spent;
        }

        view : IsView (view_key v) (core.front.sums.n + 1) (folded_number v.start core.front) (told_view v)
        view = let was = board.each id v at in record {
          which = λ l. refl;
          start = λ l. refl;
          merged = was.merged;
          held = was.held;
          told = λ t. omega arith;
          spent = was.spent;
        }

pub releases :
    (lists : List (List Answer)) (key : Key) (slots id : ℕ) (me : Holding) (word : ℕ)
    → me.0.seat.live ≡ true → me.0.seat.holder ≡ true → word ≡ 2 * me.0.held
    → me.1 ≡ (0, Some (front_at lists me.0 me.0.held)) ∷ []
    → Allows (IsBoard lists key) slots id me 1 (λ n. word) (λ n. Released me word)
releases lists key slots id me word live holder stored carried =
    on_own_board lists key slots id me 1 (λ n. word) (λ n. Released me word) live does
  where
    v : View
    v = me.0

    does :
        (s : State (Option Front) View) → IsBoard lists (view_key v) s → get_elem? s.views id ≡ some v
        → (n : ℕ) × (get_or s.words 1 0 ≡ n)
        × Comes (IsBoard lists (view_key v)) s id me 1 (λ n. word) (λ n. Released me word) n
    does s board at = (
      core.lock,
      word_1 lists (view_key v) s board,
      (
        released_view v,
        gives,
        tt,
        moved_alike lists (view_key v) s board id v (released_view v) after (set s.words 1 word) (homes_after s.homes me.1 gives) at live live frees
            (ap (λ x. set core.seats id (record x { holder = false })) is.seat) refl words
            (λ e. home) (λ o. absurd (omega (arith, o)))
            view (λ j u differ e. board.each j u e) refl refl refl,
        record { view = refl },
      ),
    )
      where
        core : Core
        core = board.core

        m : ℕ
        m = folded_number v.start core.front

        is : Holds lists s v core id
        is = holds lists s id v board at live holder

        after : Core
        after = after_release v.start id (seat_at core.seats id) core

        frees : IsCore v.start (answers_of lists v) after
        frees = keeps_release v.start (answers_of lists v) core id board.is is.holder

        same : word ≡ 2 * m
        same = stored ∙ ap (λ k. 2 * k) is.held

        words : set s.words 1 word ≡ core.claim ∷ (2 * m) ∷ core.stop ∷ core.cells
        words = ap (λ ws. set ws 1 word) board.words ∙ ap (λ x. core.claim ∷ x ∷ core.stop ∷ core.cells) same

        home : homes_after s.homes me.1 gives ≡ some (Some core.front) ∷ []
        home =
            ap (λ c. homes_after s.homes c gives) carried
            ∙ ap (λ hs. set hs 0 (some (Some (front_at lists v v.held)))) (board.away is.odd)
            ∙ ap (λ f. some (Some f) ∷ []) (sym is.front)

        view : IsView (view_key v) core.stop m (released_view v)
        view = let was = board.each id v at in record {
          which = λ l. refl;
          start = λ l. refl;
          merged = was.merged;
          held = λ l h. absurd (not_both false h refl);
          told = was.told;
          spent = was.spent;
        }
