-- The steps of the lock, and those of the pass that holds it, keep the rule.
use Rattle.std.proofs.Common.{◌≡◌, ◌≢◌, ◌⊎◌, ◌+◌, ◌*◌, ◌/◌, ◌%◌, ◌<◌, ◌≤◌, ℕ, true, max, bit_or, Option, Some, List, ◌∷◌, length, get_or, set, inl, inr, refl, arith, sym, ap, subst, ◌∙◌}
use Rattle.std.proofs.lemmas.Bool.{cases_lt}
use mathlib.Core.Option.{none, some}
use lib.ListN.{get_elem?}
use lib.Bits.{or_step, or_zero_r}
use Rattle.atomic_table.specs.Table.{State, keeps, takes, Allows}
use Rattle.confidence.specs.declared.answer.Answer.{Answer}
use Rattle.ordered_fold.specs.declared.front.Front.{Front}
use Rattle.ordered_fold.specs.Front.{IsSound}
use Rattle.ordered_fold.specs.Batch.{pushed_number, folded_number, IsBatch}
use Rattle.ordered_fold.specs.Machine.{Core, seat_at}
use Rattle.ordered_fold.specs.Invariant.{IsCore}
use Rattle.ordered_fold.proofs.Fronts.{not_both}
use Rattle.ordered_fold.proofs.BatchLemmas.{IsPrefix, prefix_of}
use Rattle.ordered_fold.proofs.MachineLemmas.{IsIdle}
use Rattle.ordered_fold.proofs.FrontLemmas.{holder_lives, keeps_try, folded_within}
use Rattle.claim_table.specs.declared.rule.Key.{Key}
use Rattle.claim_table.specs.declared.rule.View.{View}
use Rattle.claim_table.specs.Board.{IsView, IsBoard, IsAlone}
use Rattle.claim_table.specs.Steps.{Holding, answers_of, front_at, next_number, refused_view, holding_view, Tried}
use Rattle.claim_table.proofs.DrawnLemmas.{folded_drawn}
use Rattle.claim_table.proofs.ViewLemmas.{view_key, Comes, on_own_board, seat_of, moved_alike, same_seat, alone_live, alone_next}
use Rattle.claim_table.proofs.StepLemmas.{word_1, idle_seat}

-- a number with its lowest bit set
or_one : (n : ℕ) → bit_or n 1 ≡ n / 2 * 2 + 1
or_one n =
    let half : bit_or (n / 2) 0 ≡ n / 2 = or_zero_r (n / 2) in
    let low : max (n % 2) 1 ≡ 1 = omega arith in
    or_step n 1 ∙ ap (λ h. h * 2 + max (n % 2) 1) half ∙ ap (λ l. n / 2 * 2 + l) low

parity : (n : ℕ) → (n % 2 ≡ 0) ⊎ (n % 2 ≡ 1)
parity n = by (cases_lt (n % 2) 1)
  where
    by : (n % 2 < 1) ⊎ (1 ≤ n % 2) → (n % 2 ≡ 0) ⊎ (n % 2 ≡ 1)
    by (inl less) = inl (omega (arith, less))
    by (inr more) = inr (omega (arith, more))

-- what the fold of m answers keeps
pub prefix_at :
    (lists : List (List Answer)) (v : View) (m : ℕ) → IsBatch v.start (answers_of lists v)
    → m ≤ length (answers_of lists v) → IsPrefix v.start m (front_at lists v m)
prefix_at lists v m batch within = prefix_of v.start (answers_of lists v) m batch within

-- how many answers the front of a core has
pub core_count :
    (start : Front) (answers : List Answer) (core : Core) → IsBatch start answers
    → IsCore start answers core
    → pushed_number core.front ≡ start.sums.n + folded_number start core.front
core_count start answers core batch is =
    let m : ℕ = folded_number start core.front in
    let prefix : IsPrefix start m core.front =
    subst (IsPrefix start m) (sym is.front) (prefix_of start answers m batch (folded_within start answers core batch is)) in
    omega (arith, prefix.least)

pub tries :
    (lists : List (List Answer)) (key : Key) (slots id : ℕ) (me : Holding) → IsIdle me.0.seat
    → Allows (IsBoard lists key) slots id me 1 (λ n. bit_or n 1) (Tried lists me)
tries lists key slots id me idle =
    on_own_board lists key slots id me 1 (λ n. bit_or n 1) (Tried lists me) idle.live does
  where
    v : View
    v = me.0

    does :
        (s : State (Option Front) View) → IsBoard lists (view_key v) s → get_elem? s.views id ≡ some v
        → (n : ℕ) × (get_or s.words 1 0 ≡ n)
        × Comes (IsBoard lists (view_key v)) s id me 1 (λ n. bit_or n 1) (Tried lists me) n
    does s board at = (core.lock, word_1 lists (view_key v) s board, by_parity (parity core.lock))
      where
        core : Core
        core = board.core

        m : ℕ
        m = folded_number v.start core.front

        mine : seat_at core.seats id ≡ v.seat
        mine = seat_of lists (view_key v) s board id v at idle.live

        was : IsView (view_key v) core.stop m v
        was = board.each id v at

        set_lock : (x : ℕ) → set s.words 1 x ≡ core.claim ∷ x ∷ core.stop ∷ core.cells
        set_lock x = ap (λ ws. set ws 1 x) board.words

        within : m ≤ length (answers_of lists v)
        within = folded_within v.start (answers_of lists v) core board.batch board.is

        by_parity :
            (core.lock % 2 ≡ 0) ⊎ (core.lock % 2 ≡ 1)
            → Comes (IsBoard lists (view_key v)) s id me 1 (λ n. bit_or n 1) (Tried lists me) core.lock
        by_parity (inr odd) = (
          refused_view core.lock v,
          keeps,
          tt,
          moved_alike lists (view_key v) s board id v (refused_view core.lock v) core (set s.words 1 (bit_or core.lock 1)) s.homes at idle.live idle.live board.is
              (same_seat lists (view_key v) s board id v at idle.live) refl
              (set_lock (bit_or core.lock 1) ∙ ap (λ x. core.claim ∷ x ∷ core.stop ∷ core.cells) same)
              board.home board.away view (λ j u differ e. board.each j u e) refl refl refl,
          record {
            busy = λ o. refl;
            alone = λ o alone. nobody (board.is.held odd) alone;
            got = λ e. absurd (omega (arith, e, odd));
            drawn = λ e. absurd (omega (arith, e, odd));
            batch = board.batch;
            sound = λ e. absurd (omega (arith, e, odd));
            count = λ e. absurd (omega (arith, e, odd));
          },
        )
          where
            same : bit_or core.lock 1 ≡ core.lock
            same = or_one core.lock ∙ omega (arith, odd)

            nobody : ((j : ℕ) × ((seat_at core.seats j).holder ≡ true)) → IsAlone v → ⊥
            nobody (j, holds) alone =
                let live : (seat_at core.seats j).live ≡ true = holder_lives (seat_at core.seats j) (board.is.each j).dead holds in
                let e : j ≡ id = alone_live lists (view_key v) s board id v at alone j live in
                let here : v.seat.holder ≡ true = ap (λ x. x.holder) (sym mine) ∙ subst (λ k. (seat_at core.seats k).holder ≡ true) e holds in
                not_both v.seat.holder here idle.holder

            view : IsView (view_key v) core.stop m (refused_view core.lock v)
            view = record {
              which = λ l. refl;
              start = λ l. refl;
              merged = was.merged;
              held = was.held;
              told = was.told;
              spent = was.spent;
            }
        by_parity (inl even) = (
          holding_view core.lock v,
          takes 0 (Some core.front),
          there,
          moved_alike lists (view_key v) s board id v (holding_view core.lock v) after (set s.words 1 (bit_or core.lock 1)) (set s.homes 0 none) at idle.live idle.live is
              (ap (λ x. set core.seats id (record x { holder = true })) mine) refl
              (set_lock (bit_or core.lock 1) ∙ ap (λ x. core.claim ∷ x ∷ core.stop ∷ core.cells) next)
              (λ e. absurd (omega (arith, e, even)))
              (λ o. ap (λ hs. set hs 0 none) (board.home even))
              view others refl refl refl,
          record {
            busy = λ o. absurd (omega (arith, o, even));
            alone = λ o. absurd (omega (arith, o, even));
            got = λ e. ap (λ f. (holding_view core.lock v, (0, Some f) ∷ me.1)) (board.is.front ∙ ap (front_at lists v) (sym half));
            drawn = λ e. (subst (λ k. k ≤ length (answers_of lists v)) (sym half) within, λ alone. drawn alone);
            batch = board.batch;
            sound = λ e. subst (λ k. IsSound (front_at lists v k)) (sym half) (prefix_at lists v m board.batch within).sound;
            count = λ e. subst (λ k. pushed_number (front_at lists v k) ≡ v.start.sums.n + k) (sym half) counted;
          },
        )
          where
            half : core.lock / 2 ≡ m
            half = omega (arith, board.is.even even)

            next : bit_or core.lock 1 ≡ core.lock + 1
            next = or_one core.lock ∙ omega (arith, even)

            there : get_elem? s.homes 0 ≡ some (some (Some core.front))
            there = ap (λ hs. get_elem? hs 0) (board.home even)

            after : Core
            after = record core { lock = core.lock + 1; seats = set core.seats id (record (seat_at core.seats id) { holder = true }) }

            is : IsCore v.start (answers_of lists v) after
            is = keeps_try v.start (answers_of lists v) core id board.is (idle_seat lists (view_key v) s board id v at idle) even

            view : IsView (view_key v) core.stop m (holding_view core.lock v)
            view = record {
              which = λ l. refl;
              start = λ l. refl;
              merged = was.merged;
              held = λ l h. half;
              told = was.told;
              spent = was.spent;
            }

            others : (j : ℕ) (u : View) → j ≢ id → get_elem? s.views j ≡ some u → IsView (view_key v) core.stop m u
            others j u differ e = board.each j u e

            drawn : IsAlone v → core.lock / 2 ≤ next_number v.seat.last
            drawn alone =
                omega (arith, half, folded_drawn v.start (answers_of lists v) core board.is, alone_next lists (view_key v) s board id v at idle.live alone)

            counted : pushed_number (front_at lists v m) ≡ v.start.sums.n + m
            counted =
                subst (λ f. pushed_number f ≡ v.start.sums.n + m) board.is.front
                (core_count v.start (answers_of lists v) core board.batch board.is)
