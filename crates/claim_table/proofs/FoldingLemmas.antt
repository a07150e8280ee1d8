-- A pass that takes the front, folds cells and gives it back.
use Rattle.std.proofs.Common.{◌≡◌, ◌≢◌, ◌⊎◌, ◌+◌, ◌-◌, ◌/◌, ◌%◌, ◌<◌, ◌≤◌, ℕ, true, Some, None, List, [], ◌∷◌, length, inl, inr, refl, arith, sym, ap, subst, ◌∙◌}
use Rattle.std.proofs.Math.Arith.{lt_of_le-ne}
use Rattle.std.proofs.lemmas.Bool.{cases_lt}
use Rattle.atomic_table.specs.Table.{rest, Allows}
use Rattle.confidence.specs.declared.answer.Answer.{Answer}
use Rattle.ordered_fold.specs.declared.front.Front.{Front}
use Rattle.ordered_fold.specs.Front.{is_going, pushed}
use Rattle.ordered_fold.specs.Cell.{answer_of}
use Rattle.ordered_fold.specs.Batch.{uncounted}
use Rattle.ordered_fold.proofs.BatchLemmas.{going_of}
use Rattle.claim_table.specs.declared.rule.View.{View}
use Rattle.claim_table.specs.declared.rule.Key.{Key}
use Rattle.claim_table.specs.Board.{IsBoard}
use Rattle.claim_table.proofs.HolderLemmas.{glances}
use Rattle.claim_table.specs.Steps.{Holding, answers_of, front_at, note, glanced_view, Tried, Glanced}
use Rattle.claim_table.specs.Calls.{HasFront, IsAtRest}

-- a number that isn't odd
pub even_of : (n : ℕ) → n % 2 ≢ 1 → n % 2 ≡ 0
even_of n odd = by (cases_lt (n % 2) 1)
  where
    by : (n % 2 < 1) ⊎ (1 ≤ n % 2) → n % 2 ≡ 0
    by (inl less) = omega (arith, less)
    by (inr more) = absurd (odd (omega (arith, more)))

-- after a Try that took the lock
pub taken_slot :
    (lists : List (List Answer)) (me after : Holding) (n : ℕ) → IsAtRest me → Tried lists me n after
    → n % 2 ≡ 0 → after.1 ≡ (0, Some (front_at lists me.0 (n / 2))) ∷ []
taken_slot lists me after n idle tried even =
    ap (λ m. m.1) (tried.got even) ∙ ap (λ l. (0, Some (front_at lists me.0 (n / 2))) ∷ l) idle.slots

-- the front's place in the batch, while it goes on
pub place_of :
    (lists : List (List Answer)) (me : Holding) (front : Front) → HasFront lists me None front
    → is_going front.ending ≡ true → front.sums.n ≡ me.0.start.sums.n + me.0.held
place_of lists me front has goes =
    let none : uncounted front.ending ≡ 0 = ap uncounted (going_of front.ending goes) in
    omega (arith, has.count, none)

-- a Glance at a full cell
pub glanced_front :
    (lists : List (List Answer)) (me after : Holding) (n : ℕ) (front : Front)
    → HasFront lists me None front → me.0.held < length (answers_of lists me.0)
    → Glanced lists me n after → n ≢ 0 → HasFront lists after None (pushed front (answer_of n))
glanced_front lists me after n front has below glanced full =
    subst (λ m. HasFront lists m None (pushed front (answer_of n))) (sym (glanced.full full))
    (subst (λ f. HasFront lists (glanced_view (me.0.held + 1) n me.0, me.1) None f) same
    (record {
      live = has.live;
      holder = has.holder;
      slots = has.slots;
      front_is = refl;
      within = omega (arith, below);
      batch = has.batch;
      sound = glanced.sound full;
      count = glanced.count full;
      drawn = λ alone. glanced.drawn full alone;
    }))
  where
    same : front_at lists me.0 (me.0.held + 1) ≡ pushed front (answer_of n)
    same = glanced.next full ∙ ap (λ f. pushed f (answer_of n)) (sym has.front_is)

pub glances_at :
    (lists : List (List Answer)) (key : Key) (slots id : ℕ) (me : Holding) (front : Front) (place : ℕ)
    → HasFront lists me None front → is_going front.ending ≡ true → place ≡ me.0.held
    → me.0.held < length (answers_of lists me.0)
    → Allows (IsBoard lists key) slots id me (place + 3) (λ n. n) (Glanced lists me)
glances_at lists key slots id me front place has goes same below =
    subst (λ p. Allows (IsBoard lists key) slots id me (p + 3) (λ n. n) (Glanced lists me)) (sym same)
    (glances lists key slots id me has.live has.holder
    (ap (λ f. is_going f.ending) (sym has.front_is) ∙ goes) below)

-- what the fold left of the view, with one more Glance
pub glanced_left :
    (old now after : View) (h n : ℕ)
    → now ≡ record old { held = now.held; steps = now.steps; glanced = now.glanced }
    → after ≡ glanced_view h n now
    → after ≡ record old { held = after.held; steps = after.steps; glanced = after.glanced }
glanced_left old now after h n left same =
    subst (λ v. v ≡ record old { held = v.held; steps = v.steps; glanced = v.glanced }) (sym same)
    (ap {B = View} (λ v. record v { held = h; steps = now.steps + 1; glanced = note (now.steps + 1) now.held n }) left)

-- the front in the slot again
pub put_slot :
    (lists : List (List Answer)) (me after : Holding) (front : Front) → HasFront lists me None front
    → after ≡ (me.0, (0, Some front) ∷ rest me.1)
    → after.1 ≡ (0, Some (front_at lists after.0 after.0.held)) ∷ []
put_slot lists me after front has same =
    subst (λ m. m.1 ≡ (0, Some (front_at lists m.0 m.0.held)) ∷ []) (sym same)
    (ap (λ l. (0, Some front) ∷ rest l) has.slots ∙ ap (λ f. (0, Some f) ∷ []) has.front_is)

-- the place of the next cell, which is one of the batch's
pub record IsNext (lists : List (List Answer)) (me : Holding) (size place : ℕ) : Type 0 where
  pub place_is : place ≡ me.0.held
  pub below : me.0.held < length (answers_of lists me.0)
  pub in_size : place < size

pub next_place :
    (lists : List (List Answer)) (old : View) (me : Holding) (front : Front) (count first size : ℕ)
    → HasFront lists me None front → is_going front.ending ≡ true
    → me.0 ≡ record old { held = me.0.held; steps = me.0.steps; glanced = me.0.glanced }
    → count ≡ front.sums.n → first ≡ old.start.sums.n → size ≡ length (answers_of lists old)
    → count - first ≢ size → IsNext lists me size (count - first)
next_place lists old me front count first size has goes left counts starts sized differ =
    record { place_is = place; below = below; in_size = omega (arith, place, below, long, sized) }
  where
    start : me.0.start.sums.n ≡ old.start.sums.n
    start = ap (λ v. v.start.sums.n) left

    long : length (answers_of lists me.0) ≡ length (answers_of lists old)
    long = ap (λ v. length (answers_of lists v)) left

    counted : front.sums.n ≡ me.0.start.sums.n + me.0.held
    counted = place_of lists me front has goes

    place : count - first ≡ me.0.held
    place = omega (arith, counts, starts, start, counted)

    apart : me.0.held ≢ length (answers_of lists me.0)
    apart e = differ (place ∙ e ∙ long ∙ sym sized)

    below : me.0.held < length (answers_of lists me.0)
    below = lt_of_le-ne has.within apart
