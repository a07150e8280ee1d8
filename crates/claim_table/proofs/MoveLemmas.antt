-- What a pass's whole turn with the front comes to.
use Rattle.std.proofs.Common.{◌≡◌, ◌⊎◌, ◌+◌, ◌-◌, ◌≤◌, ◌||◌, not, ℕ, Bool, true, false, List, length, inl, inr, refl, arith, sym, ap, subst, ◌∙◌}
use Rattle.std.proofs.lemmas.Bool.{cases_Bool}
use Rattle.confidence.specs.declared.answer.Answer.{Answer}
use Rattle.ordered_fold.specs.declared.front.Front.{Front}
use Rattle.ordered_fold.specs.declared.seat.Seat.{Seat}
use Rattle.ordered_fold.specs.Front.{is_going}
use Rattle.ordered_fold.proofs.BatchLemmas.{fold_from-over, fold_from-all, whole_fold}
use Rattle.claim_table.specs.declared.rule.View.{View}
use Rattle.claim_table.specs.Board.{IsAlone}
use Rattle.claim_table.specs.Steps.{answers_of, front_at, next_number, note, holding_view, released_view}
use Rattle.claim_table.specs.Calls.{FoldsCells, Waits, HasAll, Moves, folded_view}

-- the views of a turn, from one after the other: taken, folded, announced, given back
pub record IsTurn (lists : List (List Answer)) (old taken folded told : View) (front : Front) (n : ℕ) (announced : Bool) : Type 0 where
  pub free : old.seat.holder ≡ false
  pub takes : taken ≡ holding_view n old
  pub folds : FoldsCells lists taken folded front
  pub tells : told ≡ record folded { announced = announced; steps = told.steps }
  pub later : folded.steps ≤ told.steps
  pub said : announced ≡ (old.announced || not (is_going front.ending))
  pub front_is : front ≡ front_at lists told told.held
  pub within : told.held ≤ length (answers_of lists told)
  pub drawn : IsAlone told → told.held ≤ next_number told.seat.last

pub turns :
    (lists : List (List Answer)) (old taken folded told : View) (front : Front) (n : ℕ) (announced : Bool)
    → IsTurn lists old taken folded told front n announced
    → Moves lists old (released_view told) front.ending
turns lists old taken folded told front n announced is = record {
  view = view;
  later = omega (arith, steps, is.folds.later, is.later);
  kept = λ was. told_announced ∙ is.said ∙ ap (λ b. b || not (is_going front.ending)) was;
  front = ap (λ f. f.ending) at_old;
  within = omega (arith, is.within, ap (λ w. length (answers_of lists w)) batch);
  going = λ goes. by_going (is.folds.going goes);
  over = λ over. (ap (λ f. f.ending) (whole over), told_announced ∙ is.said ∙ ap (λ b. old.announced || not b) over ∙ or_true old.announced);
  alone = λ alone. by_ending alone (cases_Bool (is_going front.ending));
}
  where
    held_folded : View
    held_folded = record (holding_view n old) { held = folded.held; steps = folded.steps; glanced = folded.glanced }

    folded_is : folded ≡ held_folded
    folded_is = is.folds.view ∙ ap {B = View} (λ v. record v { held = folded.held; steps = folded.steps; glanced = folded.glanced }) is.takes

    told_is : told ≡ record held_folded { announced = announced; steps = told.steps }
    told_is = is.tells ∙ ap {B = View} (λ v. record v { announced = announced; steps = told.steps }) folded_is

    told_announced : told.announced ≡ announced
    told_announced = ap (λ v. v.announced) told_is

    same_seat : (record old.seat { holder = false }) ≡ old.seat
    same_seat = ap {B = Seat} (λ h. record old.seat { holder = h }) (sym is.free)

    after : View
    after = record old {
      seat = record old.seat { holder = false };
      held = folded.held;
      announced = announced;
      steps = told.steps + 1;
      tried = note (old.steps + 1) 1 n;
      glanced = folded.glanced;
    }

    released : released_view told ≡ after
    released = ap released_view told_is

    view : released_view told ≡ folded_view old (released_view told)
    view =
        subst (λ v. v ≡ folded_view old v) (sym released)
        (ap {B = View} (λ s. record after { seat = s }) same_seat)

    steps : taken.steps ≡ old.steps + 1
    steps = ap (λ v. v.steps) is.takes

    batch : record told { seat = old.seat; held = 0; spare = 0; merged = 0; points = 0; announced = false; steps = 0; tried = old.tried; glanced = old.glanced; looked = old.looked } ≡ record old { seat = old.seat; held = 0; spare = 0; merged = 0; points = 0; announced = false; steps = 0; tried = old.tried; glanced = old.glanced; looked = old.looked }
    batch = ap {B = View} (λ v. record v { seat = old.seat; held = 0; spare = 0; merged = 0; points = 0; announced = false; steps = 0; tried = old.tried; glanced = old.glanced; looked = old.looked }) told_is

    held : told.held ≡ folded.held
    held = ap (λ v. v.held) told_is

    at_old : front ≡ front_at lists old told.held
    at_old = is.front_is ∙ ap (λ v. front_at lists v told.held) batch

    long : length (answers_of lists taken) ≡ length (answers_of lists old)
    long = ap (λ v. length (answers_of lists v)) is.takes

    by_going :
        Waits lists taken folded ⊎ HasAll lists taken folded
        → Waits lists old (released_view told) ⊎ HasAll lists old (released_view told)
    by_going (inr all) = inr (held ∙ all ∙ long)
    by_going (inl waits) = inl (record {
      m = waits.m;
      step = waits.step;
      later = omega (arith, waits.later, steps);
      found = ap (λ v. v.glanced) told_is ∙ waits.found;
      within = omega (arith, waits.within, long);
      held = held ∙ waits.held;
    })

    whole : is_going front.ending ≡ false → front ≡ front_at lists old (length (answers_of lists old))
    whole over =
        at_old ∙ whole_fold old.start (answers_of lists old) told.held (ap (λ f. is_going f.ending) (sym at_old) ∙ over)

    or_true : (b : Bool) → (b || true) ≡ true
    or_true true = refl
    or_true false = refl

    next : ℕ
    next = next_number old.seat.last

    reaches : IsAlone old → told.held ≤ next
    reaches alone =
        let spare : told.spare ≡ old.spare = ap (λ v. v.spare) told_is in
        let merged : told.merged ≡ old.merged = ap (λ v. v.merged) told_is in
        let last : next_number told.seat.last ≡ next = ap (λ v. next_number v.seat.last) told_is in
        omega (arith, is.drawn (omega (arith, spare, merged, alone)), last)

    alone_taken : IsAlone old → IsAlone taken
    alone_taken alone = subst (λ v. IsAlone v) (sym is.takes) alone

    by_ending :
        IsAlone old → (is_going front.ending ≡ true) ⊎ (is_going front.ending ≡ false)
        → front.ending ≡ (front_at lists old next).ending
    by_ending alone (inr over) =
        let sum : told.held + (next - told.held) ≡ next = omega (arith, reaches alone) in
        ap (λ f. f.ending) (at_old ∙ sym (rw sum at (fold_from-over old.start (answers_of lists old) told.held (next - told.held) (ap (λ f. is_going f.ending) (sym at_old) ∙ over))))
    by_ending alone (inl goes) = ap (λ f. f.ending) (at_old ∙ by_cell (is.folds.alone (alone_taken alone) goes))
      where
        by_cell :
            (next_number taken.seat.last ≤ folded.held) ⊎ HasAll lists taken folded
            → front_at lists old told.held ≡ front_at lists old next
        by_cell (inl least) =
            let last : next_number taken.seat.last ≡ next = ap (λ v. next_number v.seat.last) is.takes in
            let same : told.held ≡ next = omega (arith, least, last, held, reaches alone) in
            ap (front_at lists old) same
        by_cell (inr all) =
            let size : told.held ≡ length (answers_of lists old) = held ∙ all ∙ long in
            ap (front_at lists old) size
            ∙ sym (fold_from-all old.start (answers_of lists old) next (omega (arith, reaches alone, size)))
