-- The turns of a worker, from what the calls of the board say of them.
use Rattle.std.proofs.Common.{◌≡◌, ◌≢◌, ◌⊎◌, ◌+◌, ◌-◌, ◌<◌, ◌≤◌, ℕ, zero, suc, true, false, Option, Some, None, List, [], ◌∷◌, length, map, get_or, inl, inr, refl, arith, sym, ap, subst, ◌∙◌}
use Rattle.std.specs.List.{slice_get, slice_index_or}
use Rattle.std.specs.Option.{is_some}
use Rattle.std.proofs.lemmas.List.{length-map}
use Rattle.std.proofs.lemmas.Bool.{cases_Bool, cases_lt, lt-ltb, le-ltb}
use Rattle.confidence.specs.declared.answer.Answer.{Answer}
use Rattle.confidence.specs.declared.answer.Answer.TheVariants.{Cycles}
use Rattle.ordered_fold.specs.Front.{is_going, pushed, folded}
use Rattle.ordered_fold.specs.Batch.{fold_from, pushed_number, folded_number, IsBatch}
use Rattle.ordered_fold.specs.declared.ending.Ending.TheVariants.{Going}
use Rattle.ordered_fold.specs.declared.front.Front.{Front}
use Rattle.ordered_fold.proofs.BatchLemmas.{going_of, fold_from-more, whole_fold, pushed_number-pushed, prefix_of}
use Rattle.ordered_fold.proofs.Fronts.{not_both}
use Rattle.ordered_fold.proofs.MachineLemmas.{not_some}
use Rattle.claim_table.specs.declared.claim.Claim.{Claim}
use Rattle.claim_table.specs.declared.claim.Claim.TheVariants.{Point, Past}
use Rattle.claim_table.specs.declared.advance.Advance.{Advance}
use Rattle.claim_table.specs.declared.advance.Advance.TheVariants.{Moved, Busy}
use Rattle.claim_table.specs.declared.rule.View.{View}
use Rattle.claim_table.specs.Board.{list_at, IsAlone}
use Rattle.claim_table.specs.Steps.{answers_of, front_at, next_number, reported_view, looking_view}
use Rattle.claim_table.specs.Shown.{BoardShown, PassShown, IsPassOf}
use Rattle.claim_table.specs.Calls.{Advances, Draws, Ends, claim_of}
use Rattle.workers.specs.Worker.{IsNew, IsOver, GoesOnAt, HasFolded, EndsAfter, Turned, Stopped}

not_over :
    (view : View) → IsOver view → (view.seat.past ≡ false) × (view.seat.seen_end ≡ None) → ⊥
not_over view (inl past) fresh = not_both view.seat.past past fresh.0
not_over view (inr seen) fresh = seen fresh.1

-- a pass that was over before
pub over_before : (lists : List (List Answer)) (view : View) → view.seat.hand ≡ None → IsOver view → Stopped lists view view
over_before lists view hand over = record {
  share = record { hand = hand; spare = refl; merged = refl };
  over = over;
  points = refl;
  alone = λ alone n folded. absurd (not_over view over folded.fresh);
}

-- the fold of a batch goes on before its first answer
goes_on_first :
    (lists : List (List Answer)) (view : View) → IsBatch view.start (answers_of lists view)
    → GoesOnAt lists view 0
unfolding fold_from
goes_on_first lists view batch = ap is_going batch.going

some_folded :
    (lists : List (List Answer)) (view : View) (n : ℕ) → IsBatch view.start (answers_of lists view)
    → is_going (front_at lists view n).ending ≡ false → 0 < n
some_folded lists view zero batch over =
    absurd (not_both _ (goes_on_first lists view batch) over)
some_folded lists view (suc n) batch over = omega arith

-- an end was seen
pub end_seen :
    (lists : List (List Answer)) (old new : View) (count : ℕ) → old.seat.hand ≡ None
    → IsBatch old.start (answers_of lists old) → Ends lists old new (Some count)
    → Stopped lists old new
end_seen lists old new count hand batch ends = record {
  share = record {
    hand = ap (λ v. v.seat.hand) ends.0 ∙ hand;
    spare = ap (λ v. v.spare) ends.0;
    merged = ap (λ v. v.merged) ends.0;
  };
  over = inr (λ e. not_some e (ap (λ v. v.seat.seen_end) ends.0));
  points = ap (λ v. v.points) ends.0;
  alone = λ alone n folded. at n folded (subst (λ m. is_going (front_at lists old m).ending ≡ false) folded.next (ends.2 alone));
}
  where
    at : (n : ℕ) → HasFolded lists old n → is_going (front_at lists old n).ending ≡ false → EndsAfter lists old n
    at n folded over =
        let some = some_folded lists old n batch over in
        record { some = some; before = folded.before some; over = inl over }

-- which number was drawn
drawn_past : (size number drawn : ℕ) → Past drawn ≡ claim_of size number → size ≤ number
drawn_past size number drawn e = by_order (cases_lt number size)
  where
    apart : (m n : ℕ) → ◌≡◌ {A = Claim} (Past m) (Point n) → ⊥
    apart m n e = cc

    by_order : (number < size) ⊎ (size ≤ number) → size ≤ number
    by_order (inl below) =
        let is : Past drawn ≡ Point number = rw (lt-ltb number size below) at e in
        absurd (apart drawn number is)
    by_order (inr past) = past

record IsDrawn (size number point : ℕ) : Type 0 where
  below : number < size
  is : number ≡ point

drawn_point : (size number point : ℕ) → Point point ≡ claim_of size number → IsDrawn size number point
drawn_point size number point e = by_order (cases_lt number size)
  where
    apart : (m n : ℕ) → ◌≡◌ {A = Claim} (Point m) (Past n) → ⊥
    apart m n e = cc

    same : (m n : ℕ) → ◌≡◌ {A = Claim} (Point m) (Point n) → n ≡ m
    same m n e = cc

    by_order : (number < size) ⊎ (size ≤ number) → IsDrawn size number point
    by_order (inl below) =
        let is : Point point ≡ Point number = rw (lt-ltb number size below) at e in
        record { below = below; is = same point number is }
    by_order (inr past) =
        let is : Point point ≡ Past number = rw (le-ltb number size past) at e in
        absurd (apart point number is)

-- the view after a number beyond the last was drawn
pub past_drawn :
    (lists : List (List Answer)) (old looked new : View) (drawn : ℕ) → old.seat.hand ≡ None
    → IsBatch old.start (answers_of lists old) → Ends lists old looked None
    → Draws (length (answers_of lists old)) looked new (Past drawn) → Stopped lists old new
past_drawn lists old looked new drawn hand batch ends draws =
    record {
      share = record {
        hand = ap (λ v. v.seat.hand) view ∙ hand;
        spare = ap (λ v. v.spare) view;
        merged = ap (λ v. v.merged) view;
      };
      over = inl (ap (λ v. v.seat.past) view);
      points = ap (λ v. v.points) view ∙ omega arith;
      alone = λ alone n folded. at n folded (draws.alone (subst IsAlone (sym ends.0) alone) ∙ ap (λ v. next_number v.seat.last) ends.0);
    }
  where
    size : ℕ
    size = length (answers_of lists old)

    past : size ≤ draws.number
    past = drawn_past size draws.number drawn draws.claim_is

    view : new ≡ record old {
      seat = record old.seat { last = Some draws.number; past = true };
      points = old.points + 0;
      steps = old.steps + 1 + 1;
      looked = (looking_view 0 old).looked;
    }
    view = rw (ends.0, le-ltb draws.number size past) at draws.view

    at : (n : ℕ) → HasFolded lists old n → draws.number ≡ next_number old.seat.last → EndsAfter lists old n
    at n folded next =
        let all : n ≡ size = omega (arith, folded.within, folded.next, next, past) in
        let some : 0 < n = omega (arith, all, batch.some) in
        record { some = some; before = folded.before some; over = inr all }

-- the view after a number was drawn and its answer reported
abbrev drawn_and_told : ℕ → View → View
drawn_and_told number old = record old {
  seat = record old.seat { hand = None; last = Some number };
  points = old.points + 1;
  steps = old.steps + 1 + 1 + 1;
  looked = (looking_view 0 old).looked;
}

-- what folding leaves as it was, whatever it finds
record KeepsView (old new : View) : Type 0 where
  seat : new.seat ≡ old.seat
  spare : new.spare ≡ old.spare
  merged : new.merged ≡ old.merged
  points : new.points ≡ old.points
  which : new.which ≡ old.which
  start : new.start ≡ old.start

advance_keeps :
    (lists : List (List Answer)) (old new : View) (advance : Advance) → Advances lists old new advance
    → KeepsView old new
advance_keeps lists old new (Moved ending) moves = record {
  seat = ap (λ v. v.seat) moves.view;
  spare = ap (λ v. v.spare) moves.view;
  merged = ap (λ v. v.merged) moves.view;
  points = ap (λ v. v.points) moves.view;
  which = ap (λ v. v.which) moves.view;
  start = ap (λ v. v.start) moves.view;
}
advance_keeps lists old new (Busy found) (view, odd, alone) = record {
  seat = ap (λ v. v.seat) view;
  spare = ap (λ v. v.spare) view;
  merged = ap (λ v. v.merged) view;
  points = ap (λ v. v.points) view;
  which = ap (λ v. v.which) view;
  start = ap (λ v. v.start) view;
}

-- the only pass left folds what it drew, or announces the end
folds_alone :
    (lists : List (List Answer)) (old new : View) (advance : Advance) → Advances lists old new advance
    → IsAlone old → new.announced ≡ false → GoesOnAt lists old (next_number old.seat.last)
folds_alone lists old new (Moved ending) moves alone untold =
    subst (λ e. is_going e ≡ true) (moves.alone alone) (by_end (cases_Bool (is_going ending)))
  where
    by_end : (is_going ending ≡ true) ⊎ (is_going ending ≡ false) → is_going ending ≡ true
    by_end (inl going) = going
    by_end (inr over) = absurd (not_both new.announced (moves.over over).1 untold)
folds_alone lists old new (Busy found) (view, odd, never) alone untold = absurd (never alone)

same_front :
    (lists : List (List Answer)) (old new : View) (m : ℕ) → KeepsView old new
    → front_at lists new m ≡ front_at lists old m
same_front lists old new m keeps =
    ap (λ which. fold_from new.start (answers_of lists (record old { which = which })) m) keeps.which
    ∙ ap (λ start. fold_from start (answers_of lists old) m) keeps.start

-- a number was drawn, answered, reported and folded
answered :
    (lists : List (List Answer)) (old new : View) (number : ℕ) (advance : Advance)
    → (old.seat.past ≡ false) × (old.seat.seen_end ≡ None) → old.announced ≡ false
    → number < length (answers_of lists old)
    → ((last : ℕ) → old.seat.last ≡ Some last → last < number)
    → (IsAlone old → number ≡ next_number old.seat.last)
    → Advances lists (drawn_and_told number old) new advance → Turned lists old new
answered lists old new number advance fresh untold below later alone advances =
    record {
      share = record {
        hand = ap (λ x. x.hand) keeps.seat;
        spare = keeps.spare;
        merged = keeps.merged;
      };
      points = keeps.points;
      within = subst (λ m. m ≤ size) (sym next) (omega (arith, below));
      later = subst (λ m. next_number old.seat.last < m) (sym next) (by_last old.seat.last later);
      alone = λ is n folded.
          let same : number ≡ n = alone is ∙ folded.next in
          record {
            next = next ∙ ap (λ m. m + 1) same;
            within = subst (λ which. n + 1 ≤ length (answers_of lists (record old { which = which }))) (sym keeps.which) (omega (arith, below, same));
            fresh = (ap (λ x. x.past) keeps.seat ∙ fresh.0, ap (λ x. x.seen_end) keeps.seat ∙ fresh.1);
            before = λ _. subst (GoesOnAt lists new) (one_less n) (goes n (folded.now untold));
            now = λ e. goes (n + 1) (subst (λ m. GoesOnAt lists old (m + 1)) same (folds_alone lists told new advance advances is e));
          };
    }
  where
    size : ℕ
    size = length (answers_of lists old)

    told : View
    told = drawn_and_told number old

    keeps : KeepsView told new
    keeps = advance_keeps lists told new advance advances

    next : next_number new.seat.last ≡ number + 1
    next = ap (λ x. next_number x.last) keeps.seat

    one_less : (m : ℕ) → m ≡ m + 1 - 1
    one_less m = omega arith

    by_last : (o : Option ℕ) → ((last : ℕ) → o ≡ Some last → last < number) → next_number o < number + 1
    by_last None h = omega arith
    by_last (Some last) h = omega (arith, h last refl)

    goes : (m : ℕ) → GoesOnAt lists old m → GoesOnAt lists new m
    goes m on = ap (λ f. is_going f.ending) (same_front lists told new m keeps) ∙ on

-- a number was drawn where no end was told
record IsInHand (size_ : ℕ) (old drawn : View) (number point : ℕ) : Type 0 where
  below : number < size_
  is : number ≡ point
  view : drawn ≡ record old {
    seat = record old.seat { hand = Some number; last = Some number };
    points = old.points + 1;
    steps = old.steps + 1 + 1;
    looked = (looking_view 0 old).looked;
  }

drawn_in_hand :
    (lists : List (List Answer)) (old looked drawn : View) (size point : ℕ)
    → Ends lists old looked None → (draws : Draws size looked drawn (Point point))
    → IsInHand size old drawn draws.number point
drawn_in_hand lists old looked drawn size point ends draws =
    let is = drawn_point size draws.number point draws.claim_is in
    record {
      below = is.below;
      is = is.is;
      view = rw (ends.0, lt-ltb draws.number size is.below) at draws.view;
    }

pub point_answered :
    (lists : List (List Answer)) (old looked drawn reported new : View) (point : ℕ) (advance : Advance)
    → (old.seat.past ≡ false) × (old.seat.seen_end ≡ None)
    → Ends lists old looked None → Draws (length (answers_of lists old)) looked drawn (Point point)
    → reported ≡ reported_view drawn → Advances lists reported new advance → Turned lists old new
point_answered lists old looked drawn reported new point advance fresh ends draws told advances =
    let is = drawn_in_hand lists old looked drawn (length (answers_of lists old)) point ends draws in
    answered lists old new draws.number advance fresh ends.1 is.below
    (λ last e. draws.later last (ap (λ v. v.seat.last) ends.0 ∙ e))
    (λ alone. draws.alone (subst IsAlone (sym ends.0) alone) ∙ ap (λ v. next_number v.seat.last) ends.0)
    (subst (λ v. Advances lists v new advance) (told ∙ ap reported_view is.view) advances)

-- what the board's answers are to one of its passes
pub own_batch :
    (lists : List (List Answer)) (board : BoardShown) (pass : PassShown) → IsPassOf board pass
    → IsBatch board.start (list_at lists board.which)
    → IsBatch pass.view.start (answers_of lists pass.view)
own_batch lists board pass own batch =
    subst (λ which. IsBatch pass.view.start (list_at lists which)) (sym own.which)
    (subst (λ start. IsBatch start (list_at lists board.which)) (sym own.start) batch)

pub own_draws :
    (lists : List (List Answer)) (board : BoardShown) (pass : PassShown) (old new : View) (claim other : Claim)
    → IsPassOf board pass → board.size ≡ length (list_at lists board.which) → claim ≡ other
    → Draws board.size old new claim → Draws (length (answers_of lists pass.view)) old new other
own_draws lists board pass old new claim other own size is draws =
    subst (λ n. Draws n old new other) (size ∙ ap (λ which. length (list_at lists which)) (sym own.which))
    (subst (Draws board.size old new) is draws)

pub is_seen : (o : Option ℕ) → is_some o ≡ true → o ≢ None
is_seen o some none = not_both (is_some o) some (ap is_some none)

pub is_unseen : (o : Option ℕ) → is_some o ≡ false → o ≡ None
is_unseen None unseen = refl
is_unseen (Some n) unseen = absurd (not_both true refl unseen)

pub end_told :
    (lists : List (List Answer)) (old new : View) (end : Option ℕ) → is_some end ≡ true
    → old.seat.hand ≡ None → IsBatch old.start (answers_of lists old) → Ends lists old new end
    → Stopped lists old new
end_told lists old new None some hand batch ends = absurd (is_seen None some refl)
end_told lists old new (Some count) some hand batch ends = end_seen lists old new count hand batch ends

pub no_end :
    (lists : List (List Answer)) (old new : View) (end : Option ℕ) → is_some end ≡ false
    → Ends lists old new end → Ends lists old new None
no_end lists old new None some ends = ends
no_end lists old new (Some count) some ends = absurd (not_both true refl some)

pub answer_at :
    {A : Type 0} (answer : A → Answer) (points : List A) (k : ℕ) (point : A) → k < length points
    → point ≡ slice_index_or points k point → slice_get (map answer points) k ≡ Some (answer point)
answer_at answer [] k point within is = absurd (omega arith)
answer_at answer (first ∷ points) zero point within is = ap (λ p. Some (answer p)) (sym is)
answer_at answer (first ∷ points) (suc k) point within is = answer_at answer points k point (omega arith) is

-- the point drawn is in the hand, and its answer is the board's
pub record IsAnswered (lists : List (List Answer)) (drawn : View) (point : ℕ) (answer : Answer) : Type 0 where
  pub hand : drawn.seat.hand ≡ Some point
  pub answer_is : slice_get (answers_of lists drawn) point ≡ Some answer

pub answered_point :
    {A : Type 0} (lists : List (List Answer)) (board : BoardShown) (pass : PassShown) (looked drawn : View)
    (number : ℕ) (answer : A → Answer) (points : List A) (point : A) → IsPassOf board pass
    → Ends lists pass.view looked None → Draws board.size looked drawn (Point number)
    → board.size ≡ length (list_at lists board.which) → list_at lists board.which ≡ map answer points
    → point ≡ slice_index_or points number point → IsAnswered lists drawn number (answer point)
answered_point lists board pass looked drawn number answer points point own ends draws size list is =
    record {
      hand = ap (λ v. v.seat.hand) in_hand.view ∙ ap Some in_hand.is;
      answer_is = subst (λ answers. slice_get answers number ≡ Some (answer point)) (sym answers)
          (answer_at answer points number point (omega (arith, in_hand.below, in_hand.is, size, ap length list, length-map points answer)) is);
    }
  where
    in_hand : IsInHand board.size pass.view drawn draws.number number
    in_hand = drawn_in_hand lists pass.view looked drawn board.size number ends draws

    answers : answers_of lists drawn ≡ map answer points
    answers = ap (λ v. answers_of lists v) in_hand.view ∙ ap (list_at lists) own.which ∙ list

-- the fold of the whole list took in as many answers as the only pass left reported
pub ends_after :
    (lists : List (List Answer)) (view : View) (n : ℕ) → IsBatch view.start (answers_of lists view)
    → n ≤ length (answers_of lists view) → EndsAfter lists view n
    → n ≡ folded_number view.start (front_at lists view (length (answers_of lists view)))
ends_after lists view n batch within ends =
    subst (λ f. n ≡ folded_number view.start f) (by_end ends.over) (omega (arith, number))
  where
    answers : List Answer
    answers = answers_of lists view

    before : Front
    before = front_at lists view (n - 1)

    one_more : suc (n - 1) ≡ n
    one_more = omega (arith, ends.some)

    is : front_at lists view n ≡ pushed before (get_or answers (n - 1) (Cycles 0))
    is =
        let more : front_at lists view (suc (n - 1)) ≡ folded before (get_or answers (n - 1) (Cycles 0)) =
        fold_from-more view.start answers (n - 1) (omega (arith, within, ends.some)) in
        let goes : folded before (get_or answers (n - 1) (Cycles 0)) ≡ pushed before (get_or answers (n - 1) (Cycles 0)) = rw ends.before refl in
        ap (front_at lists view) (sym one_more) ∙ more ∙ goes

    number : pushed_number (front_at lists view n) ≡ view.start.sums.n + n
    number =
        let going : before.ending ≡ Going = going_of before.ending ends.before in
        let first = (prefix_of view.start answers (n - 1) batch (omega (arith, within))).going going in
        ap pushed_number is ∙ pushed_number-pushed before (get_or answers (n - 1) (Cycles 0)) going ∙ omega (arith, first, ends.some)

    by_end :
        (is_going (front_at lists view n).ending ≡ false) ⊎ (n ≡ length answers)
        → front_at lists view n ≡ front_at lists view (length answers)
    by_end (inl over) = whole_fold view.start answers n over
    by_end (inr all) = ap (front_at lists view) all

-- nothing is folded yet
pub folded_none :
    (lists : List (List Answer)) (view : View) → IsBatch view.start (answers_of lists view) → IsNew view
    → HasFolded lists view 0
folded_none lists view batch new = record {
  next = ap next_number new.last;
  within = omega arith;
  fresh = (new.past, new.unseen);
  before = λ some. absurd (omega (arith, some));
  now = λ _. goes_on_first lists view batch;
}

-- the same of the board's own list
pub alone_number :
    (lists : List (List Answer)) (board : BoardShown) (pass : PassShown) (n size : ℕ) → IsPassOf board pass
    → IsBatch board.start (list_at lists board.which) → length (list_at lists board.which) ≡ size
    → HasFolded lists pass.view n → EndsAfter lists pass.view n
    → n ≡ folded_number board.start (fold_from board.start (list_at lists board.which) size)
alone_number lists board pass n size own batch long folded ends =
    subst (λ m. n ≡ folded_number board.start (fold_from board.start (list_at lists board.which) m)) long
    (subst (λ which. n ≡ folded_number board.start (fold_from board.start (list_at lists which) (length (list_at lists which)))) own.which
    (subst (λ start. n ≡ folded_number start (fold_from start (answers_of lists pass.view) (length (answers_of lists pass.view)))) own.start
    (ends_after lists pass.view n (own_batch lists board pass own batch) folded.within ends)))
