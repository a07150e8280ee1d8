-- Sums over the members of a crew.
use Rattle.std.proofs.Common.{◌≡◌, ◌+◌, ◌<◌, ℕ, zero, suc, List, [], ◌∷◌, ◌++◌, length, take, drop, map, fold, get_or, ◌-◌, true, false, ◌⊎◌, ◌<◌, ◌≤◌, refl, arith, sym, ap, subst, ◌∙◌, ◌≢◌, Option, Some, None, inl, inr}
use Rattle.std.specs.List.{All, sum_by, slice_index_or}
use Rattle.std.specs.Prelude.{IfSome}
use Rattle.std.specs.Option.{option_or, option_to_list}
use Rattle.std.proofs.lemmas.List.{length-append, take-append-le}
use Rattle.std.proofs.Math.Seq.{take-length}
use Rattle.std.proofs.lemmas.List.Elements.{All-pop}
use Rattle.std.proofs.lemmas.List.Sums.{sum_by-cons, sum_by_push}
use Rattle.confidence.specs.declared.answer.Answer.{Answer}
use Rattle.confidence.specs.declared.answer.Answer.TheVariants.{Cycles}
use Rattle.std.proofs.lemmas.Bool.{cases_Bool}
use Rattle.ordered_fold.specs.declared.front.Front.{Front}
use Rattle.ordered_fold.specs.Front.{IsSound, is_going, pushed, folded}
use Rattle.ordered_fold.specs.declared.ending.Ending.TheVariants.{Going}
use Rattle.ordered_fold.specs.Batch.{fold_from, pushed_number, uncounted, folded_number, IsBatch}
use Rattle.ordered_fold.proofs.Folds.{folded-total}
use Rattle.ordered_fold.proofs.Fronts.{not_both}
use Rattle.ordered_fold.proofs.BatchLemmas.{going_of, fold_from-more, fold_from-over, pushed_number-pushed, prefix_of}
use Rattle.claim_table.specs.Board.{list_at}
use Rattle.claim_table.specs.Shown.{BoardShown, PassShown, IsPassOf}
use Rattle.claim_table.specs.Steps.{child_view, joined_view}
use Rattle.claim_table.specs.declared.rule.View.{View}
use Rattle.workers.specs.Worker.{IsOver}
use Rattle.workers.specs.Crew.{Alike, IsCrew, IsFresh, IsBatchRun}

-- lists that agree place by place in what is summed
pub sums_alike :
    {A : Type 0} (f : A → ℕ) (xs ys : List A) → length ys ≡ length xs
    → ((i : ℕ) (d : A) → i < length xs → f (slice_index_or ys i d) ≡ f (slice_index_or xs i d))
    → sum_by f ys ≡ sum_by f xs
sums_alike f [] [] long same = refl
sums_alike f [] (y ∷ ys) long same = absurd (omega (arith, long))
sums_alike f (x ∷ xs) [] long same = absurd (omega (arith, long))
sums_alike f (x ∷ xs) (y ∷ ys) long same =
    let first : f y ≡ f x = same zero x (omega arith) in
    let rest : sum_by f ys ≡ sum_by f xs = sums_alike f xs ys (omega (arith, long)) (λ i d below. same (suc i) d (omega (arith, below))) in
    omega (arith, first, rest, sum_by-cons f x xs, sum_by-cons f y ys)

-- one more at the end
pub sum_pushed :
    {A : Type 0} (f : A → ℕ) (xs ys : List A) (x : A) → ys ≡ xs ++ x ∷ [] → sum_by f ys ≡ sum_by f xs + f x
sum_pushed f xs ys x is = ap (sum_by f) is ∙ sum_by_push f xs x

-- a pass that was split off one that didn't start
pub fresh_child :
    (board : BoardShown) (parent child : PassShown) → IsFresh board parent → IsPassOf board child
    → child.view ≡ child_view parent.view → IsFresh board child
fresh_child board parent child fresh own is = record {
  own = own;
  hand = ap (λ v. v.seat.hand) is;
  new = record {
    last = ap (λ v. v.seat.last) is ∙ fresh.new.last;
    past = ap (λ v. v.seat.past) is ∙ fresh.new.past;
    unseen = ap (λ v. v.seat.seen_end) is ∙ fresh.new.unseen;
    untold = ap (λ v. v.announced) is;
  };
  points = ap (λ v. v.points) is;
}

-- what was popped off the end
pub all_popped :
    {A : Type 0} (P : A → Type 0) (xs ys : List A) (popped : Option A) (x : A)
    → xs ≡ ys ++ option_to_list popped → popped ≡ Some x → All P xs → All P ys × P x
all_popped P xs ys popped x is found all =
    let cut = All-pop P xs ys popped is all in
    (cut.0, subst (λ r. IfSome r P) found cut.1)

pub sum_popped :
    {A : Type 0} (f : A → ℕ) (xs ys : List A) (popped : Option A) (x : A)
    → xs ≡ ys ++ option_to_list popped → popped ≡ Some x → sum_by f xs ≡ sum_by f ys + f x
sum_popped f xs ys popped x is found =
    sum_pushed f ys xs x (is ∙ ap (λ r. ys ++ option_to_list r) found)

-- a pass that takes over what another knows is over where it was, or where the other was
pub over_joined : (view other : View) → IsOver view → IsOver (joined_view view other)
over_joined view other (inl past) = inl (rw past refl)
over_joined view other (inr seen) = inr (by_end view.seat.seen_end seen)
  where
    by_end : (o : Option ℕ) → o ≢ None → option_or o other.seat.seen_end ≢ None
    by_end None some = absurd (some refl)
    by_end (Some n) some = some

pub all_of_none : {A : Type 0} (P : A → Type 0) (xs : List A) → length xs ≡ 0 → All P xs
all_of_none P xs none k d within = absurd (omega (arith, none, within))

pub longer :
    {A : Type 0} (xs ys : List A) (popped : Option A) (x : A) → xs ≡ ys ++ option_to_list popped → popped ≡ Some x
    → length xs ≡ length ys + 1
longer xs ys popped x is found =
    ap length (is ∙ ap (λ r. ys ++ option_to_list r) found) ∙ length-append ys (x ∷ [])

-- what the only member sums to
pub only_share :
    {A : Type 0} (xs ys : List A) (popped : Option A) (x : A) (f : A → ℕ) → xs ≡ ys ++ option_to_list popped
    → popped ≡ Some x → length xs ≡ 1 → sum_by f xs ≡ 65 → f x ≡ 65
only_share xs ys popped x f is found one all =
    let long = longer xs ys popped x is found in
    let none : sum_by f ys ≡ 0 = no_sum f ys (omega (arith, long, one)) in
    omega (arith, sum_popped f xs ys popped x is found, none, all)
  where
    no_sum : {A : Type 0} (f : A → ℕ) (ys : List A) → length ys ≡ 0 → sum_by f ys ≡ 0
    no_sum f [] none = refl
    no_sum f (y ∷ ys) none = absurd (omega (arith, none))

-- what holds of the one setup holds of each simulator's
pub each_alike :
    {M U : Type 0} (P : U → Type 0) (setup : M → U) (u : U) (members : List M)
    → All (λ m. setup m ≡ u) members → P u → All (λ m. P (setup m)) members
each_alike P setup u members alike is k d within = subst P (sym (alike k d within)) is

-- the slice that a whole list was lent as is the list again
pub whole_slice :
    {A : Type 0} (new items : List A) (n : ℕ) → length new ≡ length items → length items ≡ n
    → take n (new ++ drop (length new) items) ≡ new
whole_slice new items n long is =
    ap (λ m. take m (new ++ drop (length new) items)) (sym (long ∙ is))
    ∙ take-append-le (length new) new (drop (length new) items) (omega arith) ∙ take-length new

pub first_list :
    (lists : List (List Answer)) (answers : List Answer) (which : ℕ) → lists ≡ answers ∷ [] → which ≡ 0
    → list_at lists which ≡ answers
first_list lists answers which is first = ap (list_at lists) first ∙ ap (λ l. list_at l 0) is

fold-total : (start : Front) (answers : List Answer) → (fold folded start answers).total ≡ start.total
fold-total start [] = refl
fold-total start (a ∷ answers) = fold-total (folded start a) answers ∙ folded-total start a

fold_from-total : (start : Front) (answers : List Answer) (m : ℕ) → (fold_from start answers m).total ≡ start.total
unfolding fold_from
fold_from-total start answers m = fold-total start (take m answers)

pub fold_from-none : (start : Front) (answers : List Answer) → fold_from start answers zero ≡ start
unfolding fold_from
fold_from-none start answers = refl

-- a batch takes in one answer at least
takes_some :
    (start : Front) (answers : List Answer) (m : ℕ) → IsBatch start answers → m < length answers
    → start.sums.n < pushed_number (fold_from start answers (suc m))
takes_some start answers m batch below = by_end m below (cases_Bool (is_going (fold_from start answers m).ending))
  where
    first : (fold_from start answers zero).ending ≡ Going
    first = ap (λ f. f.ending) (fold_from-none start answers) ∙ batch.going

    by_end :
        (m : ℕ) → m < length answers
        → (is_going (fold_from start answers m).ending ≡ true) ⊎ (is_going (fold_from start answers m).ending ≡ false)
        → start.sums.n < pushed_number (fold_from start answers (suc m))
    by_end m below (inl goes) =
        let before : Front = fold_from start answers m in
        let going = going_of before.ending goes in
        let number = (prefix_of start answers m batch (omega (arith, below))).going going in
        let next : folded before (get_or answers m (Cycles 0)) ≡ pushed before (get_or answers m (Cycles 0)) = rw goes refl in
        let more = ap pushed_number (fold_from-more start answers m below ∙ next) ∙ pushed_number-pushed before (get_or answers m (Cycles 0)) going in
        omega (arith, number, more)
    by_end zero below (inr over) = absurd (not_both true refl (sym (ap is_going first) ∙ over))
    by_end (suc m) below (inr over) =
        let same : fold_from start answers (suc m + 1) ≡ fold_from start answers (suc m) = fold_from-over start answers (suc m) 1 over in
        let one : suc m + 1 ≡ suc (suc m) = omega arith in
        let before = by_end m (omega (arith, below)) (cases_Bool (is_going (fold_from start answers m).ending)) in
        subst (λ n. start.sums.n < n) (ap pushed_number (sym same) ∙ ap (λ k. pushed_number (fold_from start answers k)) one) before

-- what the one pass that is left makes of the board
pub batch_run :
    (lists : List (List Answer)) (answers : List Answer) (board : BoardShown) (start new : Front)
    (workers windows points : ℕ) → lists ≡ answers ∷ [] → board.which ≡ 0 → board.start ≡ start
    → board.size ≡ length (list_at lists board.which) → IsBatch board.start (list_at lists board.which)
    → new ≡ fold_from board.start (list_at lists board.which) board.size → IsSound new
    → (folded_number board.start new ≤ points) × (points ≤ board.size) → points ≡ windows
    → (workers ≡ 1 → windows ≡ folded_number board.start (fold_from board.start (list_at lists board.which) (length (list_at lists board.which))))
    → IsBatchRun answers workers start new windows
batch_run lists answers board start new workers windows points is first same size batch fold sound bounds number alone =
    subst (λ s. IsBatchRun answers workers s new windows) same (subst (λ l. IsBatchRun l workers board.start new windows) list (record {
      front = whole;
      sound = sound;
      total = ap (λ f. f.total) whole ∙ fold_from-total board.start (list_at lists board.which) (length (list_at lists board.which));
      going = λ e.
          let was = subst (λ f. f.ending ≡ Going) whole e in
          let pushed = (prefix_of board.start (list_at lists board.which) (length (list_at lists board.which)) batch (omega arith)).going was in
          let none : uncounted new.ending ≡ 0 = ap uncounted e in
          omega (arith, pushed, ap pushed_number whole, none);
      some = some_taken;
      least = omega (arith, bounds.0, number);
      most = omega (arith, bounds.1, number, size);
      alone = λ one. alone one ∙ ap (folded_number board.start) (sym whole);
    }))
  where
    list : list_at lists board.which ≡ answers
    list = first_list lists answers board.which is first

    whole : new ≡ fold_from board.start (list_at lists board.which) (length (list_at lists board.which))
    whole = fold ∙ ap (fold_from board.start (list_at lists board.which)) size

    one_more : suc (length (list_at lists board.which) - 1) ≡ length (list_at lists board.which)
    one_more = omega (arith, batch.some)

    some_taken : board.start.sums.n < pushed_number new
    some_taken =
        let some = takes_some board.start (list_at lists board.which) (length (list_at lists board.which) - 1) batch (omega (arith, batch.some)) in
        subst (λ n. board.start.sums.n < n) (ap (λ m. pushed_number (fold_from board.start (list_at lists board.which) m)) one_more ∙ ap pushed_number (sym whole)) some

-- the answers of a batch, as the first simulator gives them
abbrev pub lists_of :
    {S U P : Type 0} → (S → U) → (U → P → Answer) → List S → List P → List (List Answer)
lists_of setup answer [] points = []
lists_of setup answer (simulator ∷ simulators) points = map (answer (setup simulator)) points ∷ []

pub lists_are :
    {S U P : Type 0} (setup : S → U) (answer : U → P → Answer) (u : U) (simulators : List S) (points : List P)
    → 0 < length simulators → Alike setup u simulators
    → lists_of setup answer simulators points ≡ map (answer u) points ∷ []
lists_are setup answer u [] points some alike = absurd (omega (arith, some))
lists_are setup answer u (simulator ∷ simulators) points some alike =
    ap (λ v. map (answer v) points ∷ []) (alike 0 simulator (omega arith))

-- a batch leaves a crew a crew
pub crew_after :
    (answers : List Answer) (old new : Front) (before windows workers : ℕ) → IsCrew old before workers
    → old.ending ≡ Going → old.sums.n + length answers ≤ old.total
    → IsBatchRun answers workers old new windows → IsCrew new (before + windows) workers
crew_after answers old new before windows workers crew going room run = record {
  sound = run.sound;
  some = crew.some;
  most = crew.most;
  within = omega (arith, run.total, crew.going going, run.most, room);
  going = λ e. omega (arith, run.going e, crew.going going, run.most);
}
