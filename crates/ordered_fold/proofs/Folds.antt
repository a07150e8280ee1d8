-- The fold of a list of answers.
use Rattle.std.proofs.Common.{◌≡◌, ◌+◌, ◌<◌, ◌≤◌, ℕ, Bool, true, false, zero, suc, if◌then◌else◌, Option, Some, None, List, [], ◌∷◌, ◌++◌, length, take, drop, get_or, fold, refl, arith, sym, ◌∙◌, eq-eqb, nat_eq}
use Rattle.std.specs.List.{slice_get}
use Rattle.std.proofs.Math.Seq.{take-suc, take-length}
use Rattle.std.proofs.lemmas.List.Sums.{fold-append}
use Rattle.smarts_base.proofs.Leasts.{least_below_is}
use Rattle.smarts_base.specs.Least.{least_below}
use Rattle.std.proofs.lemmas.Bool.{ne_eqb}
use Rattle.std.proofs.lemmas.List.{take-append-le, length-take-le, take-append-drop, take-take}
use Rattle.confidence.specs.Sums.{sums_of}
use Rattle.confidence.proofs.Lists.{sums_of-nothing}
use Rattle.confidence.specs.declared.answer.Answer.{Answer}
use Rattle.confidence.specs.declared.answer.Answer.TheVariants.{Cycles, Fault}
use Rattle.confidence.specs.declared.verdict.Test.{Test}
use Rattle.ordered_fold.specs.declared.ending.Ending.TheVariants.{Going}
use Rattle.ordered_fold.specs.declared.front.Front.{Front}
use Rattle.ordered_fold.specs.Ending.{cycles_of, ends_at, end_of, ending_of, ended_by, ending_at}
use Rattle.ordered_fold.specs.Front.{is_going, first_front, pushed, folded, front_of, front_after, ending_so_far, IsFront}
use Rattle.ordered_fold.specs.Laws.{EndIsLeast, FoldEndsThere, WholeFoldEnds, EndedStays, StaysFromEnd}
use Rattle.ordered_fold.proofs.Endings.{slice_get-front, end_below, end_kept, end_of-cut}
use Rattle.ordered_fold.proofs.Fronts.{not_both, ended_front, front_at, front_ending, front_sums, push_keeps}

pub front_of-more :
    (total : ℕ) (test : Test) (answers : List Answer) (a : Answer)
    → front_of total test (answers ++ a ∷ []) ≡ folded (front_of total test answers) a
unfolding front_of
front_of-more total test answers a = fold-append folded (first_front total test) answers (a ∷ [])

pub front_of-pushed :
    (total : ℕ) (test : Test) (answers : List Answer) (front : Front) (a : Answer)
    → front ≡ front_of total test answers → front.ending ≡ Going
    → pushed front a ≡ front_of total test (answers ++ a ∷ [])
front_of-pushed total test answers front a e going =
    let more : front_of total test (answers ++ a ∷ []) ≡ folded front a =
    rw e (front_of-more total test answers a) in
    let goes : folded front a ≡ pushed front a = rw going refl in
    sym (more ∙ goes)

folded-ended : (front : Front) (a : Answer) → is_going front.ending ≡ false → folded front a ≡ front
folded-ended front a ended = rw ended refl

pub fold-ended :
    (front : Front) (answers : List Answer) → is_going front.ending ≡ false
    → fold folded front answers ≡ front
fold-ended front [] ended = refl
fold-ended front (a ∷ answers) ended = rw (folded-ended front a ended) (fold-ended front answers ended)

pub ended_stays : EndedStays
unfolding front_of
ended_stays total test before after ended =
    fold-append folded (first_front total test) before after
    ∙ fold-ended (front_of total test before) after ended

end_of-nothing : (test : Test) → end_of test [] ≡ None
unfolding end_of least_below
end_of-nothing test = refl

nothing_measured : sums_of [] ≡ sums_of (cycles_of [])
unfolding cycles_of
nothing_measured = refl

pub first_is_front : (total : ℕ) (test : Test) → 0 < total → IsFront (first_front total test) []
first_is_front total test some =
    let more : nat_eq 0 total ≡ false = ne_eqb 0 total (λ e. omega arith) in
    let none_in : (sums_of []).n ≡ 0 = sums_of-nothing in
    front_at (first_front total test) [] None (end_of-nothing test) (rw more refl) nothing_measured
    (λ _. none_in)

-- the fold keeps to the list's end, also where it has ended
fold_keeps :
    (front : Front) (answers : List Answer) (a : Answer) → IsFront front answers
    → length answers < front.total → IsFront (folded front a) (answers ++ a ∷ [])
fold_keeps front answers a is few = by_end (end_of front.test answers) refl
  where
    all : List Answer
    all = answers ++ a ∷ []

    by_end : (end : Option ℕ) → end_of front.test answers ≡ end → IsFront (folded front a) all
    by_end None e =
        let more : nat_eq (length answers) front.total ≡ false = ne_eqb _ _ (λ same. omega arith) in
        let going : front.ending ≡ Going = front_ending front answers None e is ∙ rw more refl in
        rw going (push_keeps front answers a is going)
    by_end (Some k) e =
        let below : k < length answers = end_below front.test answers k e in
        let ending : front.ending ≡ ended_by (slice_get answers k) k =
        front_ending front answers (Some k) e is in
        let ended : is_going front.ending ≡ false = ended_front front answers k e is in
        let sums = front_sums front answers (Some k) e is in
        rw (folded-ended front a ended)
        (front_at front all (Some k) (end_kept front.test answers a k e)
        (rw (slice_get-front answers (a ∷ []) k below) ending)
        (rw (take-append-le (k + 1) answers (a ∷ []) (omega arith)) sums)
        (λ going. absurd (not_both _ (rw going refl) ended)))

-- a front of this total and test, whose answers these are
record IsFrontOf (total_ : ℕ) (test_ : Test) (answers : List Answer) (front : Front) : Type 0 where
  total : front.total ≡ total_
  test : front.test ≡ test_
  is : IsFront front answers

pushed-total : (front : Front) (a : Answer) → (pushed front a).total ≡ front.total
pushed-total front (Cycles c) = refl
pushed-total front (Fault f) = refl

pushed-test : (front : Front) (a : Answer) → (pushed front a).test ≡ front.test
pushed-test front (Cycles c) = refl
pushed-test front (Fault f) = refl

pub folded-total : (front : Front) (a : Answer) → (folded front a).total ≡ front.total
folded-total front a = either (is_going front.ending)
  where
    either : (b : Bool) → ◌≡◌ {A = ℕ} (if b then pushed front a else front).total front.total
    either true = pushed-total front a
    either false = refl

folded-test : (front : Front) (a : Answer) → (folded front a).test ≡ front.test
folded-test front a = either (is_going front.ending)
  where
    either : (b : Bool) → ◌≡◌ {A = Test} (if b then pushed front a else front).test front.test
    either true = pushed-test front a
    either false = refl

folds_more :
    (total : ℕ) (test : Test) (answers : List Answer) (a : Answer) (front : Front)
    → IsFrontOf total test answers front → length answers < total
    → IsFrontOf total test (answers ++ a ∷ []) (folded front a)
folds_more total test answers a front so_far few = record {
  total = folded-total front a ∙ so_far.total;
  test = folded-test front a ∙ so_far.test;
  is = fold_keeps front answers a so_far.is (omega (arith, so_far.total));
}

folds_nothing :
    (total : ℕ) (test : Test) → 0 < total → IsFrontOf total test [] (front_of total test [])
unfolding front_of
folds_nothing total test some =
    record { total = refl; test = refl; is = first_is_front total test some }

folds_up_to :
    (total : ℕ) (test : Test) (answers : List Answer) (m : ℕ) → 0 < total → length answers ≤ total
    → m ≤ length answers → IsFrontOf total test (take m answers) (front_of total test (take m answers))
folds_up_to total test answers zero some few within = folds_nothing total test some
folds_up_to total test answers (suc m) some few within =
    let before : List Answer = take m answers in
    let next : Answer = get_or answers m (Cycles 0) in
    let below : m < length answers = omega arith in
    let long : length before ≡ m = length-take-le m answers (omega arith) in
    let so_far = folds_up_to total test answers m some few (omega arith) in
    rw (take-suc answers m (Cycles 0) below, front_of-more total test before next)
    (folds_more total test before next (front_of total test before) so_far (omega arith))

folds_all :
    (total : ℕ) (test : Test) (answers : List Answer) → 0 < total → length answers ≤ total
    → IsFrontOf total test answers (front_of total test answers)
folds_all total test answers some few =
    rw take-length at (folds_up_to total test answers (length answers) some few (omega arith))

pub fold_ends : FoldEndsThere
fold_ends total test answers some few = (folds_all total test answers some few).is

whole_ending :
    (answers : List Answer) (end : Option ℕ)
    → ending_so_far (length answers) answers end ≡ ending_at answers end
whole_ending answers (Some k) = refl
whole_ending answers None = rw (eq-eqb (length answers) (length answers) refl) refl

pub whole_fold_ends : WholeFoldEnds
unfolding ending_of
whole_fold_ends test answers some =
    let all = folds_all (length answers) test answers some (omega arith) in
    let ending = all.is.ending in (
      rw (all.total, all.test) at ending ∙ whole_ending answers (end_of test answers),
      rw all.test at all.is.sums,
    )

pub end_is_least : EndIsLeast
unfolding end_of
end_is_least test answers = least_below_is (length answers) (ends_at test answers)

pub stays_from_end : StaysFromEnd
unfolding front_after
stays_from_end test answers k m e after =
    let n : ℕ = length answers in
    let within : k < n = end_below test answers k e in
    let first : List Answer = take (k + 1) answers in
    let rest : List Answer = drop (k + 1) (take m answers) in
    let long : length first ≡ k + 1 = length-take-le (k + 1) answers (omega arith) in
    let whole : first ++ drop (k + 1) answers ≡ answers = take-append-drop (k + 1) answers in
    let at_k : end_of test first ≡ Some k =
    end_of-cut test first (drop (k + 1) answers) k (rw whole e) (omega arith) in
    let folds = folds_all n test first (omega arith) (omega arith) in
    let ended : is_going (front_of n test first).ending ≡ false =
    ended_front (front_of n test first) first k (rw folds.test at_k) folds.is in
    let split : first ++ rest ≡ take m answers =
    rw (← take-take (k + 1) m answers (omega arith)) (take-append-drop (k + 1) (take m answers)) in
    rw (← split) (ended_stays n test first rest ended)
