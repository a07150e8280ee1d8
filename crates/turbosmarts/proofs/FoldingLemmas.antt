-- Folding the answers of units in the order of visits.
use Rattle.std.proofs.Common.{◌≡◌, Bool, if◌then◌else◌, ◌<◌, ◌≤◌, ◌+◌, ◌++◌, ℕ, List, [], ◌∷◌, false, true, length, take, drop, map, slice_index, suc, refl, sym, ap, ◌∙◌, arith, subst}
use Rattle.std.specs.Prelude.{◌==◌}
use Rattle.std.proofs.lemmas.List.{take_more, take_all, take-append-drop, get_or-map, length-map}
use Rattle.confidence.specs.declared.answer.Answer.{Answer}
use Rattle.confidence.specs.declared.answer.Answer.TheVariants.{Cycles}
use Rattle.confidence.specs.declared.verdict.Test.{Test}
use Rattle.hierarchy.specs.declared.config.Config.{Config}
use Rattle.ordered_fold.specs.declared.ending.Ending.{Ending}
use Rattle.ordered_fold.specs.declared.ending.Ending.TheVariants.{Going, Stopped, Faulted, Exhausted}
use Rattle.ordered_fold.specs.declared.front.Front.{Front}
use Rattle.ordered_fold.specs.Ending.{ending_of, sums_at_end}
use Rattle.ordered_fold.specs.Front.{front_of, is_going, pushed, ending_with, IsSound}
use Rattle.smarts_text.specs.Report.{IsReported}
use Rattle.confidence.specs.declared.sums.Sums.{Sums}
use Rattle.confidence.specs.Confidence.{is_confident}
use Rattle.confidence.specs.Sums.{with_cycles, sums_of}
use Rattle.ordered_fold.proofs.Folds.{ended_stays, whole_fold_ends}
use Rattle.rv_exec.specs.Machine.{State}
use Rattle.sample_design.specs.declared.design.Design.{Design}
use Rattle.sample_design.specs.Order.{order_of}
use Rattle.sample_design.specs.Units.{sampled_unit}
use Rattle.unit_answers.specs.Answers.{whole_answer, unit_answers}
use Rattle.turbosmarts.specs.Folding.{visited, ArePlaces}

-- the front is that of the first so many answers, and goes on
pub record IsFolding (test : Test) (answers : List Answer) (total done : ℕ) (front : Front) : Type 0 where
  pub fold : front ≡ front_of total test (take done answers)
  pub going : front.ending ≡ Going
  pub sound : IsSound front
  pub total_is : front.total ≡ total
  pub number : front.sums.n ≡ done

pub length_visited : (cycles order : List ℕ) → length (visited cycles order) ≡ length order
unfolding visited
length_visited cycles order = length-map order (λ p. Cycles (slice_index cycles p))

pub visited_more :
    (cycles order : List ℕ) (k : ℕ) → k < length order
    → take (k + 1) (visited cycles order)
    ≡ take k (visited cycles order) ++ Cycles (slice_index cycles (slice_index order k)) ∷ []
unfolding visited
visited_more cycles order k h =
    let answers : List Answer = map (λ p. Cycles (slice_index cycles p)) order in
    let wide : k < length answers = omega (arith, length-map order (λ p. Cycles (slice_index cycles p))) in
    take_more answers k (Cycles 0) wide
    ∙ ap (λ (a : Answer). take k answers ++ a ∷ [])
    (get_or-map (λ p. Cycles (slice_index cycles p)) order k 0 (Cycles 0) h)

pub no_sums : (sums_of []).n ≡ 0
unfolding sums_of
no_sums = refl

by_tests :
    (confident all : Bool) (sums : Sums)
    → is_going (if confident then Stopped sums.n else (if all then Exhausted else Going)) ≡ false
    → IsReported (if confident then Stopped sums.n else (if all then Exhausted else Going))
by_tests true all sums ended = tt
by_tests false true sums ended = tt
by_tests false false sums ended = cc

-- the fold of one more answer
pub with_next :
    (test : Test) (cycles order : List ℕ) (total k place : ℕ) (front after : Front)
    → k < length order → place ≡ slice_index order k
    → front ≡ front_of total test (take k (visited cycles order))
    → ((total : ℕ) (test : Test) (answers : List Answer) → front ≡ front_of total test answers
    → after ≡ front_of total test (answers ++ Cycles (slice_index cycles place) ∷ []))
    → after ≡ front_of total test (take (k + 1) (visited cycles order))
with_next test cycles order total k place front after below here is push =
    push total test (take k (visited cycles order)) is
    ∙ ap (λ (p : ℕ). front_of total test (take k (visited cycles order) ++ Cycles (slice_index cycles p) ∷ [])) here
    ∙ ap (front_of total test) (sym (visited_more cycles order k below))

-- while the fold goes on its ending says so
pub still_going : (ending : Ending) → is_going ending ≡ true → ending ≡ Going
still_going Going goes = refl
still_going (Stopped count) goes = cc
still_going (Faulted point fault) goes = cc
still_going Exhausted goes = cc

-- a sample that doesn't go on has met its test, or all of it was measured
pub reported_with :
    (front : Front) (sums : Sums) → is_going (ending_with front sums) ≡ false
    → IsReported (ending_with front sums)
reported_with front sums ended =
    by_tests (is_confident sums front.test) (sums.n == front.total) sums ended

pub reported_push :
    (front after : Front) (c : ℕ) (ending : Ending) → after ≡ pushed front (Cycles c) → ending ≡ after.ending
    → is_going ending ≡ false → IsReported after.ending
reported_push front after c ending is same ended =
    let P : Ending → Type 0 = λ e. IsReported e in
    let ending_is : after.ending ≡ ending_with front (with_cycles front.sums c) = ap (λ (f : Front). f.ending) is in
    subst P (sym ending_is)
    (reported_with front (with_cycles front.sums c) (ap is_going (sym ending_is ∙ sym same) ∙ ended))

-- once the fold has ended it is that of all answers
pub ended_whole :
    (test : Test) (answers : List Answer) (total m : ℕ) (front : Front)
    → front ≡ front_of total test (take m answers) → is_going front.ending ≡ false
    → front ≡ front_of total test answers
ended_whole test answers total m front is ended =
    is
    ∙ sym (ended_stays total test (take m answers) (drop m answers) (rw (← is) ended))
    ∙ ap (front_of total test) (take-append-drop m answers)

-- and so is one that has come to their end
pub all_whole :
    (test : Test) (cycles order : List ℕ) (total m : ℕ) (front : Front) → length order ≤ m
    → front ≡ front_of total test (take m (visited cycles order))
    → front ≡ front_of total test (visited cycles order)
all_whole test cycles order total m front all is =
    is ∙ ap (front_of total test) (take_all m (visited cycles order) (omega (arith, length_visited cycles order)))

-- the ending and the sums of a fold of all answers are those of their list
pub ending_whole :
    (test : Test) (cycles order : List ℕ) (front : Front) → 0 < length order
    → front ≡ front_of (length order) test (visited cycles order)
    → (front.ending ≡ ending_of test (visited cycles order))
    × (front.sums ≡ sums_at_end test (visited cycles order))
ending_whole test cycles order front some is =
    let wide : length (visited cycles order) ≡ length order = length_visited cycles order in
    let fold : front ≡ front_of (length (visited cycles order)) test (visited cycles order) =
    rw wide is in
    let whole = whole_fold_ends test (visited cycles order) (omega arith) in
    (ap (λ (f : Front). f.ending) fold ∙ whole.0, ap (λ (f : Front). f.sums) fold ∙ whole.1)

same_answers :
    (cycles order : List ℕ) (answer : ℕ → Answer)
    → ((k : ℕ) → k < length order → answer (slice_index order k) ≡ Cycles (slice_index cycles (slice_index order k)))
    → map (λ p. Cycles (slice_index cycles p)) order ≡ map answer order
same_answers cycles [] answer same = refl
same_answers cycles (p ∷ order) answer same =
    let first : answer p ≡ Cycles (slice_index cycles p) = same 0 (omega arith) in
    let others : map (λ p. Cycles (slice_index cycles p)) order ≡ map answer order =
    same_answers cycles order answer (λ k h. same (suc k) (omega arith)) in
    ap (λ (a : Answer). a ∷ map (λ p. Cycles (slice_index cycles p)) order) (sym first)
    ∙ ap (λ (rest : List Answer). answer p ∷ rest) others

-- what was measured, visited in order, are the answers of the units
pub visited_is :
    (config : Config) (start : State) (design : Design) (count : ℕ) (cycles order : List ℕ)
    → ((p : ℕ) → p < count → whole_answer config start design (sampled_unit design p) ≡ Cycles (slice_index cycles p))
    → order ≡ order_of count design.seed → ArePlaces order count
    → visited cycles order ≡ unit_answers config start design count
unfolding visited unit_answers
visited_is config start design count cycles order units is places =
    same_answers cycles order (λ p. whole_answer config start design (sampled_unit design p))
    (λ k h. units (slice_index order k) (places k h))
    ∙ ap (map (λ p. whole_answer config start design (sampled_unit design p))) is
