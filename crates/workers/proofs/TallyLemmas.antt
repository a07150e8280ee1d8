-- The fold of a whole list by batches.
use Rattle.std.proofs.Common.{◌≡◌, ◌⊎◌, ◌+◌, ◌-◌, ◌%◌, ◌<◌, ◌≤◌, ℕ, Bool, true, false, min, List, length, map, take, drop, fold, inl, inr, refl, arith, sym, ap, subst, ◌∙◌}
use Rattle.std.proofs.Math.Seq.{take-length}
use Rattle.std.proofs.lemmas.Bool.{cases_lt}
use Rattle.std.proofs.lemmas.List.{length-take-le, length-drop, take-map, drop-map}
use Rattle.confidence.proofs.Lists.{sums_of-nothing}
use Rattle.confidence.specs.declared.answer.Answer.{Answer}
use Rattle.confidence.specs.declared.verdict.Test.{Test}
use Rattle.confidence.specs.declared.sums.Sums.{Sums}
use Rattle.ordered_fold.specs.declared.ending.Ending.{Ending}
use Rattle.ordered_fold.specs.declared.front.Front.{Front}
use Rattle.ordered_fold.specs.declared.ending.Ending.TheVariants.{Going}
use Rattle.ordered_fold.specs.Front.{first_front, front_of, folded, is_going}
use Rattle.ordered_fold.specs.Batch.{fold_from, pushed_number, uncounted}
use Rattle.ordered_fold.proofs.BatchLemmas.{going_of, fold_from-cut, whole_fold}
use Rattle.workers.proofs.CrewLemmas.{fold_from-none}
use Rattle.workers.specs.Crew.{IsCrew, IsBatchRun}
use Rattle.workers.specs.Tally.{IsTally, in_batches}

-- after the batches up to this place
pub record IsSoFar (test : Test) (answers : List Answer) (workers at : ℕ) (front : Front) (windows : ℕ) : Type 0 where
  pub front_is : front ≡ fold_from (first_front (length answers) test) answers at
  pub within : at ≤ length answers
  pub even : (at % 128 ≡ 0) ⊎ (at ≡ length answers)
  pub going : front.ending ≡ Going → front.sums.n ≡ at
  pub least : pushed_number front ≤ windows
  pub most : windows ≤ at
  pub near : is_going front.ending ≡ false → at ≤ in_batches (pushed_number front)
  pub alone : workers ≡ 1 → windows ≡ pushed_number front

-- a batch is a cut of the list
whole_batch :
    (start : Front) (answers : List Answer) (m : ℕ)
    → fold_from start (take m answers) (length (take m answers)) ≡ fold_from start answers m
unfolding fold_from
whole_batch start answers m = ap (fold folded start) (take-length (take m answers))

all_folded :
    (total : ℕ) (test : Test) (answers : List Answer)
    → fold_from (first_front total test) answers (length answers) ≡ front_of total test answers
unfolding fold_from front_of
all_folded total test answers = ap (fold folded (first_front total test)) (take-length answers)

pub so_far_none :
    (test : Test) (answers : List Answer) (workers : ℕ) (front : Front) (windows : ℕ)
    → front ≡ first_front (length answers) test → windows ≡ 0 → IsSoFar test answers workers 0 front windows
so_far_none test answers workers front windows is none = record {
  front_is = is ∙ sym (fold_from-none (first_front (length answers) test) answers);
  within = omega arith;
  even = inl refl;
  going = λ e. count;
  least = omega (arith, number, none);
  most = omega (arith, none);
  near = λ over. omega arith;
  alone = λ one. omega (arith, number, none);
}
  where
    count : front.sums.n ≡ 0
    count = ap (λ f. f.sums.n) is ∙ sums_of-nothing

    number : pushed_number front ≡ 0
    number = omega (arith, count, ap (λ f. uncounted f.ending) is)

-- a batch more, which ends where the next begins
pub so_far_more :
    (test : Test) (answers batch : List Answer) (workers at next : ℕ) (old new : Front) (before windows : ℕ)
    → IsSoFar test answers workers at old before → old.ending ≡ Going → at < length answers
    → next ≡ min (at + 128) (length answers) → batch ≡ take (next - at) (drop at answers)
    → IsBatchRun batch workers old new windows → IsSoFar test answers workers next new (before + windows)
so_far_more test answers batch workers at next old new before windows so_far going below is cut run = record {
  front_is = front;
  within = omega (arith, is);
  even = by_size (cases_lt (at + 128) (length answers));
  going = λ e. omega (arith, run.going e, was, long, is, below);
  least = omega (arith, run.least, so_far.least, number, was);
  most = omega (arith, run.most, so_far.most, long, is, below);
  near = λ over. by_even so_far.even;
  alone = λ one. omega (arith, run.alone one, so_far.alone one, number, run.some);
}
  where
    was : old.sums.n ≡ at
    was = so_far.going going

    number : pushed_number old ≡ old.sums.n
    number = omega (arith, ap uncounted going)

    long : length batch ≡ next - at
    long = ap length cut ∙ length-take-le (next - at) (drop at answers) (omega (arith, is, below, length-drop at answers))

    start : Front
    start = first_front (length answers) test

    front : new ≡ fold_from start answers next
    front =
        run.front ∙ ap (λ f. fold_from f batch (length batch)) so_far.front_is
        ∙ ap (λ b. fold_from (fold_from start answers at) b (length b)) cut
        ∙ whole_batch (fold_from start answers at) (drop at answers) (next - at)
        ∙ sym (fold_from-cut start answers at (next - at))
        ∙ ap (fold_from start answers) (omega (arith, is, below))

    by_size : (at + 128 < length answers) ⊎ (length answers ≤ at + 128) → (next % 128 ≡ 0) ⊎ (next ≡ length answers)
    by_size (inl more) = by_at so_far.even
      where
        by_at : (at % 128 ≡ 0) ⊎ (at ≡ length answers) → (next % 128 ≡ 0) ⊎ (next ≡ length answers)
        by_at (inl even) = inl (omega (arith, even, is, more))
        by_at (inr all) = absurd (omega (arith, all, below))
    by_size (inr last) = inr (omega (arith, is, last))

    by_even : (at % 128 ≡ 0) ⊎ (at ≡ length answers) → next ≤ in_batches (pushed_number new)
    by_even (inl even) = omega (arith, even, is, run.some, was)
    by_even (inr all) = absurd (omega (arith, all, below))

-- the fold has ended
pub tally_of :
    (test : Test) (answers : List Answer) (workers at : ℕ) (front : Front) (windows : ℕ)
    → IsSoFar test answers workers at front windows → is_going front.ending ≡ false
    → IsTally test answers workers (record { ending = front.ending; sums = front.sums; windows = windows })
tally_of test answers workers at front windows so_far over = record {
  ending = ap (λ f. f.ending) whole;
  sums = ap (λ f. f.sums) whole;
  least = subst (λ f. pushed_number f ≤ windows) whole so_far.least;
  most = omega (arith, so_far.most, so_far.within);
  near = subst (λ f. windows ≤ in_batches (pushed_number f)) whole (omega (arith, so_far.most, so_far.near over));
  alone = λ one. so_far.alone one ∙ ap pushed_number whole;
}
  where
    start : Front
    start = first_front (length answers) test

    whole : front ≡ front_of (length answers) test answers
    whole =
        so_far.front_is
        ∙ whole_fold start answers at (subst (λ f. is_going f.ending ≡ false) so_far.front_is over)
        ∙ all_folded (length answers) test answers

-- while the fold goes on, points are left
pub points_left :
    (front shown : Front) (going : Bool) (windows workers at size : ℕ) → IsCrew front windows workers
    → (front.ending ≡ Going → front.sums.n ≡ at) → front.total ≡ size → shown ≡ front
    → going ≡ is_going shown.ending → going ≡ true → (front.ending ≡ Going) × (at < size)
points_left front shown going windows workers at size crew number total same test goes =
    let is : front.ending ≡ Going = going_of front.ending (ap (λ f. is_going f.ending) (sym same) ∙ sym test ∙ goes) in
    (is, omega (arith, crew.sound.room is, number is, total))

pub answers_cut :
    {P : Type 0} (answer : P → Answer) (points : List P) (at m : ℕ)
    → map answer (take m (drop at points)) ≡ take m (drop at (map answer points))
answers_cut answer points at m =
    sym (take-map answer m (drop at points)) ∙ ap (take m) (sym (drop-map answer at points))

pub tally_read :
    (test : Test) (answers : List Answer) (workers at : ℕ) (front : Front) (windows : ℕ) (ending : Ending)
    (sums : Sums) (count : ℕ) → IsSoFar test answers workers at front windows → is_going front.ending ≡ false
    → ending ≡ front.ending → sums ≡ front.sums → count ≡ windows
    → IsTally test answers workers (record { ending = ending; sums = sums; windows = count })
tally_read test answers workers at front windows ending sums count so_far over ends summed counted =
    subst (λ e. IsTally test answers workers (record { ending = e; sums = sums; windows = count })) (sym ends)
    (subst (λ s. IsTally test answers workers (record { ending = front.ending; sums = s; windows = count })) (sym summed)
    (subst (λ n. IsTally test answers workers (record { ending = front.ending; sums = front.sums; windows = n })) (sym counted)
    (tally_of test answers workers at front windows so_far over)))
