-- The fold of a batch from a front that is going.
use Rattle.std.proofs.Common.{◌≡◌, ◌⊎◌, ◌+◌, ◌-◌, ◌<◌, ◌≤◌, ◌==◌, ℕ, Bool, true, false, zero, suc, if◌then◌else◌, List, [], ◌∷◌, ◌++◌, length, take, drop, get_or, inl, inr, refl, arith, sym, ◌∙◌}
use Rattle.std.proofs.Math.Arith.{lt_of_le-ne}
use Rattle.std.proofs.Math.Seq.{take-suc, take-length, take-add, take-append-add}
use Rattle.std.proofs.lemmas.List.Sums.{fold-append}
use Rattle.std.proofs.lemmas.List.{take_all}
use Rattle.std.proofs.lemmas.Bool.{cases_lt, eqb-false}
use Rattle.confidence.specs.Sums.{with_cycles}
use Rattle.confidence.specs.Confidence.{is_confident}
use Rattle.confidence.specs.Answer.{IsValidAnswer}
use Rattle.confidence.proofs.Bounds.{bounded_more}
use Rattle.confidence.specs.declared.answer.Answer.{Answer}
use Rattle.confidence.specs.declared.answer.Answer.TheVariants.{Cycles, Fault}
use Rattle.confidence.specs.declared.sums.Sums.{Sums}
use Rattle.ordered_fold.specs.declared.ending.Ending.{Ending}
use Rattle.ordered_fold.specs.declared.ending.Ending.TheVariants.{Going, Stopped, Faulted, Exhausted}
use Rattle.ordered_fold.specs.declared.front.Front.{Front}
use Rattle.ordered_fold.specs.Front.{is_going, ending_with, pushed, folded, IsSound}
use Rattle.ordered_fold.specs.Batch.{fold_from, uncounted, pushed_number, IsHeldAnswer, IsBatch}
use Rattle.ordered_fold.proofs.Folds.{fold-ended}
use Rattle.ordered_fold.proofs.Fronts.{not_both, not_faulted}

pub going_of : (ending : Ending) → is_going ending ≡ true → ending ≡ Going
going_of Going e = refl
going_of (Stopped count) e = cc
going_of (Faulted point fault) e = cc
going_of Exhausted e = cc

-- a fold may be cut anywhere
pub fold_from-cut :
    (start : Front) (answers : List Answer) (m n : ℕ)
    → fold_from start answers (m + n) ≡ fold_from (fold_from start answers m) (drop m answers) n
unfolding fold_from
fold_from-cut start answers m n =
    rw (take-add m n answers) (fold-append folded start (take m answers) (take n (drop m answers)))

-- and a list may be folded batch by batch
pub fold_from-joined :
    (start : Front) (before after : List Answer) (n : ℕ)
    → fold_from start (before ++ after) (length before + n)
    ≡ fold_from (fold_from start before (length before)) after n
unfolding fold_from
fold_from-joined start before after n =
    rw (take-append-add before after n, take-length before)
    (fold-append folded start before (take n after))

pub fold_from-more :
    (start : Front) (answers : List Answer) (m : ℕ) → m < length answers
    → fold_from start answers (suc m) ≡ folded (fold_from start answers m) (get_or answers m (Cycles 0))
unfolding fold_from
fold_from-more start answers m below =
    rw (take-suc answers m (Cycles 0) below)
    (fold-append folded start (take m answers) (get_or answers m (Cycles 0) ∷ []))

-- a fold that has ended stays as it is
stays :
    (front : Front) (rest : List Answer) (n : ℕ) → is_going front.ending ≡ false
    → fold_from front rest n ≡ front
unfolding fold_from
stays front rest n ended = fold-ended front (take n rest) ended

pub fold_from-over :
    (start : Front) (answers : List Answer) (m n : ℕ)
    → is_going (fold_from start answers m).ending ≡ false
    → fold_from start answers (m + n) ≡ fold_from start answers m
fold_from-over start answers m n ended =
    fold_from-cut start answers m n ∙ stays (fold_from start answers m) (drop m answers) n ended

pub fold_from-all :
    (start : Front) (answers : List Answer) (m : ℕ) → length answers ≤ m
    → fold_from start answers m ≡ fold_from start answers (length answers)
unfolding fold_from
fold_from-all start answers m past = rw (take_all m answers past, take-length answers) refl

-- where a fold has ended, its front is that of the whole batch
pub whole_fold :
    (start : Front) (answers : List Answer) (m : ℕ)
    → is_going (fold_from start answers m).ending ≡ false
    → fold_from start answers m ≡ fold_from start answers (length answers)
whole_fold start answers m ended = by_order (cases_lt m (length answers))
  where
    by_order :
        (m < length answers) ⊎ (length answers ≤ m)
        → fold_from start answers m ≡ fold_from start answers (length answers)
    by_order (inl below) =
        let sum : m + (length answers - m) ≡ length answers = omega arith in
        sym (rw sum at (fold_from-over start answers m (length answers - m) ended))
    by_order (inr past) = fold_from-all start answers m past

-- one more answer is one more pushed, whether it is counted or not
pub pushed_number-pushed :
    (front : Front) (answer : Answer) → front.ending ≡ Going
    → pushed_number (pushed front answer) ≡ pushed_number front + 1
pushed_number-pushed front (Cycles cycles) going = rw going (ended (ending_with front more) (none (is_confident more front.test) (more.n == front.total)))
  where
    more : Sums
    more = with_cycles front.sums cycles

    none : (b c : Bool) → uncounted (if b then Stopped more.n else (if c then Exhausted else Going)) ≡ 0
    none true c = refl
    none false true = refl
    none false false = refl

    ended : (ending : Ending) → uncounted ending ≡ 0 → more.n + uncounted ending ≡ front.sums.n + 0 + 1
    ended ending e = omega (arith, e)
pushed_number-pushed front (Fault fault) going = rw going (omega arith)

-- a front that takes in an answer stays sound
pub valid_of : (answer : Answer) → IsHeldAnswer answer → IsValidAnswer answer
valid_of (Cycles cycles) held = held
valid_of (Fault fault) held = tt

pub sound-pushed :
    (front : Front) (answer : Answer) → IsSound front → front.ending ≡ Going → IsHeldAnswer answer
    → IsSound (pushed front answer)
sound-pushed front (Cycles cycles) sound going held = record {
  total = sound.total;
  test = sound.test;
  sums = bounded_more front.sums cycles sound.sums (omega (arith, sound.room going, sound.total)) held;
  room = λ goes. left (is_confident more front.test) (more.n == front.total) refl goes;
}
  where
    more : Sums
    more = with_cycles front.sums cycles

    left :
        (b c : Bool) → (more.n == front.total) ≡ c
        → (if b then Stopped more.n else (if c then Exhausted else Going)) ≡ Going
        → more.n < front.total
    left true c e goes = cc
    left false true e goes = cc
    left false false e goes =
        let differ : more.n ≡ front.total → ⊥ = eqb-false more.n front.total e in
        lt_of_le-ne (omega (arith, sound.room going)) differ
sound-pushed front (Fault fault) sound going held = record {
  total = sound.total;
  test = sound.test;
  sums = sound.sums;
  room = λ goes. absurd (not_faulted goes);
}

-- what the fold of the first m answers keeps
pub record IsPrefix (start : Front) (m : ℕ) (front : Front) : Type 0 where
  pub sound : IsSound front
  pub least : start.sums.n ≤ front.sums.n
  pub most : pushed_number front ≤ start.sums.n + m
  pub going : front.ending ≡ Going → pushed_number front ≡ start.sums.n + m

prefix_more :
    (start front : Front) (m : ℕ) (answer : Answer) → IsPrefix start m front → IsHeldAnswer answer
    → (b : Bool) → is_going front.ending ≡ b
    → IsPrefix start (suc m) (if b then pushed front answer else front)
prefix_more start front m answer is held true e =
    let goes : front.ending ≡ Going = going_of front.ending e in
    let more : pushed_number (pushed front answer) ≡ pushed_number front + 1 = pushed_number-pushed front answer goes in
    record {
      sound = sound-pushed front answer is.sound goes held;
      least = least_more answer;
      most = omega (arith, more, is.most);
      going = λ g. omega (arith, more, is.going goes);
    }
  where
    least_more : (answer : Answer) → start.sums.n ≤ (pushed front answer).sums.n
    least_more (Cycles cycles) = omega (arith, is.least)
    least_more (Fault fault) = is.least
prefix_more start front m answer is held false e = record {
  sound = is.sound;
  least = is.least;
  most = omega (arith, is.most);
  going = λ g. absurd (not_both (is_going front.ending) (rw g refl) e);
}

pub prefix_of :
    (start : Front) (answers : List Answer) (m : ℕ) → IsBatch start answers → m ≤ length answers
    → IsPrefix start m (fold_from start answers m)
unfolding fold_from
prefix_of start answers zero batch within = record {
  sound = batch.sound;
  least = omega arith;
  most = rw batch.going (omega arith);
  going = λ g. rw batch.going (omega arith);
}
prefix_of start answers (suc m) batch within =
    let front : Front = fold_from start answers m in
    let answer : Answer = get_or answers m (Cycles 0) in
    let so_far = prefix_of start answers m batch (omega arith) in
    rw (fold_from-more start answers m (omega arith))
    (prefix_more start front m answer so_far (batch.held m (Cycles 0) (omega arith)) (is_going front.ending) refl)
