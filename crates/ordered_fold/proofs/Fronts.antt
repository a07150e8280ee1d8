-- One more answer in the fold.
use Rattle.std.proofs.Common.{◌≡◌, ◌+◌, ℕ, Bool, true, false, Option, Some, None, List, [], ◌∷◌, ◌++◌, length, refl, arith, sym, ◌∙◌}
use Rattle.std.specs.List.{slice_get}
use Rattle.confidence.specs.Sums.{sums_of, with_cycles}
use Rattle.confidence.specs.Confidence.{is_confident}
use Rattle.confidence.proofs.Lists.{sums_of-more}
use Rattle.confidence.specs.declared.answer.Answer.{Answer}
use Rattle.confidence.specs.declared.answer.Answer.TheVariants.{Cycles, Fault}
use Rattle.confidence.specs.declared.answer.PointFault.{PointFault}
use Rattle.confidence.specs.declared.sums.Sums.{Sums}
use Rattle.ordered_fold.specs.declared.ending.Ending.TheVariants.{Going, Stopped, Faulted}
use Rattle.ordered_fold.specs.declared.front.Front.{Front}
use Rattle.ordered_fold.specs.Ending.{cycles_of, end_of, ended_by, up_to, ends_at, sums_at_end}
use Rattle.ordered_fold.specs.Front.{is_going, pushed, ending_so_far, IsFront}
use Rattle.ordered_fold.proofs.Endings.{slice_get-last, length-more, take-more-whole, cycles_of-more, cycles_of-fault, ends_at-last, end_more}

ended_not_going : (o : Option Answer) (k : ℕ) → is_going (ended_by o k) ≡ false
ended_not_going None k = refl
ended_not_going (Some (Cycles c)) k = refl
ended_not_going (Some (Fault f)) k = refl

pub not_both : (b : Bool) → b ≡ true → b ≡ false → ⊥
not_both b holds fails = cc

-- a front by what its list's end is known to be
pub front_at :
    (front : Front) (answers : List Answer) (end : Option ℕ) → end_of front.test answers ≡ end
    → front.ending ≡ ending_so_far front.total answers end
    → front.sums ≡ sums_of (cycles_of (up_to answers end))
    → (front.ending ≡ Going → front.sums.n ≡ length answers) → IsFront front answers
unfolding sums_at_end
front_at front answers end e ending sums count =
    record { ending = rw e ending; sums = rw e sums; count = count }

-- the parts of such a front, where the end is known
pub front_ending : (front : Front) (answers : List Answer) (end : Option ℕ) → end_of front.test answers ≡ end
    → IsFront front answers → front.ending ≡ ending_so_far front.total answers end
front_ending front answers end e is = rw e at is.ending

pub front_sums : (front : Front) (answers : List Answer) (end : Option ℕ) → end_of front.test answers ≡ end
    → IsFront front answers → front.sums ≡ sums_of (cycles_of (up_to answers end))
unfolding sums_at_end
front_sums front answers end e is = rw e at is.sums

pub ended_front :
    (front : Front) (answers : List Answer) (k : ℕ) → end_of front.test answers ≡ Some k
    → IsFront front answers → is_going front.ending ≡ false
ended_front front answers k e is =
    rw (front_ending front answers (Some k) e is) (ended_not_going (slice_get answers k) k)

-- a front that goes on has found no end
no_end :
    (front : Front) (answers : List Answer) → IsFront front answers → front.ending ≡ Going
    → end_of front.test answers ≡ None
no_end front answers is going = by_end (end_of front.test answers) refl
  where
    by_end : (end : Option ℕ) → end_of front.test answers ≡ end → end_of front.test answers ≡ None
    by_end None e = e
    by_end (Some k) e =
        let ended : is_going front.ending ≡ false = ended_front front answers k e is in
        let goes : is_going front.ending ≡ true = rw going refl in
        cc

pub not_faulted : {point : ℕ} {f : PointFault} → Faulted point f ≡ Going → ⊥
not_faulted e = cc

pub not_stopped : {count : ℕ} → Stopped count ≡ Going → ⊥
not_stopped e = cc

push_fault :
    (front : Front) (answers : List Answer) (f : PointFault) → IsFront front answers
    → front.ending ≡ Going → IsFront (pushed front (Fault f)) (answers ++ Fault f ∷ [])
push_fault front answers f is going =
    let none : end_of front.test answers ≡ None = no_end front answers is going in
    let last : end_of front.test (answers ++ Fault f ∷ []) ≡ Some (length answers) =
    end_more front.test answers (Fault f) none ∙ rw (ends_at-last front.test answers (Fault f)) refl in
    let sums : front.sums ≡ sums_of (cycles_of answers) = front_sums front answers None none is in
    front_at (pushed front (Fault f)) (answers ++ Fault f ∷ []) (Some (length answers)) last
    (rw (slice_get-last answers (Fault f), is.count going) refl)
    (rw (take-more-whole answers (Fault f), cycles_of-fault answers f) sums)
    (λ e. absurd (not_faulted e))

push_cycles :
    (front : Front) (answers : List Answer) (c : ℕ) → IsFront front answers
    → front.ending ≡ Going → IsFront (pushed front (Cycles c)) (answers ++ Cycles c ∷ [])
push_cycles front answers c is going = by_test (is_confident more front.test) refl
  where
    all : List Answer
    all = answers ++ Cycles c ∷ []

    more : Sums
    more = with_cycles front.sums c

    none : end_of front.test answers ≡ None
    none = no_end front answers is going

    long : length all ≡ length answers + 1
    long = length-more answers (Cycles c)

    sums : more ≡ sums_of (cycles_of all)
    sums =
        rw (front_sums front answers None none is, cycles_of-more answers c)
        (sym (sums_of-more (cycles_of answers) c))

    last : ends_at front.test all (length answers) ≡ is_confident more front.test
    last = rw (ends_at-last front.test answers (Cycles c), sums) refl

    by_test : (b : Bool) → is_confident more front.test ≡ b → IsFront (pushed front (Cycles c)) all
    by_test true e =
        front_at (pushed front (Cycles c)) all (Some (length answers))
        (end_more front.test answers (Cycles c) none ∙ rw (last, e) refl)
        (rw (e, slice_get-last answers (Cycles c), is.count going) refl)
        (rw (take-more-whole answers (Cycles c)) sums)
        (λ h. absurd (not_stopped (rw e at h)))
    by_test false e =
        front_at (pushed front (Cycles c)) all None
        (end_more front.test answers (Cycles c) none ∙ rw (last, e) refl)
        (rw (e, long, is.count going) refl)
        sums
        (λ h. omega (arith, long, is.count going))

pub push_keeps :
    (front : Front) (answers : List Answer) (a : Answer) → IsFront front answers
    → front.ending ≡ Going → IsFront (pushed front a) (answers ++ a ∷ [])
push_keeps front answers (Cycles c) is going = push_cycles front answers c is going
push_keeps front answers (Fault f) is going = push_fault front answers f is going
