-- What one more answer changes of where a list ends.
use Rattle.std.proofs.Common.{◌≡◌, ◌+◌, ◌<◌, ◌≤◌, ℕ, zero, suc, if◌then◌else◌, ◌||◌, Some, None, List, [], ◌∷◌, ◌++◌, length, take, refl, arith, sym, ap, ◌∙◌, append-nil}
use Rattle.std.specs.List.{slice_get}
use Rattle.std.proofs.lemmas.List.{take-append-le}
use Rattle.std.proofs.lemmas.List.Elements.{filter_map-append}
use Rattle.smarts_base.specs.Least.{least_below, IsLeast}
use Rattle.smarts_base.proofs.Leasts.{least_below_same, least_below_more, least_below_kept, least_below_some, least_is_least}
use Rattle.confidence.specs.Sums.{sums_of}
use Rattle.confidence.specs.Confidence.{is_confident}
use Rattle.confidence.specs.declared.answer.Answer.{Answer}
use Rattle.confidence.specs.declared.answer.Answer.TheVariants.{Cycles, Fault}
use Rattle.confidence.specs.declared.answer.PointFault.{PointFault}
use Rattle.confidence.specs.declared.verdict.Test.{Test}
use Rattle.ordered_fold.specs.Ending.{cycles_of, is_fault, measured, ends_at, end_of}

pub slice_get-front :
    (xs ys : List Answer) (k : ℕ) → k < length xs → slice_get (xs ++ ys) k ≡ slice_get xs k
slice_get-front [] ys k below = absurd (omega arith)
slice_get-front (x ∷ xs) ys zero below = refl
slice_get-front (x ∷ xs) ys (suc k) below = slice_get-front xs ys k (omega arith)

pub slice_get-last : (xs : List Answer) (a : Answer) → slice_get (xs ++ a ∷ []) (length xs) ≡ Some a
slice_get-last [] a = refl
slice_get-last (x ∷ xs) a = slice_get-last xs a

take-whole : (xs : List Answer) → take (length xs) xs ≡ xs
take-whole [] = refl
take-whole (x ∷ xs) = ap (λ (l : List Answer). x ∷ l) (take-whole xs)

pub length-more : (xs : List Answer) (a : Answer) → length (xs ++ a ∷ []) ≡ length xs + 1
length-more [] a = refl
length-more (x ∷ xs) a = let rest = length-more xs a in omega arith

pub take-more-whole :
    (xs : List Answer) (a : Answer) → take (length xs + 1) (xs ++ a ∷ []) ≡ xs ++ a ∷ []
take-more-whole xs a = rw (← length-more xs a) (take-whole (xs ++ a ∷ []))

pub cycles_of-more :
    (xs : List Answer) (c : ℕ) → cycles_of (xs ++ Cycles c ∷ []) ≡ cycles_of xs ++ c ∷ []
unfolding cycles_of
cycles_of-more xs c = filter_map-append measured xs (Cycles c ∷ [])

pub cycles_of-fault :
    (xs : List Answer) (f : PointFault) → cycles_of (xs ++ Fault f ∷ []) ≡ cycles_of xs
unfolding cycles_of
cycles_of-fault xs f = simp (filter_map-append measured xs (Fault f ∷ []), append-nil)

ends_at-front :
    (test : Test) (xs ys : List Answer) (k : ℕ) → k < length xs
    → ends_at test xs k ≡ ends_at test (xs ++ ys) k
unfolding ends_at
ends_at-front test xs ys k below =
    let within : k + 1 ≤ length xs = omega arith in
    rw (slice_get-front xs ys k below, take-append-le (k + 1) xs ys within) refl

pub ends_at-last :
    (test : Test) (xs : List Answer) (a : Answer)
    → ends_at test (xs ++ a ∷ []) (length xs)
    ≡ (is_fault (Some a) || is_confident (sums_of (cycles_of (xs ++ a ∷ []))) test)
unfolding ends_at
ends_at-last test xs a = rw (slice_get-last xs a, take-more-whole xs a) refl

pub end_below :
    (test : Test) (xs : List Answer) (k : ℕ) → end_of test xs ≡ Some k → k < length xs
unfolding end_of
end_below test xs k e = (least_is_least (length xs) k (ends_at test xs) e).below

same_below :
    (test : Test) (xs : List Answer) (a : Answer)
    → least_below (length xs) (ends_at test xs) ≡ least_below (length xs) (ends_at test (xs ++ a ∷ []))
same_below test xs a =
    least_below_same (length xs) (ends_at test xs) (ends_at test (xs ++ a ∷ []))
    (λ k below. ends_at-front test xs (a ∷ []) k below)

-- a list that is cut behind its end has it still
pub end_of-cut :
    (test : Test) (front rest : List Answer) (k : ℕ) → end_of test (front ++ rest) ≡ Some k
    → k < length front → end_of test front ≡ Some k
unfolding end_of
end_of-cut test front rest k e within =
    let all : List Answer = front ++ rest in
    let least : IsLeast (length all) (ends_at test all) k =
    least_is_least (length all) k (ends_at test all) e in
    least_below_some (length front) k (ends_at test front) within
    (ends_at-front test front rest k within ∙ least.passes)
    (λ j below. ends_at-front test front rest j (omega arith) ∙ least.first j below)

pub end_kept :
    (test : Test) (xs : List Answer) (a : Answer) (k : ℕ)
    → end_of test xs ≡ Some k → end_of test (xs ++ a ∷ []) ≡ Some k
unfolding end_of
end_kept test xs a k e =
    rw (length-more xs a)
    (least_below_kept (length xs) k (ends_at test (xs ++ a ∷ [])) (sym (same_below test xs a) ∙ e))

pub end_more :
    (test : Test) (xs : List Answer) (a : Answer) → end_of test xs ≡ None
    → end_of test (xs ++ a ∷ [])
    ≡ (if ends_at test (xs ++ a ∷ []) (length xs) then Some (length xs) else None)
unfolding end_of
end_more test xs a e =
    rw (length-more xs a)
    (least_below_more (length xs) (ends_at test (xs ++ a ∷ [])) (sym (same_below test xs a) ∙ e))
