-- What holds of the least number below a bound that passes a test.
use Rattle.std.proofs.Common.{◌≡◌, ◌<◌, ◌+◌, ℕ, Bool, true, false, if◌then◌else◌, Option, Some, None, zero, suc, refl, arith, add-one, inl, inr, subst}
use Rattle.std.proofs.lemmas.Bool.{cases_lt}
use Rattle.smarts_base.specs.Least.{least_below, NonePasses, IsLeast, IsLeastIfAny}
use Rattle.std.specs.Option.{option_or}

pub least_below_none :
    (n : ℕ) (test : ℕ → Bool) → ((k : ℕ) → k < n → test k ≡ false) → least_below n test ≡ None
unfolding least_below
least_below_none zero test fails = refl
least_below_none (suc n) test fails =
    let below : least_below n test ≡ None = least_below_none n test (λ k h. fails k (omega arith)) in
    let last : test n ≡ false = fails n (omega arith) in
    rw (below, last) refl

pub least_below_same :
    (n : ℕ) (test other : ℕ → Bool) → ((k : ℕ) → k < n → test k ≡ other k)
    → least_below n test ≡ least_below n other
unfolding least_below
least_below_same zero test other same = refl
least_below_same (suc n) test other same =
    let below : least_below n test ≡ least_below n other =
    least_below_same n test other (λ k h. same k (omega arith)) in
    let last : test n ≡ other n = same n (omega arith) in
    rw (below, last) refl

pub least_below_more :
    (n : ℕ) (test : ℕ → Bool) → least_below n test ≡ None
    → least_below (n + 1) test ≡ (if test n then Some n else None)
unfolding least_below
least_below_more n test none = rw (add-one, none) refl

pub least_below_kept :
    (n m : ℕ) (test : ℕ → Bool) → least_below n test ≡ Some m → least_below (n + 1) test ≡ Some m
unfolding least_below
least_below_kept n m test found = rw (add-one, found) refl

pub least_below_some :
    (n m : ℕ) (test : ℕ → Bool) → m < n → test m ≡ true → ((k : ℕ) → k < m → test k ≡ false)
    → least_below n test ≡ Some m
unfolding least_below
least_below_some zero m test h passes fails = absurd (omega arith)
least_below_some (suc n) m test h passes fails =
    elim (cases_lt m n) [
      | inl lt ↦ rw (least_below_some n m test lt passes fails) refl
      | inr ge ↦
          let same : m ≡ n = omega arith in
          let last : test n ≡ true = rw (← same) passes in
          let below : least_below n test ≡ None =
          least_below_none n test (λ k b. fails k (omega arith)) in
          rw (below, last, same) refl
    ]

more_fail :
    (n : ℕ) (test : ℕ → Bool) → NonePasses n test → test n ≡ false → NonePasses (suc n) test
more_fail n test fails last k h =
    elim (cases_lt k n) [
      | inl lt ↦ fails k lt
      | inr ge ↦ let same : k ≡ n = omega arith in rw same last
    ]

one_more :
    (n : ℕ) (test : ℕ → Bool) (found : Option ℕ) (last : Bool)
    → test n ≡ last → IsLeastIfAny n test found
    → IsLeastIfAny (suc n) test (option_or found (if last then Some n else None))
one_more n test (Some m) last e least =
    record { below = omega (arith, least.below); passes = least.passes; first = least.first }
one_more n test None true e fails = record { below = omega arith; passes = e; first = fails }
one_more n test None false e fails = more_fail n test fails e

-- what `least_below` finds is the least number that passes, and where it finds none, none passes
pub least_below_is : (n : ℕ) (test : ℕ → Bool) → IsLeastIfAny n test (least_below n test)
unfolding least_below
least_below_is zero test = λ k h. absurd (omega arith)
least_below_is (suc n) test =
    one_more n test (least_below n test) (test n) refl (least_below_is n test)

along :
    (n : ℕ) (test : ℕ → Bool) (found expected : Option ℕ)
    → found ≡ expected → IsLeastIfAny n test found → IsLeastIfAny n test expected
along n test found expected e least =
    let P : Option ℕ → Type 0 = λ o. IsLeastIfAny n test o in subst P e least

pub least_is_least : (n m : ℕ) (test : ℕ → Bool) → least_below n test ≡ Some m → IsLeast n test m
least_is_least n m test e = along n test (least_below n test) (Some m) e (least_below_is n test)

pub none_passes : (n : ℕ) (test : ℕ → Bool) → least_below n test ≡ None → NonePasses n test
none_passes n test e = along n test (least_below n test) None e (least_below_is n test)
