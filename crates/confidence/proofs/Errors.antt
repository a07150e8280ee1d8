-- The test of confidence passes for every error above one that passes.
use Rattle.std.proofs.Common.{◌≡◌, ◌+◌, ◌-◌, ◌*◌, ◌<◌, ◌≤◌, ℕ, true, false, Bool, Option, Some, None, if◌then◌else◌, nat_lt, refl, arith}
use Rattle.std.proofs.lemmas.Bool.{leb-false, lt-leb, lt-ltb, le-ltb}
use Rattle.std.proofs.lemmas.Nat.{mul-le}
use Rattle.std.proofs.Math.Nat.{mul-le-mul_right}
use Rattle.smarts_base.specs.Least.{NonePasses, IsLeastIfAny}
use Rattle.smarts_base.proofs.Leasts.{least_below_none, least_below_some, least_below_is}
use Rattle.confidence.specs.declared.sums.Sums.{Sums}
use Rattle.confidence.specs.Sums.{square}
use Rattle.confidence.specs.Confidence.{is_within, least_error_of}

-- where an error is too small, so is each smaller one
pub fails_up_to :
    (sums : Sums) (z error : ℕ) → is_within sums z error ≡ false
    → NonePasses (error + 1) (is_within sums z)
fails_up_to sums z error fails k below =
    let left : ℕ = square z * 100 * (sums.n * sums.s2 - square sums.s1) in
    let squares : square k ≤ square error = mul-le k k error error (omega arith) (omega arith) in
    let factors : square k * (sums.n - 1) ≤ square error * (sums.n - 1) =
    mul-le-mul_right (sums.n - 1) squares in
    let rights : square k * (sums.n - 1) * square sums.s1 ≤ square error * (sums.n - 1) * square sums.s1 =
    mul-le-mul_right (square sums.s1) factors in
    let more : square error * (sums.n - 1) * square sums.s1 < left = leb-false _ _ fails in
    lt-leb left (square k * (sums.n - 1) * square sums.s1) (omega arith)

pub no_error_of_one : (sums : Sums) (z : ℕ) → sums.n < 2 → least_error_of sums z ≡ None
unfolding least_error_of
no_error_of_one sums z few = rw (lt-ltb sums.n 2 few) refl

none_either_way : (b : Bool) → ◌≡◌ {A = Option ℕ} (if b then None else None) None
none_either_way true = refl
none_either_way false = refl

pub no_error :
    (sums : Sums) (z : ℕ) → is_within sums z 9999 ≡ false → least_error_of sums z ≡ None
unfolding least_error_of
no_error sums z fails =
    simp (least_below_none 10000 (is_within sums z) (fails_up_to sums z 9999 fails))
    (none_either_way (nat_lt sums.n 2))

pub error_found :
    (sums : Sums) (z error : ℕ) → 2 ≤ sums.n → error ≤ 9999
    → is_within sums z error ≡ true → NonePasses error (is_within sums z)
    → least_error_of sums z ≡ Some error
unfolding least_error_of
error_found sums z error two most passes fails =
    rw (le-ltb sums.n 2 two)
    (least_below_some 10000 error (is_within sums z) (omega arith) passes fails)

-- the least error in words, for what is known to be it
pub error_is_least :
    (sums : Sums) (z : ℕ) (found : Option ℕ) → found ≡ least_error_of sums z → 2 ≤ sums.n
    → IsLeastIfAny 10000 (is_within sums z) found
unfolding least_error_of
error_is_least sums z found e two =
    rw (e, le-ltb sums.n 2 two) (least_below_is 10000 (is_within sums z))
