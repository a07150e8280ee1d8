-- Products of 64 bits.
use Rattle.std.proofs.Common.{◌≡◌, ◌<◌, ◌≤◌, ◌^◌, ◌-◌, ℕ, arith, pos, ◌*ℤ◌, to_z, of_z, w64, lit<}
use Rattle.std.specs.Prelude.{unsigned_abs}
use Rattle.std.proofs.lemmas.Int.{ints, to_z-of_z, fits_signed_mul}
use Rattle.std.proofs.lemmas.Bool.Decides.{nat_tests}
use Rattle.rv_exec.specs.Word.{signed}

signed_abs : (a : ℕ) → a < 2 ^ 32 → unsigned_abs (signed a) ≤ 2 ^ 31
signed_abs a fits = grind (arith, ints, nat_tests)

-- a product of a signed word and an unsigned one fits 64 bits
pub mixed_product :
    (a b : ℕ) → a < 2 ^ 32 → b < 2 ^ 32
    → to_z w64 (of_z w64 (signed a *ℤ pos b)) ≡ signed a *ℤ pos b
mixed_product a b fits_a fits_b =
    to_z-of_z w64 (signed a *ℤ pos b)
    (fits_signed_mul w64 (signed a) (pos b) (2 ^ 31) (2 ^ 32 - 1) (signed_abs a fits_a)
    (omega arith) (lit< tt))
