-- The rotation by which an address becomes a place in a block.
use Rattle.std.proofs.Common.{◌≡◌, ◌<◌, ◌+◌, ◌*◌, ◌/◌, ◌%◌, ◌^◌, ℕ, ◌∙◌, arith}
use Rattle.std.specs.Int.{rotate_right, w32}
use Rattle.std.specs.Int.Bits.{or_shifted_r}

-- the quotient by 4, and what is left over in the two highest bits
pub rotated : (n : ℕ) → n < 2 ^ 32 → rotate_right w32 n 2 ≡ n / 4 + n % 4 * 2 ^ 30
rotated n small =
    let high : n * 2 ^ 30 % 2 ^ 32 ≡ n % 4 * 2 ^ 30 = omega arith in
    let low : n / 4 < 2 ^ 30 = omega arith in
    rw high (or_shifted_r (n % 4) 30 (n / 4) low ∙ (omega arith))
