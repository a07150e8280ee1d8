-- That one more unit keeps the sums within their bounds, and how large products of them are.
use Rattle.std.proofs.Common.{◌≡◌, ◌+◌, ◌-◌, ◌*◌, ◌^◌, ◌<◌, ◌≤◌, ℕ, arith, inl, inr}
use Rattle.std.proofs.Math.Nat.{le_of_mul-le-mul_left}
use Rattle.std.proofs.lemmas.Nat.{mul-le}
use Rattle.std.proofs.lemmas.Bool.{cases_lt}
use Rattle.confidence.specs.declared.sums.Sums.{Sums}
use Rattle.confidence.specs.Sums.{square, with_cycles, IsBounded, IsCycles}

-- twice a product is at most the sum of the squares
twice_product : (a b : ℕ) → 2 * (a * b) ≤ a * a + b * b
twice_product a b = elim (cases_lt a b) [
  | inl lt ↦
      let rest : ℕ = b - a in
      let e : b ≡ a + rest = omega arith in
      rw e (omega arith)
  | inr ge ↦
      let rest : ℕ = a - b in
      let e : a ≡ b + rest = omega arith in
      rw e (omega arith)
]

-- twice a sum times one more value is at most n squares of that value and the sum of squares
twice_sum : (n s1 s2 c : ℕ) → 0 < n → s1 * s1 ≤ n * s2 → 2 * (c * s1) ≤ n * (c * c) + s2
twice_sum n s1 s2 c measured squares =
    let all : 2 * ((n * c) * s1) ≤ (n * c) * (n * c) + s1 * s1 = twice_product (n * c) s1 in
    let scaled : n * (2 * (c * s1)) ≤ n * (n * (c * c) + s2) = omega arith in
    le_of_mul-le-mul_left scaled measured

square_below : (c : ℕ) → c < 2 ^ 26 → c * c < 2 ^ 52
square_below c h =
    let most : c * c ≤ 67108863 * 67108863 = mul-le c c 67108863 67108863 (omega arith) (omega arith) in
    omega arith

pub bounded_more :
    (sums : Sums) (c : ℕ) → IsBounded sums → sums.n < 65536 → IsCycles c
    → IsBounded (with_cycles sums c)
bounded_more sums c old room cycles =
    let below : c * c < 2 ^ 52 = square_below c cycles.1 in
    elim (cases_lt 0 sums.n) [
      | inl some ↦
          let twice : 2 * (c * sums.s1) ≤ sums.n * (c * c) + sums.s2 =
          twice_sum sums.n sums.s1 sums.s2 c some old.squares in
          let s1 : sums.s1 < sums.n * 2 ^ 26 = old.s1_most some in
          let s2 : sums.s2 < sums.n * 2 ^ 52 = old.s2_most some in
          record {
            none_s1 = λ e. absurd (omega arith);
            none_s2 = λ e. absurd (omega arith);
            units = omega arith;
            s1_least = omega (arith, old.s1_least);
            s1_most = λ _. omega arith;
            s2_most = λ _. omega arith;
            squares = omega (arith, old.squares);
          }
      | inr none ↦
          let n : sums.n ≡ 0 = omega arith in
          let s1 : sums.s1 ≡ 0 = old.none_s1 n in
          let s2 : sums.s2 ≡ 0 = old.none_s2 n in
          record {
            none_s1 = λ e. absurd (omega arith);
            none_s2 = λ e. absurd (omega arith);
            units = omega arith;
            s1_least = omega arith;
            s1_most = λ _. omega arith;
            s2_most = λ _. omega arith;
            squares = rw (n, s1, s2) (omega arith);
          }
    ]

-- the right side of the test fits 128 bits for every error up to 9999
pub product_fits :
    (sums : Sums) (error : ℕ) → IsBounded sums → 0 < sums.n → error ≤ 9999
    → square error * (sums.n - 1) * square sums.s1 < 2 ^ 128
product_fits sums error bounds some most =
    let below : sums.s1 < sums.n * 2 ^ 26 = bounds.s1_most some in
    let s1 : sums.s1 ≤ 2 ^ 42 = omega (arith, bounds.units) in
    let square_s1 : square sums.s1 ≤ 2 ^ 42 * 2 ^ 42 = mul-le _ _ _ _ s1 s1 in
    let square_error : square error ≤ 9999 * 9999 = mul-le _ _ _ _ most most in
    let others : sums.n - 1 ≤ 65535 = omega (arith, bounds.units) in
    let factor : square error * (sums.n - 1) ≤ 9999 * 9999 * 65535 =
    mul-le _ _ _ _ square_error others in
    let all : square error * (sums.n - 1) * square sums.s1 ≤ 9999 * 9999 * 65535 * (2 ^ 42 * 2 ^ 42) =
    mul-le _ _ _ _ factor square_s1 in
    omega arith
