-- How many digits a number has.
use Rattle.std.proofs.Common.{◌<◌, ◌≤◌, ◌^◌, ℕ, length, arith, lit<}
use Rattle.std.proofs.lemmas.Fmt.{length-decimal-le}
use Rattle.std.specs.Fmt.{decimal}

pub decimal_short : (n : ℕ) → n < 2 ^ 64 → length (decimal n) ≤ 20
decimal_short n small = length-decimal-le 20 n (lit< tt) (omega arith) small

pub decimal_of_ten : (n : ℕ) → n < 2 ^ 32 → length (decimal n) ≤ 10
decimal_of_ten n small = length-decimal-le 10 n (lit< tt) (omega arith) (omega arith)

pub decimal_of_two : (n : ℕ) → n < 100 → length (decimal n) ≤ 2
decimal_of_two n small = length-decimal-le 2 n (lit< tt) (omega arith) (omega arith)
