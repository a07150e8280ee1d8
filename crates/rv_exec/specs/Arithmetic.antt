-- What the arithmetic instructions give, of two words.
use Rattle.std.specs.Prelude.{ℕ, ◌+◌, ◌-◌, ◌*◌, ◌/◌, ◌%◌, ◌^◌, ℤ, pos, ◌-ℤ◌, ◌*ℤ◌, Bool, ◌==◌, int_lt, int_div, int_rem, if◌then◌else◌}
use Rattle.std.specs.Int.{int_shr}
use Rattle.rv_exec.specs.Word.{word, signed}

unfoldable pub sum_of : ℕ → ℕ → ℕ
sum_of a b = (a + b) % 2 ^ 32

unfoldable pub difference_of : ℕ → ℕ → ℕ
difference_of a b = word (pos a -ℤ pos b)

-- 1 where the test holds, else 0
abbrev pub flag : Bool → ℕ
flag test = if test then 1 else 0

unfoldable pub is_less_signed : ℕ → ℕ → Bool
is_less_signed a b = int_lt (signed a) (signed b)

-- shift amounts are the low 5 bits of b
unfoldable pub shifted_left : ℕ → ℕ → ℕ
shifted_left a b = a * 2 ^ (b % 32) % 2 ^ 32

unfoldable pub shifted_right : ℕ → ℕ → ℕ
shifted_right a b = a / 2 ^ (b % 32)

unfoldable pub shifted_right_signed : ℕ → ℕ → ℕ
shifted_right_signed a b = word (int_shr (signed a) (b % 32))

unfoldable pub product_of : ℕ → ℕ → ℕ
product_of a b = a * b % 2 ^ 32

-- the upper 32 bits of a product of 64
unfoldable pub upper : ℤ → ℕ
upper z = word (int_shr z 32)

unfoldable pub product_high_signed : ℕ → ℕ → ℕ
product_high_signed a b = upper (signed a *ℤ signed b)

unfoldable pub product_high_mixed : ℕ → ℕ → ℕ
product_high_mixed a b = upper (signed a *ℤ pos b)

unfoldable pub product_high : ℕ → ℕ → ℕ
product_high a b = a * b / 2 ^ 32

-- a division rounds toward zero, and one by zero gives all ones
unfoldable pub quotient_signed : ℕ → ℕ → ℕ
quotient_signed a b = if b == 0 then 2 ^ 32 - 1 else word (int_div (signed a) (signed b))

unfoldable pub quotient_of : ℕ → ℕ → ℕ
quotient_of a b = if b == 0 then 2 ^ 32 - 1 else a / b

-- a remainder has the sign of a, and is a where b is zero
unfoldable pub remainder_signed : ℕ → ℕ → ℕ
remainder_signed a b = if b == 0 then a else word (int_rem (signed a) (signed b))

unfoldable pub remainder_of : ℕ → ℕ → ℕ
remainder_of a b = if b == 0 then a else a % b
