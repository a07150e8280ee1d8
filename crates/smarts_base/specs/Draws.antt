-- The rule of draws: a linear congruential generator over 64 bits, of which a draw gives the
-- upper 31 bits. The multiplier and the increment are Knuth's for MMIX.
use Rattle.std.specs.Prelude.{◌+◌, ◌*◌, ◌/◌, ◌%◌, ◌^◌, ℕ}

-- the state after a draw; the first draw starts at the seed
unfoldable pub next_state : ℕ → ℕ
next_state state = (state * 6364136223846793005 + 1442695040888963407) % 2 ^ 64

-- the number that the draw from this state gives
unfoldable pub drawn : ℕ → ℕ
drawn state = next_state state / 2 ^ 33
