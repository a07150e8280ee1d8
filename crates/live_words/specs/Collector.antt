-- The first values that are found at addresses.
use Rattle.std.specs.Prelude.{◌≡◌, ℕ, ◌%◌, ◌^◌, ◌<◌, is_some, if◌then◌else◌}
use Rattle.rv_exec.specs.Memory.{Words, word_at, stored}

-- the words with this one, where they have none at its address
abbrev pub with_first : Words → ℕ → ℕ → Words
with_first words addr value = if is_some (word_at words addr) then words else stored words addr value

-- a word with its address
pub record IsWord (pair : ℕ × ℕ) : Type 0 where
  pub addr : pair.0 < 2 ^ 32
  pub value : pair.1 < 2 ^ 32
  pub aligned : pair.0 % 4 ≡ 0
