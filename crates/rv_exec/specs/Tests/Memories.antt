-- The memories that the tests run on.
use Rattle.std.specs.Prelude.{ℕ, ◌+◌, List, [], ◌∷◌}
use Rattle.std.specs.FinMap as map
use Rattle.rv_exec.specs.Memory.{Words}

-- each word with its address, the first at the address given
abbrev pub words_from : ℕ → List ℕ → List (ℕ × ℕ)
words_from base [] = []
words_from base (w ∷ ws) = (base, w) ∷ words_from (base + 4) ws

-- the words from address 0 on
unfoldable pub flat_words : List ℕ → Words
flat_words ws = map.from_entries (words_from 0 ws)

-- two words. Where they have one address, the first is meant
unfoldable pub two_words : ℕ → ℕ → ℕ → ℕ → Words
two_words at word other_at other = map.from_entries ((at, word) ∷ (other_at, other) ∷ [])
