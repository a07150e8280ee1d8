-- The greatest of bytes.
use Rattle.std.specs.Prelude.{ℕ, max, List, fold}

-- 0 where there are none
unfoldable pub greatest : List ℕ → ℕ
greatest bytes = fold (λ most byte. max most byte) 0 bytes
