-- Bytes of memory, one more at a time.
use Rattle.std.proofs.Common.{◌≡◌, ◌+◌, ℕ, [], ◌∷◌, ◌++◌, refl}
use Rattle.std.proofs.lemmas.List.FromFn.{map-range_with_len_more}
use Rattle.rv_exec.specs.Memory.{Words}
use Rattle.rv_machine.specs.Output.{byte_at, bytes_at}

pub bytes_none : (words : Words) (addr : ℕ) → bytes_at words addr 0 ≡ []
unfolding bytes_at
bytes_none words addr = refl

pub bytes_more :
    (words : Words) (addr len : ℕ)
    → bytes_at words addr (len + 1) ≡ bytes_at words addr len ++ byte_at words (addr + len) ∷ []
unfolding bytes_at
bytes_more words addr len = map-range_with_len_more (byte_at words) addr len (addr + len) refl
