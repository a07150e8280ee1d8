-- Which bytes a source gives and a sink takes. `None` is a source or a sink that doesn't tell its bytes.
use Rattle.std.specs.Prelude.{◌≡◌, ◌<◌, ◌≤◌, ◌+◌, ℕ, List, [], length, take, Option, IfSome, Result, MatchResult}
use Rattle.std.specs.Io.KnownBytes.{prepend_known, append_known}

-- the source gives these bytes: they stood at the front of its rest, and no longer do
abbrev pub Gives : Option (List ℕ) → List ℕ → Option (List ℕ) → Type 0
Gives old bytes new = old ≡ prepend_known bytes new

-- the sink takes these bytes: they come behind what it took before
abbrev pub Takes : Option (List ℕ) → List ℕ → Option (List ℕ) → Type 0
Takes old bytes new = new ≡ append_known old bytes

-- nothing is left, where the source tells it
abbrev pub IsAtEnd : Option (List ℕ) → Type 0
IsAtEnd rest = IfSome rest (λ bytes. bytes ≡ [])

-- A read gives the front of the buffer, and no byte only at the end. A failed one leaves the rest as it was.
abbrev pub Reads : {E : Type 0} → Option (List ℕ) → Option (List ℕ) → Result ℕ E → List ℕ → Type 0
Reads old new result buffer =
    MatchResult result
    (λ n. (n ≤ length buffer) × Gives old (take n buffer) new × (n ≡ 0 → IsAtEnd old))
    (λ _. new ≡ old)

-- A write takes the front of the piece, at least one byte. A failed one takes nothing.
abbrev pub Writes : {E : Type 0} → Option (List ℕ) → Option (List ℕ) → Result ℕ E → List ℕ → Type 0
Writes old new result piece =
    MatchResult result
    (λ n. (0 < n) × (n ≤ length piece) × Takes old (take n piece) new)
    (λ _. new ≡ old)

-- the bytes up to one more than a limit
unfoldable pub cut_past : ℕ → List ℕ → List ℕ
cut_past limit bytes = take (limit + 1) bytes
