use Rattle.std.proofs.Common.{◌≡◌, ◌<◌, ℕ, map, string_bytes, false}
use Rattle.std.specs.Option.{is_some}
use Rattle.smarts_text.specs.Words.{fault_at}
use Rattle.smarts_text.proofs.words.fault_among.Given as goal

-- no word so far has a fault
abbrev pub invariant-loop-k : goal.invariant-loop-k
invariant-loop-k l =
    (j : ℕ) → j < l.k → is_some (fault_at l.groups (map string_bytes l.words) j) ≡ false
