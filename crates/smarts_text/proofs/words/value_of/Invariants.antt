use Rattle.std.proofs.Common.{◌≡◌, ◌++◌, drop, map, string_bytes}
use Rattle.smarts_text.specs.Words.{value_of}
use Rattle.smarts_text.proofs.words.value_of.Given as goal

-- no word so far gave a value
abbrev pub invariant-loop-word : goal.invariant-loop-word
invariant-loop-word l =
    value_of (l.prefix ++ l.name) (map string_bytes l.words) ≡ value_of (l.prefix ++ l.name) (map string_bytes (drop l.word-index l.words))
