-- Stretches of a list of words.
use Rattle.std.specs.Prelude.{ℕ, ◌+◌, ◌^◌, ◌<◌, ◌≤◌, List, ◌++◌, length, take, drop}

-- where it begins, and how many words it has
pub record Stretch : Type 0 where
  pub start : ℕ
  pub len : ℕ

-- its end is a number of words that there may be
abbrev pub IsStretch : Stretch → Type 0
IsStretch span = span.start + span.len < 2 ^ 64

-- it ends among these words
abbrev pub IsWithin : Stretch → List ℕ → Type 0
IsWithin span words = span.start + span.len ≤ length words

-- what stands there
abbrev pub words_at : Stretch → List ℕ → List ℕ
words_at span words = take span.len (drop span.start words)

-- these words with others in the stretch's place
abbrev pub with_words_at : Stretch → List ℕ → List ℕ → List ℕ
with_words_at span new words =
    take span.start words ++ (new ++ drop (span.start + span.len) words)

-- these words with others written over them from a place on, cut where they end
abbrev pub with_words_from : ℕ → List ℕ → List ℕ → List ℕ
with_words_from start new words =
    take (length words) (take start words ++ (new ++ drop (length new) (drop start words)))
