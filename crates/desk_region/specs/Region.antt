-- A region of words, of which those in use stand in front.
use Rattle.std.specs.Prelude.{ℕ, List, ◌++◌, replicate}

-- the words in use, and how many words there are, in use or free
pub record RegionValue : Type 0 where
  pub words : List ℕ
  pub size : ℕ

-- with so many more words in use, which are zeros
abbrev pub with_zeros : RegionValue → ℕ → RegionValue
with_zeros region len = record region { words = region.words ++ replicate len 0 }
