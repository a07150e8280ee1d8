-- What a buffer holds after bytes were written behind what it held.
use Rattle.std.specs.Prelude.{◌≡◌, ℕ, List, ◌++◌, take}

-- it holds what it held, and a front of the text
pub record Cut (old new text : List ℕ) : Type 0 where
  pub count : ℕ
  pub is : new ≡ old ++ take count text
