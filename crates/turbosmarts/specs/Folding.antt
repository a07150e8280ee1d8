-- The answers of units in the order of visits.
use Rattle.std.specs.Prelude.{◌<◌, ℕ, List, length, map, slice_index}
use Rattle.confidence.specs.declared.answer.Answer.{Answer}
use Rattle.confidence.specs.declared.answer.Answer.TheVariants.{Cycles}

-- every number of the order is a place in a list of that length
abbrev pub ArePlaces : List ℕ → ℕ → Type 0
ArePlaces order len = (k : ℕ) → k < length order → slice_index order k < len

-- the answers of units of these cycles, in the order of visits
unfoldable pub visited : List ℕ → List ℕ → List Answer
visited cycles order = map (λ p. Cycles (slice_index cycles p)) order
