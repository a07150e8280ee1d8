-- What is lent of a region for writing: what is written there becomes its words there.
use Rattle.std.specs.Prelude.{ℕ, List}
use Rattle.std.specs.Borrow.{Lends, MutBor, Fml, Array, u64}
use Rattle.desk_region.specs.Span.{with_words_from}
use Rattle.desk_region.specs.Region.{RegionValue}
use Rattle.desk_region.specs.contracts.region.Region.{the_row}

abbrev pub LendsWords : MutBor RegionValue → ℕ → MutBor (List ℕ) → Fml
LendsWords s start r =
    Lends the_row (Array u64 0) s r (λ ws. record s.now { words = with_words_from start ws s.now.words })
