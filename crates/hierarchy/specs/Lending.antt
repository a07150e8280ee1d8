-- What is lent for writing of caches and predictor: what is written there becomes that part.
use Rattle.std.specs.Borrow.{Lends, MutBor, Fml}
use Rattle.lru_plain.specs.Cache.{Cache}
use Rattle.lru_plain.specs.contracts.cache.PlainCache.{the_row as cache_row}
use Rattle.predictor.specs.Tables.{Tables}
use Rattle.predictor.specs.contracts.predictor.Predictor.{the_row as predictor_row}
use Rattle.hierarchy.specs.declared.places.Places.{Places}
use Rattle.hierarchy.specs.declared.state.State.{State}
use Rattle.hierarchy.specs.contracts.places.Places.{the_row as places_row}
use Rattle.hierarchy.specs.contracts.state.State.{the_row}

abbrev pub LendsCaches : MutBor State → MutBor (Places Cache) → Fml
LendsCaches s r = Lends the_row (places_row cache_row) s r (λ w. record s.now { caches = w })

abbrev pub LendsPredictor : MutBor State → MutBor Tables → Fml
LendsPredictor s r = Lends the_row predictor_row s r (λ w. record s.now { predictor = w })
