-- What is lent for writing of the caches.
use Rattle.std.specs.Borrow.{Lends, MutBor, Fml}
use Rattle.lru_plain.specs.Cache.{Cache}
use Rattle.lru_plain.specs.contracts.cache.PlainCache.{the_row as cache_row}
use Rattle.hierarchy.specs.declared.places.Places.{Places}
use Rattle.hierarchy.specs.contracts.places.Places.{the_row as places_row}
use Rattle.hierarchy.specs.contracts.caches.Caches.{the_row}

abbrev pub LendsPlaces : MutBor (Places Cache) → MutBor (Places Cache) → Fml
LendsPlaces s r = Lends the_row (places_row cache_row) s r (λ w. w)
