-- The cache after a list of addresses.
use Rattle.std.proofs.Common.{◌≡◌, ℕ, List, [], ◌∷◌, ◌++◌, refl}
use Rattle.std.proofs.lemmas.Grind.{fold-append}
use Rattle.lru_plain.specs.Shape.{Shape}
use Rattle.lru_plain.specs.Cache.{plain, touched, empty_sets}

-- after none it is empty
pub plain_none : (g : Shape) → plain [] g ≡ empty_sets g
unfolding plain
plain_none g = refl

-- after one more it is touched by that one
pub plain_more : (addrs : List ℕ) (addr : ℕ) (g : Shape) → plain (addrs ++ addr ∷ []) g ≡ touched g (plain addrs g) addr
unfolding plain
plain_more addrs addr g = fold-append (touched g) (empty_sets g) addrs (addr ∷ [])
