-- A block that is looked for in a set.
use Rattle.std.proofs.Common.{◌≡◌, ℕ, Bool, true, false, List, refl, sym}
use Rattle.std.specs.Prelude.{◌==◌, ◌↔◌, IsTrue, Contains}
use Rattle.std.specs.List.{list_any}
use Rattle.std.proofs.lemmas.Bool.{eqb-true, false≢true}
use Rattle.std.proofs.lemmas.Cmp.{nat_eq_equiv}
use Rattle.std.proofs.lemmas.Map.Views.{Contains-from_any, list_any-from_Contains}

no_block :
    (block : ℕ) (set : List ℕ) (found : Bool) → (Contains set block → ⊥)
    → list_any (λ x. block == x) set ≡ found → false ≡ found
no_block block set false none is = refl
no_block block set true none is = absurd (none (Contains-from_any (λ x y h. eqb-true x y h) block set is))

-- what tells whether the block is in the set is the test for it
pub found :
    (b : Bool) (block : ℕ) (set : List ℕ) → IsTrue b ↔ Contains set block
    → b ≡ list_any (λ x. block == x) set
found true block set h = sym (list_any-from_Contains nat_eq_equiv block set (h.0 refl))
found false block set h =
    no_block block set (list_any (λ x. block == x) set) (λ there. false≢true (h.1 there)) refl
