-- The sums of no unit, and of a list with one more unit.
use Rattle.std.proofs.Common.{◌≡◌, ℕ, List, [], ◌∷◌, ◌++◌, arith, length-append, zero-add, refl}
use Rattle.std.proofs.lemmas.List.Sums.{sum_by-append}
use Rattle.confidence.specs.Sums.{square, sums_of, with_cycles, IsBounded}

pub sums_of-nothing : (sums_of []).n ≡ 0
unfolding sums_of
sums_of-nothing = refl

pub bounded-nothing : IsBounded (sums_of [])
unfolding sums_of
bounded-nothing = record {
  none_s1 = λ e. refl;
  none_s2 = λ e. refl;
  units = omega arith;
  s1_least = omega arith;
  s1_most = λ some. absurd (omega arith);
  s2_most = λ some. absurd (omega arith);
  squares = omega arith;
}

pub sums_of-more :
    (cycles : List ℕ) (c : ℕ) → sums_of (cycles ++ c ∷ []) ≡ with_cycles (sums_of cycles) c
unfolding sums_of
sums_of-more cycles c =
    simp (
      length-append cycles (c ∷ []),
      sum_by-append (λ x. x) cycles (c ∷ []),
      sum_by-append square cycles (c ∷ []),
      zero-add,
    )
