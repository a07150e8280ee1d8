-- Pairs in order, and the first that isn't.
use Rattle.std.proofs.Common.{◌≡◌, ◌<◌, ◌≤◌, ◌^◌, ℕ, ◌+◌, List, [], length, take, true, false, not, Some, None, refl, ap, ◌∙◌, arith}
use Rattle.std.specs.Prelude.{slice_index_or}
use Rattle.std.proofs.lemmas.List.{take_more, take_all}
use Rattle.smarts_base.specs.Least.{least_below}
use Rattle.smarts_base.proofs.Leasts.{least_below_none, least_below_more, least_below_some, none_passes}
use Rattle.live_words.specs.Follow.{Follow}
use Rattle.live_words.specs.Words.{IsPair}
use Rattle.live_words.proofs.FollowLemmas.{follow_at, follow_more}
use Rattle.live_points.specs.Sharing.{ranks}
use Rattle.livepoint_format.specs.Pairs.{is_unranked, first_unranked}

-- the first pairs are in order
pub record AreRanked (pairs : List (ℕ × ℕ)) (count : ℕ) : Type 0 where
  pub none : least_below count (is_unranked pairs) ≡ None
  pub ranked : Follow (IsPair ranks) [] (take count pairs)

pub none_ranked : (pairs : List (ℕ × ℕ)) → AreRanked pairs 0
none_ranked pairs = record { none = least_below_none 0 (is_unranked pairs) (λ k h. absurd (omega arith)); ranked = tt }

pub more_ranked :
    (pairs : List (ℕ × ℕ)) (i : ℕ) (pair : ℕ × ℕ) → AreRanked pairs i → i < length pairs → slice_index_or pairs i (0, 0) ≡ pair
    → (pair.0 < 2 ^ 32) × (pair.1 < 2 ^ 32) → ranks (take i pairs) pair ≡ true → AreRanked pairs (i + 1)
more_ranked pairs i pair are h is fits passes =
    let stands : is_unranked pairs i ≡ false = rw is (ap not passes) in
    record {
      none = least_below_more i (is_unranked pairs) are.none ∙ rw stands refl;
      ranked =
          rw (take_more pairs i (0, 0) h, is)
          (follow_more (IsPair ranks) [] (take i pairs) pair are.ranked
          (record { addr = fits.0; value = fits.1; passes = passes }));
    }

pub unranked_at :
    (pairs : List (ℕ × ℕ)) (i : ℕ) (pair : ℕ × ℕ) → AreRanked pairs i → i < length pairs → slice_index_or pairs i (0, 0) ≡ pair
    → ranks (take i pairs) pair ≡ false → first_unranked pairs ≡ Some i
unranked_at pairs i pair are h is fails =
    least_below_some (length pairs) i (is_unranked pairs) h (rw is (ap not fails)) (none_passes i (is_unranked pairs) are.none)

pub all_ranked : (pairs : List (ℕ × ℕ)) (count : ℕ) → length pairs ≤ count → AreRanked pairs count → Follow (IsPair ranks) [] pairs
all_ranked pairs count h are = rw (take_all count pairs h) at are.ranked

pub ranked_none : (pairs : List (ℕ × ℕ)) → Follow (IsPair ranks) [] pairs → first_unranked pairs ≡ None
ranked_none pairs ranked =
    least_below_none (length pairs) (is_unranked pairs)
    (λ i h. ap not (follow_at (IsPair ranks) [] pairs i (0, 0) ranked h).passes)
