-- Pairs by rising address, and the first that is misplaced.
use Rattle.std.proofs.Common.{◌≡◌, ◌<◌, ◌≤◌, ◌^◌, ℕ, zero, suc, ◌+◌, ◌*◌, ◌%◌, List, [], length, take, true, false, not, Option, Some, None, refl, sym, ap, ◌∙◌, arith, inl, inr, add-one}
use Rattle.std.specs.Prelude.{slice_index_or, ◌==◌, ◌&&◌}
use Rattle.std.proofs.lemmas.Bool.{eq-eqb, eqb-true, lt-ltb, ltb-true, and_parts, cases_Bool}
use Rattle.std.proofs.lemmas.List.{take_more, take_all}
use Rattle.smarts_base.specs.Least.{least_below}
use Rattle.smarts_base.proofs.Leasts.{least_below_none, least_below_more, least_below_some, none_passes}
use Rattle.live_words.specs.Follow.{last_of}
use Rattle.live_words.specs.Words.{is_above, rises, IsPair, AreWords, is_misplaced, first_misplaced}
use Rattle.live_words.proofs.FollowLemmas.{follow_at, follow_more, last_or-push}

-- the least multiple of 4 that is above the address of a pair
abbrev pub least_addr : Option (ℕ × ℕ) → ℕ
least_addr None = 0
least_addr (Some pair) = pair.0 + 4

-- the test by that number
passes_by :
    (last : Option (ℕ × ℕ)) (addr : ℕ) → least_addr last % 4 ≡ 0 → addr % 4 ≡ 0 → least_addr last ≤ addr
    → ((addr % 4 == 0) && is_above last addr) ≡ true
passes_by None addr even aligned above = rw (eq-eqb (addr % 4) 0 aligned) refl
passes_by (Some pair) addr even aligned above =
    let h : pair.0 + 4 ≤ addr = above in
    rw (eq-eqb (addr % 4) 0 aligned, lt-ltb pair.0 addr (omega arith)) refl

above_last :
    (last : Option (ℕ × ℕ)) (addr : ℕ) → least_addr last % 4 ≡ 0 → addr % 4 ≡ 0 → is_above last addr ≡ true
    → least_addr last ≤ addr
above_last None addr even aligned above = omega arith
above_last (Some pair) addr even aligned above =
    let h : pair.0 < addr = ltb-true pair.0 addr above in
    let e : (pair.0 + 4) % 4 ≡ 0 = even in
    let goal : pair.0 + 4 ≤ addr = omega arith in
    goal

-- the last of one more
pub last_taken :
    (pairs : List (ℕ × ℕ)) (i : ℕ) → i < length pairs
    → last_of (take (i + 1) pairs) ≡ Some (slice_index_or pairs i (0, 0))
last_taken pairs i h =
    ap last_of (take_more pairs i (0, 0) h) ∙ last_or-push (take i pairs) (slice_index_or pairs i (0, 0)) None

-- each pair that stands behind those before it has an address that is at least 4 times its place
record HasRoom (last : Option (ℕ × ℕ)) (i : ℕ) : Type 0 where
  aligned : least_addr last % 4 ≡ 0
  high : 4 * i ≤ least_addr last
  most : least_addr last ≤ 2 ^ 32

room_at : (pairs : List (ℕ × ℕ)) → AreWords pairs → (i : ℕ) → i ≤ length pairs → HasRoom (last_of (take i pairs)) i
room_at pairs words zero h = record { aligned = refl; high = omega arith; most = omega arith }
room_at pairs words (suc i) h =
    let before : HasRoom (last_of (take i pairs)) i = room_at pairs words i (omega arith) in
    let pair : ℕ × ℕ = slice_index_or pairs i (0, 0) in
    let stands : IsPair rises (take i pairs) pair = follow_at (IsPair rises) [] pairs i (0, 0) words (omega arith) in
    let tests : ((pair.0 % 4 == 0) ≡ true) × (is_above (last_of (take i pairs)) pair.0 ≡ true) =
    and_parts (pair.0 % 4 == 0) (is_above (last_of (take i pairs)) pair.0) stands.passes in
    let aligned : pair.0 % 4 ≡ 0 = eqb-true (pair.0 % 4) 0 tests.0 in
    let above : least_addr (last_of (take i pairs)) ≤ pair.0 =
    above_last (last_of (take i pairs)) pair.0 before.aligned aligned tests.1 in
    let last : last_of (take (suc i) pairs) ≡ Some pair = rw add-one at (last_taken pairs i (omega arith)) in
    rw last (record {
      aligned = omega arith;
      high = omega (arith, before.high);
      most = omega (arith, stands.addr);
    })

pub few_words : (pairs : List (ℕ × ℕ)) → AreWords pairs → length pairs ≤ 2 ^ 30
few_words pairs words =
    let room : HasRoom (last_of (take (length pairs) pairs)) (length pairs) =
    room_at pairs words (length pairs) (omega arith) in
    omega (arith, room.high, room.most)

-- no word is misplaced
pub words_rise : (pairs : List (ℕ × ℕ)) → AreWords pairs → first_misplaced pairs ≡ None
words_rise pairs words =
    least_below_none (length pairs) (is_misplaced pairs)
    (λ i h. ap not (follow_at (IsPair rises) [] pairs i (0, 0) words h).passes)

-- the first pairs rise up to where this address is the least that may come next
pub record AreRisen (pairs : List (ℕ × ℕ)) (count least : ℕ) : Type 0 where
  pub least_is : least ≡ least_addr (last_of (take count pairs))
  pub aligned : least % 4 ≡ 0
  pub high : 4 * count ≤ least
  pub most : least ≤ 2 ^ 32
  pub none : least_below count (is_misplaced pairs) ≡ None
  pub words : AreWords (take count pairs)

pub none_risen : (pairs : List (ℕ × ℕ)) → AreRisen pairs 0 0
none_risen pairs = record {
  least_is = refl;
  aligned = refl;
  high = omega arith;
  most = omega arith;
  none = least_below_none 0 (is_misplaced pairs) (λ k h. absurd (omega arith));
  words = tt;
}

pub more_risen :
    (pairs : List (ℕ × ℕ)) (i least : ℕ) (pair : ℕ × ℕ) → AreRisen pairs i least → i < length pairs
    → slice_index_or pairs i (0, 0) ≡ pair → (pair.0 < 2 ^ 32) × (pair.1 < 2 ^ 32)
    → (pair.0 % 4 ≡ 0) × (least ≤ pair.0)
    → AreRisen pairs (i + 1) (pair.0 + 4)
more_risen pairs i least pair risen h is (small, fits) (aligned, above) =
    let passes : rises (take i pairs) pair ≡ true =
    passes_by (last_of (take i pairs)) pair.0 (rw risen.least_is at risen.aligned) aligned (rw risen.least_is at above) in
    let stands : is_misplaced pairs i ≡ false = rw is (ap not passes) in
    record {
      least_is = sym (ap least_addr (last_taken pairs i h) ∙ ap (λ (p : ℕ × ℕ). p.0 + 4) is);
      aligned = omega arith;
      high = omega (arith, risen.high);
      most = omega arith;
      none = least_below_more i (is_misplaced pairs) risen.none ∙ rw stands refl;
      words =
          rw (take_more pairs i (0, 0) h, is)
          (follow_more (IsPair rises) [] (take i pairs) pair risen.words
          (record { addr = small; value = fits; passes = passes }));
    }

-- and the next doesn't
pub not_risen :
    (pairs : List (ℕ × ℕ)) (i least : ℕ) → AreRisen pairs i least → i < length pairs
    → (((slice_index_or pairs i (0, 0)).0 % 4 ≡ 0) × (least ≤ (slice_index_or pairs i (0, 0)).0) → ⊥)
    → first_misplaced pairs ≡ Some i
not_risen pairs i least risen h fails =
    let pair : ℕ × ℕ = slice_index_or pairs i (0, 0) in
    let misplaced : is_misplaced pairs i ≡ true =
    elim (cases_Bool (rises (take i pairs) pair)) [
      | inl passes ↦
          let tests : ((pair.0 % 4 == 0) ≡ true) × (is_above (last_of (take i pairs)) pair.0 ≡ true) =
          and_parts (pair.0 % 4 == 0) (is_above (last_of (take i pairs)) pair.0) passes in
          let aligned : pair.0 % 4 ≡ 0 = eqb-true (pair.0 % 4) 0 tests.0 in
          let above : least_addr (last_of (take i pairs)) ≤ pair.0 =
          above_last (last_of (take i pairs)) pair.0 (rw risen.least_is at risen.aligned) aligned tests.1 in
          absurd (fails (aligned, rw risen.least_is above))
      | inr not_so ↦ ap not not_so
    ] in
    least_below_some (length pairs) i (is_misplaced pairs) h misplaced (none_passes i (is_misplaced pairs) risen.none)

-- all do, and are words
pub all_risen :
    (pairs : List (ℕ × ℕ)) (count least : ℕ) → length pairs ≤ count → AreRisen pairs count least → AreWords pairs
all_risen pairs count least h risen = rw (take_all count pairs h) at risen.words
