-- Where pairs stand in a table that is in order.
use Rattle.std.proofs.Common.{◌≡◌, ℕ, zero, suc, ◌+◌, ◌-◌, ◌%◌, ◌^◌, ◌<◌, ◌≤◌, ◌⊎◌, Bool, true, false, not, cond, eqb, ltb, ◌&&◌, ◌||◌, Option, Some, None, is_none, List, [], ◌∷◌, ◌++◌, length, filter, get_or, refl, sym, ap, ◌∙◌, arith, inl, inr, eq-eqb, eqb-true, lt-ltb, ltb-true, true≢false}
use Rattle.std.specs.Prelude.{filter_map}
use Rattle.std.specs.List.{AllByRecursion, cons_option}
use Rattle.std.proofs.lemmas.Bool.{cases_Bool, cases_lt, cases_eq, ne_eqb, and_parts}
use Rattle.live_words.specs.Follow.{last_of, Follow}
use Rattle.live_words.specs.Words.{IsPair}
use Rattle.live_words.proofs.FollowLemmas.{last_or-push}
use Rattle.livepoint_format.specs.Shared.{same, place_from, place_in}
use Rattle.live_points.specs.Sharing.{is_behind, ranks}
use Rattle.livepoint_format.specs.Rising.{IsWord, AreRising}
use Rattle.livepoint_format.proofs.Runs.{ArePlaces, pairs_at}

-- one pair stands before another
abbrev IsBefore : ℕ × ℕ → ℕ × ℕ → Type 0
IsBefore p q = (p.0 < q.0) ⊎ ((p.0 ≡ q.0) × (p.1 < q.1))

before_more : (p q r : ℕ × ℕ) → IsBefore p q → IsBefore q r → IsBefore p r
before_more p q r (inl a) (inl b) = inl (omega arith)
before_more p q r (inl a) (inr b) = inl (omega (arith, b.0))
before_more p q r (inr a) (inl b) = inl (omega (arith, a.0))
before_more p q r (inr a) (inr b) = inr (a.0 ∙ b.0, omega (arith, a.1, b.1))

before_low : (p q : ℕ × ℕ) → IsBefore p q → p.0 ≤ q.0
before_low p q (inl a) = omega arith
before_low p q (inr a) = omega (arith, a.0)

before_other : (p q : ℕ × ℕ) → IsBefore p q → same p q ≡ false
before_other p q (inl a) = rw (ne_eqb p.0 q.0 (λ e. omega arith)) refl
before_other p q (inr a) = rw (ne_eqb p.1 q.1 (λ e. omega (arith, a.1))) (go (eqb p.0 q.0))
  where
    go : (b : Bool) → (b && false) ≡ false
    go true = refl
    go false = refl

-- a pair that may stand behind another, or in front
abbrev IsNext : Option (ℕ × ℕ) → ℕ × ℕ → Type 0
IsNext None p = Unit {0}
IsNext (Some before) p = IsBefore before p

-- what stands behind a pair in order
pub record IsRanked (last : Option (ℕ × ℕ)) (p : ℕ × ℕ) : Type 0 where
  pub next : IsNext last p
  pub aligned : p.0 % 4 ≡ 0
  pub addr : p.0 < 2 ^ 32
  pub value : p.1 < 2 ^ 32

abbrev pub AreRanked : Option (ℕ × ℕ) → List (ℕ × ℕ) → Type 0
AreRanked last [] = Unit {0}
AreRanked last (p ∷ ps) = IsRanked last p × AreRanked (Some p) ps

next_of_test : (last : Option (ℕ × ℕ)) (p : ℕ × ℕ) → is_behind last p ≡ true → IsNext last p
next_of_test None p e = tt
next_of_test (Some q) p e = go (ltb q.0 p.0) refl e
  where
    go : (b : Bool) → ltb q.0 p.0 ≡ b → (b || (eqb q.0 p.0 && ltb q.1 p.1)) ≡ true → IsBefore q p
    go true less e = inl (ltb-true _ _ less)
    go false less e =
        let both : (eqb q.0 p.0 ≡ true) × (ltb q.1 p.1 ≡ true) = and_parts _ _ e in
        inr (eqb-true _ _ both.0, ltb-true _ _ both.1)

pub ranked_of_follow : (before table : List (ℕ × ℕ)) → Follow (IsPair ranks) before table → AreRanked (last_of before) table
ranked_of_follow before [] follow = tt
ranked_of_follow before (p ∷ table) follow =
    let both : (eqb (p.0 % 4) 0 ≡ true) × (is_behind (last_of before) p ≡ true) = and_parts _ _ follow.0.passes in
    let last : last_of (before ++ p ∷ []) ≡ Some p = last_or-push before p None in (
      record {
        next = next_of_test (last_of before) p both.1;
        aligned = eqb-true _ _ both.0;
        addr = follow.0.addr;
        value = follow.0.value;
      },
      rw last at (ranked_of_follow (before ++ p ∷ []) table follow.1),
    )

behind_all : (p : ℕ × ℕ) (table : List (ℕ × ℕ)) (i : ℕ) → AreRanked (Some p) table → i < length table → IsBefore p (get_or table i (0, 0))
behind_all p [] i are h = absurd (omega arith)
behind_all p (q ∷ table) zero are h = are.0.next
behind_all p (q ∷ table) (suc i) are h = before_more p q (get_or table i (0, 0)) are.0.next (behind_all q table i are.1 (omega arith))

-- addresses don't fall
low_before : (last : Option (ℕ × ℕ)) (table : List (ℕ × ℕ)) (i j : ℕ) → AreRanked last table → i ≤ j → j < length table
    → (get_or table i (0, 0)).0 ≤ (get_or table j (0, 0)).0
low_before last [] i j are le h = absurd (omega arith)
low_before last (p ∷ table) zero zero are le h = omega arith
low_before last (p ∷ table) zero (suc j) are le h = before_low p (get_or table j (0, 0)) (behind_all p table j are.1 (omega arith))
low_before last (p ∷ table) (suc i) zero are le h = absurd (omega arith)
low_before last (p ∷ table) (suc i) (suc j) are le h = low_before (Some p) table i j are.1 (omega arith) (omega arith)

pub same_self : (p : ℕ × ℕ) → same p p ≡ true
same_self p = rw (eq-eqb p.0 p.0 refl, eq-eqb p.1 p.1 refl) refl

-- each pair is found at its place
found_from : (last : Option (ℕ × ℕ)) (at : ℕ) (table : List (ℕ × ℕ)) (i : ℕ) → AreRanked last table → i < length table
    → place_from at table (get_or table i (0, 0)) ≡ Some (at + i)
found_from last at [] i are h = absurd (omega arith)
found_from last at (p ∷ table) zero are h =
    let none : at ≡ at + 0 = omega arith in
    rw (same_self p) (ap Some none)
found_from last at (p ∷ table) (suc i) are h =
    let along : (at + 1) + i ≡ at + suc i = omega arith in
    rw (before_other p (get_or table i (0, 0)) (behind_all p table i are.1 (omega arith)))
    (found_from (Some p) (at + 1) table i are.1 (omega arith) ∙ ap Some along)

pub found : (table : List (ℕ × ℕ)) (i : ℕ) → AreRanked None table → i < length table → place_in table (get_or table i (0, 0)) ≡ Some i
found table i are h = found_from None 0 table i are h ∙ ap Some (let e : 0 + i ≡ i = omega arith in e)

pub record IsPlace (at : ℕ) (table : List (ℕ × ℕ)) (p : ℕ × ℕ) (i : ℕ) : Type 0 where
  pub from : at ≤ i
  pub below : i < at + length table
  pub is : get_or table (i - at) (0, 0) ≡ p

pub pair_of_same : (p q : ℕ × ℕ) → same p q ≡ true → p ≡ q
pair_of_same p q e =
    let both : (eqb p.0 q.0 ≡ true) × (eqb p.1 q.1 ≡ true) = and_parts _ _ e in
    let first : p.0 ≡ q.0 = eqb-true _ _ both.0 in
    let second : p.1 ≡ q.1 = eqb-true _ _ both.1 in
    λ i. (first i, second i)

pub place_is : (at : ℕ) (table : List (ℕ × ℕ)) (p : ℕ × ℕ) (i : ℕ) → place_from at table p ≡ Some i → IsPlace at table p i
place_is at [] p i e = absurd cc
place_is at (q ∷ table) p i e = go (same q p) refl e (place_is (at + 1) table p i)
  where
    here : Some at ≡ Some i → at ≡ i
    here e = cc

    go : (b : Bool) → same q p ≡ b → cond b (Some at) (place_from (at + 1) table p) ≡ Some i
        → (place_from (at + 1) table p ≡ Some i → IsPlace (at + 1) table p i) → IsPlace at (q ∷ table) p i
    go true is e later =
        let first : at ≡ i = here e in
        let none : i - at ≡ 0 = omega arith in
        record { from = omega arith; below = omega arith; is = rw none (pair_of_same q p is) }
    go false is e later =
        let rest : IsPlace (at + 1) table p i = later e in
        let from : at + 1 ≤ i = rest.from in
        let below : i < (at + 1) + length table = rest.below in
        let one : i - at ≡ suc (i - (at + 1)) = omega arith in
        record { from = omega arith; below = omega arith; is = rw one rest.is }

pub place_of : (table : List (ℕ × ℕ)) (p : ℕ × ℕ) (i : ℕ) → place_in table p ≡ Some i → (i < length table) × (get_or table i (0, 0) ≡ p)
place_of table p i e =
    let is : IsPlace 0 table p i = place_is 0 table p i e in
    let none : i - 0 ≡ i = omega arith in
    (omega (arith, is.below), rw none at is.is)

-- words by rising address stand at rising places
pub places_rise : (table : List (ℕ × ℕ)) → AreRanked None table → (k least : ℕ)
    → ((j : ℕ) → j < k → j < length table → (get_or table j (0, 0)).0 < least)
    → (ws : List (ℕ × ℕ)) → AreRising least ws → ArePlaces k (length table) (filter_map (place_in table) ws)
places_rise table are k least low [] rise = tt
places_rise table are k least low (w ∷ ws) rise = go (place_in table w) refl (λ from low'. places_rise table are from (suc w.0) low' ws rise.1)
  where
    first : least ≤ w.0
    first = rise.0.low

    go : (o : Option ℕ) → place_in table w ≡ o
        → ((from : ℕ) → ((j : ℕ) → j < from → j < length table → (get_or table j (0, 0)).0 < suc w.0) → ArePlaces from (length table) (filter_map (place_in table) ws))
        → ArePlaces k (length table) (cons_option (place_in table w) (filter_map (place_in table) ws))
    go None e later = rw e (later k (λ j h within. let b : (get_or table j (0, 0)).0 < least = low j h within in omega arith))
    go (Some i) e later =
        let at : (i < length table) × (get_or table i (0, 0) ≡ w) = place_of table w i e in
        let addr : (get_or table i (0, 0)).0 ≡ w.0 = ap (λ (p : ℕ × ℕ). p.0) at.1 in
        let above : k ≤ i =
        elim (cases_lt i k) [
          | inl below ↦ absurd (let b : (get_or table i (0, 0)).0 < least = low i below at.0 in omega arith)
          | inr above ↦ above
        ] in
        rw e (
          (above, at.0),
          later (suc i)
              (λ j h within. let b : (get_or table j (0, 0)).0 ≤ (get_or table i (0, 0)).0 = low_before None table j i are (omega arith) at.0 in omega arith),
        )

-- the pairs at the places of words are the words that have places
pub pairs_of_places : (table : List (ℕ × ℕ)) (ws : List (ℕ × ℕ))
    → pairs_at table (filter_map (place_in table) ws) ≡ filter (λ w. not (is_none (place_in table w))) ws
pairs_of_places table [] = refl
pairs_of_places table (w ∷ ws) = go (place_in table w) refl (pairs_of_places table ws)
  where
    go : (o : Option ℕ) → place_in table w ≡ o → pairs_at table (filter_map (place_in table) ws) ≡ filter (λ w. not (is_none (place_in table w))) ws
        → pairs_at table (cons_option (place_in table w) (filter_map (place_in table) ws))
        ≡ cond (not (is_none (place_in table w))) (w ∷ filter (λ w. not (is_none (place_in table w))) ws) (filter (λ w. not (is_none (place_in table w))) ws)
    go None e later = rw e later
    go (Some i) e later =
        let at : (i < length table) × (get_or table i (0, 0) ≡ w) = place_of table w i e in
        rw (e, at.1) (ap (λ (l : List (ℕ × ℕ)). w ∷ l) later)

-- and the places of words are those of the words that have places
pub places_of_shared : (table : List (ℕ × ℕ)) (ws : List (ℕ × ℕ))
    → filter_map (place_in table) (filter (λ w. not (is_none (place_in table w))) ws) ≡ filter_map (place_in table) ws
places_of_shared table [] = refl
places_of_shared table (w ∷ ws) = go (place_in table w) refl (places_of_shared table ws)
  where
    go : (o : Option ℕ) → place_in table w ≡ o → filter_map (place_in table) (filter (λ w. not (is_none (place_in table w))) ws) ≡ filter_map (place_in table) ws
        → filter_map (place_in table) (cond (not (is_none (place_in table w))) (w ∷ filter (λ w. not (is_none (place_in table w))) ws) (filter (λ w. not (is_none (place_in table w))) ws))
        ≡ cons_option (place_in table w) (filter_map (place_in table) ws)
    go None e later = rw e later
    go (Some i) e later = rw (e, e) (ap (λ (l : List ℕ). i ∷ l) later)

module _ (table : List (ℕ × ℕ)) (are : AreRanked None table) where
  pub places_of_pairs : (places : List ℕ) → ((i : ℕ) → i < length places → get_or places i 0 < length table)
      → filter_map (place_in table) (pairs_at table places) ≡ places
  places_of_pairs [] below = refl
  places_of_pairs (place ∷ places) below =
      rw (found table place are (below 0 (omega arith)))
      (ap (λ (l : List ℕ). place ∷ l) (places_of_pairs places (λ i h. below (suc i) (omega arith))))

  pub pairs_are_shared : (places : List ℕ) → ((i : ℕ) → i < length places → get_or places i 0 < length table)
      → AllByRecursion (λ w. is_none (place_in table w) ≡ false) (pairs_at table places)
  pairs_are_shared [] below = tt
  pairs_are_shared (place ∷ places) below =
      (rw (found table place are (below 0 (omega arith))) refl, pairs_are_shared places (λ i h. below (suc i) (omega arith)))

ranked_words : (last : Option (ℕ × ℕ)) (table : List (ℕ × ℕ)) (i : ℕ) → AreRanked last table → i < length table → IsWord 0 (get_or table i (0, 0))
ranked_words last [] i are h = absurd (omega arith)
ranked_words last (p ∷ table) zero are h = record { low = omega arith; aligned = are.0.aligned; addr = are.0.addr; value = are.0.value }
ranked_words last (p ∷ table) (suc i) are h = ranked_words (Some p) table i are.1 (omega arith)

pub pairs_are_words : (table : List (ℕ × ℕ)) → AreRanked None table → (places : List ℕ) → ((i : ℕ) → i < length places → get_or places i 0 < length table)
    → AllByRecursion (IsWord 0) (pairs_at table places)
pairs_are_words table are [] below = tt
pairs_are_words table are (place ∷ places) below =
    (ranked_words None table place are (below 0 (omega arith)), pairs_are_words table are places (λ i h. below (suc i) (omega arith)))

-- ---- searching

-- the pair stands in front of another
abbrev pub stands_before : ℕ × ℕ → ℕ × ℕ → Bool
stands_before p q = is_behind (Some p) q

not_next : (p q : ℕ × ℕ) → stands_before p q ≡ false → IsBefore p q → Unit {0} → ⊥
not_next p q e (inl less) _ = true≢false (sym (ap (λ (b : Bool). b || (eqb p.0 q.0 && ltb p.1 q.1)) (lt-ltb p.0 q.0 less)) ∙ e)
not_next p q e (inr both) _ =
    let is : stands_before p q ≡ true = go (ltb p.0 q.0) in
    true≢false (sym is ∙ e)
  where
    go : (b : Bool) → (b || (eqb p.0 q.0 && ltb p.1 q.1)) ≡ true
    go true = refl
    go false = rw (eq-eqb p.0 q.0 both.0, lt-ltb p.1 q.1 both.1) refl

before_self : (p : ℕ × ℕ) → IsBefore p p → ⊥
before_self p (inl a) = absurd (omega arith)
before_self p (inr a) = absurd (omega (arith, a.1))

-- a pair before another is before all behind that
rank_before : (last : Option (ℕ × ℕ)) (table : List (ℕ × ℕ)) (i j : ℕ) → AreRanked last table → i < j → j < length table
    → IsBefore (get_or table i (0, 0)) (get_or table j (0, 0))
rank_before last [] i j are less h = absurd (omega arith)
rank_before last (p ∷ table) zero zero are less h = absurd (omega arith)
rank_before last (p ∷ table) zero (suc j) are less h = behind_all p table j are.1 (omega arith)
rank_before last (p ∷ table) (suc i) zero are less h = absurd (omega arith)
rank_before last (p ∷ table) (suc i) (suc j) are less h = rank_before (Some p) table i j are.1 (omega arith) (omega arith)

-- what stands in front of a place is before the pair, and what stands there isn't
pub record IsSplit (table : List (ℕ × ℕ)) (pair : ℕ × ℕ) (low high : ℕ) : Type 0 where
  pub within : high ≤ length table
  pub ordered : low ≤ high
  pub front : (i : ℕ) → i < low → stands_before (get_or table i (0, 0)) pair ≡ true
  pub back : (i : ℕ) → high ≤ i → i < length table → stands_before (get_or table i (0, 0)) pair ≡ false

module _ (table : List (ℕ × ℕ)) (pair : ℕ × ℕ) (ranked : Follow (IsPair ranks) [] table) where
  table_order : AreRanked None table
  table_order = ranked_of_follow [] table ranked

  pub split_high : (low high middle : ℕ) → IsSplit table pair low high → low ≤ middle → middle < high
      → stands_before (get_or table middle (0, 0)) pair ≡ true → IsSplit table pair (middle + 1) high
  split_high low high middle split least most test = record {
    within = split.within;
    ordered = omega arith;
    front = λ i h.
        elim (cases_eq i middle) [
          | inl same ↦ rw same test
          | inr other ↦
              let within : middle < length table = omega (arith, split.within) in
              let rank : IsBefore (get_or table i (0, 0)) (get_or table middle (0, 0)) = rank_before None table i middle table_order (omega (arith, other)) within in
              test_of_before (get_or table i (0, 0)) pair
              (before_more (get_or table i (0, 0)) (get_or table middle (0, 0)) pair rank (next_of_test (Some (get_or table middle (0, 0))) pair test))
        ];
    back = split.back;
  }
    where
      test_of_before : (p q : ℕ × ℕ) → IsBefore p q → stands_before p q ≡ true
      test_of_before p q is =
          elim (cases_Bool (stands_before p q)) [
            | inl yes_ ↦ yes_
            | inr no_ ↦ absurd (not_next p q no_ is tt)
          ]

  pub split_low : (low high middle : ℕ) → IsSplit table pair low high → low ≤ middle → middle < high
      → stands_before (get_or table middle (0, 0)) pair ≡ false → IsSplit table pair low middle
  split_low low high middle split least most test = record {
    within = omega (arith, split.within);
    ordered = least;
    front = split.front;
    back = λ i past h.
        elim (cases_eq i middle) [
          | inl same ↦ rw same test
          | inr other ↦
              elim (cases_Bool (stands_before (get_or table i (0, 0)) pair)) [
                | inl e ↦
                    let rank : IsBefore (get_or table middle (0, 0)) (get_or table i (0, 0)) = rank_before None table middle i table_order (omega (arith, other)) h in
                    absurd (not_next (get_or table middle (0, 0)) pair test
                    (before_more (get_or table middle (0, 0)) (get_or table i (0, 0)) pair rank (next_of_test (Some (get_or table i (0, 0))) pair e)) tt)
                | inr e ↦ e
              ]
        ];
  }

  pub place_found : (low : ℕ) → low < length table → get_or table low (0, 0) ≡ pair → Some low ≡ place_in table pair
  place_found low h is = sym (ap (place_in table) (sym is) ∙ found table low table_order h)

  pub place_missing : (low : ℕ) → IsSplit table pair low low → (low < length table → get_or table low (0, 0) ≡ pair → ⊥) → None ≡ place_in table pair
  place_missing low split other = go (place_in table pair) refl
    where
      go : (o : Option ℕ) → place_in table pair ≡ o → None ≡ o
      go None e = refl
      go (Some i) e =
          let at : (i < length table) × (get_or table i (0, 0) ≡ pair) = place_of table pair i e in
          elim (cases_lt i low) [
            | inl front ↦
                let test : stands_before pair pair ≡ true = ap (λ (p : ℕ × ℕ). stands_before p pair) (sym at.1) ∙ split.front i front in
                absurd (before_self pair (next_of_test (Some pair) pair test))
            | inr past ↦
                elim (cases_eq i low) [
                  | inl same ↦ absurd (other (omega (arith, at.0)) (ap (λ (n : ℕ). get_or table n (0, 0)) (sym same) ∙ at.1))
                  | inr above ↦
                      let rank : IsBefore (get_or table low (0, 0)) (get_or table i (0, 0)) = rank_before None table low i table_order (omega (arith, above)) at.0 in
                      let test : stands_before (get_or table low (0, 0)) pair ≡ false = split.back low (omega arith) (omega (arith, at.0)) in
                      absurd (not_next (get_or table low (0, 0)) pair test (rw at.1 at rank) tt)
                ]
          ]
