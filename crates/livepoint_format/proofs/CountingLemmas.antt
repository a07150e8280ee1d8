-- Counting the pairs of points, and the table that comes of it.
use Rattle.std.proofs.Common.{◌≡◌, ◌<◌, ℕ, zero, suc, ◌+◌, List, [], ◌∷◌, ◌++◌, length, take, drop, get_or, Bool, true, false, cond, Option, Some, None, refl, sym, ap, ◌∙◌, arith, add-one, le-ltb, inl, inr, append_assoc}
use Rattle.std.specs.Prelude.{◌==◌, ◌&&◌, ◌||◌, ◌≤◌, ◌↔◌, ◌^◌, ◌%◌, nat_lt, nat_le, is_some, filter, slice_index_or}
use Rattle.std.specs.List.{All, IsDistinct}
use Rattle.std.specs.List.Sorted.{IsPermutation, IsSorted}
use Rattle.std.specs.Map.{keys_of, lookup}
use Rattle.std.specs.Cmp.{IsEquivalence}
use Rattle.std.specs.Ordering.{nat_cmp, ordering_then, is_lt}
use Rattle.std.specs.declared.cmp.Ordering.{Ordering}
use Rattle.std.specs.declared.cmp.Ordering.TheVariants.{Less, Equal, Greater}
use Rattle.std.proofs.lemmas.Bool.{and_parts, or_cases, or_right, or_left, eqb-true, eq-eqb, ne_eqb, ltb-true, lt-ltb, false≢true, cases_Bool, cases_lt}
use Rattle.std.proofs.lemmas.Cmp.{on_equiv, and_equiv, nat_eq_equiv}
use Rattle.std.proofs.lemmas.List.{take_more, take-append-drop}
use Rattle.std.proofs.lemmas.List.Folds.{list_any-append}
use Rattle.std.proofs.lemmas.List.Sorted.{list_any-IsPermutation}
use Rattle.std.proofs.lemmas.List.Sums.{count_by_more_no, count_by_more_yes, sum_by-cons}
use Rattle.std.proofs.lemmas.Map.Entries.{lookup-filter-values, option_filter}
use Rattle.std.proofs.lemmas.Map.Keys.{IsDistinct-IsPermutation, apart_from_distinct, ge_from_not_lt}
use Rattle.std.proofs.lemmas.Map.Made.{IsDistinct-keys_filter, is_some-lookup}
use Rattle.live_words.specs.Follow.{last_of, Follow}
use Rattle.live_words.specs.Words.{is_above, rises, IsPair, AreWords}
use Rattle.live_words.proofs.FollowLemmas.{last_or-push, follow_by}
use Rattle.live_words.proofs.WordsLemmas.{last_taken}
use Rattle.live_points.specs.declared.point.LivePoint.{LivePoint}
use Rattle.live_points.specs.Sharing.{same_pair, stands_in, holders, is_later, ranks, IsSharing}
use Rattle.livepoint_format.specs.Told.{told, AreTold, told_from}
use Rattle.livepoint_format.proofs.Places.{same_self, pair_of_same}

pub same_laws : IsEquivalence same_pair
same_laws = and_equiv (on_equiv (λ (p : ℕ × ℕ). p.0) nat_eq_equiv) (on_equiv (λ (p : ℕ × ℕ). p.1) nat_eq_equiv)

-- ---- the words of one point

later_above :
    (before xs : List (ℕ × ℕ)) (p q : ℕ × ℕ) → last_of before ≡ Some p → Follow (IsPair rises) before xs
    → stands_in q xs ≡ true → p.0 < q.0
later_above before [] p q last follow there = absurd (false≢true there)
later_above before (x ∷ xs) p q last follow there =
    let tests = and_parts (x.0 % 4 == 0) (is_above (last_of before) x.0) follow.0.passes in
    let above : p.0 < x.0 = ltb-true p.0 x.0 (ap (λ (o : Option (ℕ × ℕ)). is_above o x.0) (sym last) ∙ tests.1) in
    elim (or_cases (same_pair q x) (stands_in q xs) there) [
      | inl same ↦
          let is : q ≡ x = pair_of_same q x same in
          rw is above
      | inr behind ↦
          let more : x.0 < q.0 = later_above (before ++ x ∷ []) xs x q (last_or-push before x None) follow.1 behind in
          omega (arith, above, more)
    ]

stands_between : (front back : List (ℕ × ℕ)) (w : ℕ × ℕ) → stands_in w (front ++ w ∷ back) ≡ true
stands_between front back w =
    list_any-append (same_pair w) front (w ∷ back)
    ∙ or_right (stands_in w front) (stands_in w (w ∷ back)) (or_left (same_pair w w) (stands_in w back) (same_self w))

-- a word isn't among those before it
absent_before :
    (before front back : List (ℕ × ℕ)) (w : ℕ × ℕ) → Follow (IsPair rises) before (front ++ w ∷ back)
    → stands_in w front ≡ false
absent_before before [] back w follow = refl
absent_before before (x ∷ front) back w follow =
    let above : x.0 < w.0 =
    later_above (before ++ x ∷ []) (front ++ w ∷ back) x w (last_or-push before x None) follow.1 (stands_between front back w) in
    let apart : (w.0 == x.0) ≡ false = ne_eqb w.0 x.0 (λ e. omega (arith, above, e)) in
    rw (apart, absent_before (before ++ x ∷ []) front back w follow.1) refl

split_at : (words : List (ℕ × ℕ)) (i : ℕ) → i < length words
    → take i words ++ slice_index_or words i (0, 0) ∷ drop (i + 1) words ≡ words
split_at words i h =
    sym (append_assoc (take i words) (slice_index_or words i (0, 0) ∷ []) (drop (i + 1) words))
    ∙ ap (λ (front : List (ℕ × ℕ)). front ++ drop (i + 1) words) (sym (take_more words i (0, 0) h))
    ∙ take-append-drop (i + 1) words

stands_at : (words : List (ℕ × ℕ)) (i : ℕ) → i < length words → stands_in (slice_index_or words i (0, 0)) words ≡ true
stands_at words i h =
    rw (split_at words i h) at (stands_between (take i words) (drop (i + 1) words) (slice_index_or words i (0, 0)))

word_is_new : (words : List (ℕ × ℕ)) (i : ℕ) → AreWords words → i < length words
    → stands_in (slice_index_or words i (0, 0)) (take i words) ≡ false
word_is_new words i are h =
    let w : ℕ × ℕ = slice_index_or words i (0, 0) in
    absent_before [] (take i words) (drop (i + 1) words) w (rw (split_at words i h) are)

told_more : (n : ℕ) → Some (cond (is_some (told n)) 2 1) ≡ told (suc n)
told_more zero = refl
told_more (suc zero) = refl
told_more (suc (suc n)) = refl

-- what one more word of a point changes
pub counted_word :
    (held : ℕ × ℕ → ℕ) (words : List (ℕ × ℕ)) (i : ℕ) (old new : List ((ℕ × ℕ) × ℕ)) → AreWords words → i < length words
    → AreTold (λ q. held q + cond (stands_in q (take i words)) 1 0) old
    → ((q : ℕ × ℕ) → lookup (same_pair q) new
    ≡ cond (same_pair (slice_index_or words i (0, 0)) q) (Some (cond (is_some (lookup (same_pair (slice_index_or words i (0, 0))) old)) 2 1)) (lookup (same_pair q) old))
    → AreTold (λ q. held q + cond (stands_in q (take (i + 1) words)) 1 0) new
counted_word held words i old new are h tells noted q =
    let w : ℕ × ℕ = slice_index_or words i (0, 0) in
    let more : stands_in q (take (i + 1) words) ≡ (stands_in q (take i words) || (same_pair q w || false)) =
    ap (stands_in q) (take_more words i (0, 0) h) ∙ list_any-append (same_pair q) (take i words) (w ∷ []) in
    elim (cases_Bool (same_pair w q)) [
      | inl same ↦
          let is : w ≡ q = pair_of_same w q same in
          let before : stands_in q (take i words) ≡ false = ap (λ (p : ℕ × ℕ). stands_in p (take i words)) (sym is) ∙ word_is_new words i are h in
          let here : stands_in q (take (i + 1) words) ≡ true = rw (before, ap (same_pair q) is, same_self q) at more in
          let was : lookup (same_pair w) old ≡ told (held q + 0) =
          ap (λ (p : ℕ × ℕ). lookup (same_pair p) old) is ∙ tells q ∙ ap (λ (b : Bool). told (held q + cond b 1 0)) before in
          let one : suc (held q + 0) ≡ held q + 1 = omega arith in
          noted q ∙ rw (same, was) (told_more (held q + 0) ∙ ap told one) ∙ ap (λ (b : Bool). told (held q + cond b 1 0)) (sym here)
      | inr apart ↦
          let other : same_pair q w ≡ false = same_laws.symm q w ∙ apart in
          let same : stands_in q (take (i + 1) words) ≡ stands_in q (take i words) = more ∙ rw other (or_nothing (stands_in q (take i words))) in
          noted q ∙ rw apart (tells q) ∙ ap (λ (b : Bool). told (held q + cond b 1 0)) (sym same)
    ]
  where
    or_nothing : (b : Bool) → (b || false) ≡ b
    or_nothing true = refl
    or_nothing false = refl

-- ---- points

pub counted_point :
    (points : List LivePoint) (i : ℕ) (p : LivePoint) (old new : List ((ℕ × ℕ) × ℕ)) → i < length points → get_or points i p ≡ p
    → AreTold (holders (take i points)) old
    → ((held : ℕ × ℕ → ℕ) → AreTold held old → AreTold (λ q. held q + cond (stands_in q p.words) 1 0) new)
    → AreTold (holders (take (i + 1) points)) new
counted_point points i p old new h is tells step q =
    step (holders (take i points)) tells q ∙ ap told (sym (grown (stands_in q p.words) refl))
  where
    grown : (b : Bool) → stands_in q p.words ≡ b → holders (take (i + 1) points) q ≡ holders (take i points) q + cond (stands_in q p.words) 1 0
    grown true there =
        count_by_more_yes (λ (point : LivePoint). stands_in q point.words) points i p h (rw is there) ∙ rw there refl
    grown false absent =
        let none : holders (take i points) q ≡ holders (take i points) q + 0 = omega arith in
        count_by_more_no (λ (point : LivePoint). stands_in q point.words) points i p h (rw is absent) ∙ rw absent none

-- ---- the table

-- so much is told
abbrev tells : ℕ → Option ℕ → Bool
tells least o = is_some (option_filter (λ (n : ℕ). nat_le least n) o)

two_or_more : (n : ℕ) → (tells 2 (told n) ≡ true) ↔ (2 ≤ n)
two_or_more zero = (λ h. absurd (false≢true h), λ h. absurd (omega (arith, h)))
two_or_more (suc zero) = (λ h. absurd (false≢true h), λ h. absurd (omega (arith, h)))
two_or_more (suc (suc n)) = (λ h. omega arith, λ h. refl)

one_or_more : (least n : ℕ) → tells least (told n) ≡ true → 1 ≤ n
one_or_more least zero h = absurd (false≢true h)
one_or_more least (suc n) h = omega arith

stands_told : (least : ℕ) (entries : List ((ℕ × ℕ) × ℕ)) (q : ℕ × ℕ) → IsDistinct same_pair (keys_of entries)
    → stands_in q (told_from least entries) ≡ tells least (lookup (same_pair q) entries)
stands_told least entries q distinct =
    sym (is_some-lookup (same_pair q) (filter (λ (e : (ℕ × ℕ) × ℕ). nat_le least e.1) entries))
    ∙ ap is_some (lookup-filter-values same_laws (λ (n : ℕ). nat_le least n) q entries distinct)

told_apart : (least : ℕ) (entries : List ((ℕ × ℕ) × ℕ)) → IsDistinct same_pair (keys_of entries) → IsDistinct same_pair (told_from least entries)
told_apart least entries distinct = IsDistinct-keys_filter same_pair (λ (e : (ℕ × ℕ) × ℕ). nat_le least e.1) entries distinct

-- a pair of words of a memory
record Fits (q : ℕ × ℕ) : Type 0 where
  aligned : q.0 % 4 ≡ 0
  addr : q.0 < 2 ^ 32
  value : q.1 < 2 ^ 32

word_fits : (before xs : List (ℕ × ℕ)) (q : ℕ × ℕ) → Follow (IsPair rises) before xs → stands_in q xs ≡ true → Fits q
word_fits before [] q follow there = absurd (false≢true there)
word_fits before (x ∷ xs) q follow there =
    elim (or_cases (same_pair q x) (stands_in q xs) there) [
      | inl same ↦
          let is : q ≡ x = pair_of_same q x same in
          let tests = and_parts (x.0 % 4 == 0) (is_above (last_of before) x.0) follow.0.passes in
          rw is (record { aligned = eqb-true (x.0 % 4) 0 tests.0; addr = follow.0.addr; value = follow.0.value })
      | inr behind ↦ word_fits (before ++ x ∷ []) xs q follow.1 behind
    ]

held_fits : (points : List LivePoint) (q : ℕ × ℕ) → All (λ (point : LivePoint). AreWords point.words) points → 1 ≤ holders points q → Fits q
held_fits [] q are some = absurd (omega (arith, some))
held_fits (p ∷ points) q are some =
    go (stands_in q p.words) refl (held_fits points q (λ i d h. are (suc i) d (omega (arith, h))))
  where
    go : (b : Bool) → stands_in q p.words ≡ b → (1 ≤ holders points q → Fits q) → Fits q
    go true there rest = word_fits [] p.words q (are 0 p (omega arith)) there
    go false absent rest =
        let sum : holders (p ∷ points) q ≡ cond (stands_in q p.words) 1 0 + holders points q =
        sum_by-cons (λ (point : LivePoint). cond (stands_in q point.words) 1 0) p points in
        rest (omega (arith, some, sum ∙ ap (λ (b : Bool). cond b 1 0 + holders points q) absent))

first_not_less : (o p : Ordering) → is_lt (ordering_then o p) ≡ false → is_lt o ≡ false
first_not_less Less p h = h
first_not_less Equal p h = refl
first_not_less Greater p h = refl

second_not_less : (o p : Ordering) → o ≡ Equal → is_lt (ordering_then o p) ≡ false → is_lt p ≡ false
second_not_less Less p e h = absurd cc
second_not_less Equal p e h = h
second_not_less Greater p e h = absurd cc

tied : (n : ℕ) → nat_cmp n n ≡ Equal
tied n = rw (le-ltb n n (omega arith), eq-eqb n n refl) refl

-- of two pairs that aren't one the second is later where it isn't less
later_of : (x y : ℕ × ℕ) → is_lt (ordering_then (nat_cmp y.0 x.0) (nat_cmp y.1 x.1)) ≡ false → same_pair x y ≡ false → is_later y x ≡ true
later_of x y sorted apart =
    let first : x.0 ≤ y.0 = ge_from_not_lt y.0 x.0 (first_not_less (nat_cmp y.0 x.0) (nat_cmp y.1 x.1) sorted) in
    elim (cases_lt x.0 y.0) [
      | inl below ↦ or_left (nat_lt x.0 y.0) ((x.0 == y.0) && nat_lt x.1 y.1) (lt-ltb x.0 y.0 below)
      | inr not_below ↦
          let level : x.0 ≡ y.0 = omega (arith, first, not_below) in
          let equal : nat_cmp y.0 x.0 ≡ Equal = ap (λ (n : ℕ). nat_cmp y.0 n) level ∙ tied y.0 in
          let second : x.1 ≤ y.1 = ge_from_not_lt y.1 x.1 (second_not_less (nat_cmp y.0 x.0) (nat_cmp y.1 x.1) equal sorted) in
          let differ : (x.1 == y.1) ≡ false = rw (eq-eqb x.0 y.0 level) at apart in
          elim (cases_lt x.1 y.1) [
            | inl under ↦
                or_right (nat_lt x.0 y.0) ((x.0 == y.0) && nat_lt x.1 y.1)
                (rw (eq-eqb x.0 y.0 level) (lt-ltb x.1 y.1 under))
            | inr not_under ↦
                absurd (false≢true (sym differ ∙ eq-eqb x.1 y.1 (omega (arith, second, not_under))))
          ]
    ]

sorted_ranked :
    (xs : List (ℕ × ℕ)) → IsSorted (λ (x y : ℕ × ℕ). ordering_then (nat_cmp x.0 y.0) (nat_cmp x.1 y.1)) xs → IsDistinct same_pair xs
    → ((q : ℕ × ℕ) → stands_in q xs ≡ true → Fits q) → Follow (IsPair ranks) [] xs
sorted_ranked xs sorted distinct fits =
    follow_by (IsPair ranks) [] xs (0, 0)
    (λ i h.
    let fit : Fits (slice_index_or xs i (0, 0)) = fits (slice_index_or xs i (0, 0)) (stands_at xs i h) in
    record { addr = fit.addr; value = fit.value; passes = passes i h fit })
  where
    passes : (i : ℕ) → i < length xs → Fits (slice_index_or xs i (0, 0)) → ranks (take i xs) (slice_index_or xs i (0, 0)) ≡ true
    passes zero h fit = rw (eq-eqb ((slice_index_or xs 0 (0, 0)).0 % 4) 0 fit.aligned) refl
    passes (suc i) h fit =
        let last : last_of (take (suc i) xs) ≡ Some (slice_index_or xs i (0, 0)) =
        rw add-one at (last_taken xs i (omega (arith, h))) in
        let order = rw add-one at (sorted i (0, 0) (omega arith) (omega (arith, h))) in
        let later : is_later (slice_index_or xs (suc i) (0, 0)) (slice_index_or xs i (0, 0)) ≡ true =
        later_of (slice_index_or xs i (0, 0)) (slice_index_or xs (suc i) (0, 0)) order
        (apart_from_distinct same_pair xs i (suc i) (0, 0) distinct (omega arith) h) in
        rw (eq-eqb ((slice_index_or xs (suc i) (0, 0)).0 % 4) 0 fit.aligned, last) later

-- a pair is among those of which so much is told
standing :
    (points : List LivePoint) (entries : List ((ℕ × ℕ) × ℕ)) (least : ℕ) (pairs table : List (ℕ × ℕ))
    → AreTold (holders points) entries → IsDistinct same_pair (keys_of entries) → pairs ≡ told_from least entries
    → IsPermutation pairs table → (q : ℕ × ℕ) → stands_in q table ≡ tells least (told (holders points q))
standing points entries least pairs table are distinct is moved q =
    sym (list_any-IsPermutation (same_pair q) pairs table moved)
    ∙ ap (stands_in q) is
    ∙ stands_told least entries q distinct
    ∙ ap (tells least) (are q)

-- pairs of words, sorted, are a table
pub sorted_table :
    (points : List LivePoint) (entries : List ((ℕ × ℕ) × ℕ)) (least : ℕ) (pairs table : List (ℕ × ℕ))
    → AreTold (holders points) entries → All (λ (point : LivePoint). AreWords point.words) points
    → IsDistinct same_pair (keys_of entries) → pairs ≡ told_from least entries → IsPermutation pairs table
    → IsSorted (λ (x y : ℕ × ℕ). ordering_then (nat_cmp x.0 y.0) (nat_cmp x.1 y.1)) table → Follow (IsPair ranks) [] table
sorted_table points entries least pairs table are words distinct is moved sorted =
    sorted_ranked table sorted
    (IsDistinct-IsPermutation same_pair (λ x y. same_laws.symm x y) pairs table moved (rw is (told_apart least entries distinct)))
    (λ q there.
    held_fits points q words
    (one_or_more least (holders points q) (sym (standing points entries least pairs table are distinct is moved q) ∙ there)))

-- and those of two points are what they share
pub table_is_sharing :
    (points : List LivePoint) (entries : List ((ℕ × ℕ) × ℕ)) (pairs table : List (ℕ × ℕ))
    → AreTold (holders points) entries → All (λ (point : LivePoint). AreWords point.words) points
    → IsDistinct same_pair (keys_of entries) → pairs ≡ told_from 2 entries → IsPermutation pairs table
    → IsSorted (λ (x y : ℕ × ℕ). ordering_then (nat_cmp x.0 y.0) (nat_cmp x.1 y.1)) table → IsSharing points table
table_is_sharing points entries pairs table are words distinct is moved sorted = record {
  order = sorted_table points entries 2 pairs table are words distinct is moved sorted;
  exact = λ q. (
    λ there. (two_or_more (holders points q)).0 (sym (standing points entries 2 pairs table are distinct is moved q) ∙ there),
    λ two. standing points entries 2 pairs table are distinct is moved q ∙ (two_or_more (holders points q)).1 two,
  );
}
