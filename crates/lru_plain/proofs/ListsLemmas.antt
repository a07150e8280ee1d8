-- Lists of elements under a use.
use Rattle.std.proofs.Common.{◌≡◌, ℕ, ◌+◌, ◌-◌, ◌<◌, ◌≤◌, Bool, true, false, ◌||◌, eqb, mul-le-mul, replicate, map, ◌*◌, List, [], ◌∷◌, ◌++◌, length, get_or, take, drop, set, zero, suc, refl, sym, ◌∙◌, ap, arith, eq-eqb, eqb-true, add-one, inl, inr}
use Rattle.std.proofs.lemmas.Bool.{ne_eqb, cases_Bool, cases_eq}
use Rattle.std.proofs.Math.Seq.{drop-cons}
use Rattle.std.proofs.lemmas.Grind.{replicate_next}
use Rattle.std.proofs.lemmas.List.{append_assoc, take_all, drop_all, take_more, append-nil, set_at, get_or-append_right, get_or-drop, length-take-le, get_or_default, length-replicate, length-set}
use Rattle.std.specs.List.{range_with_len}
use Rattle.std.proofs.Math.Nat.{pow-le-pow_right, mod-lt}
use Rattle.std.proofs.lemmas.Nat.{and_mask, pow_pos}
use Rattle.std.specs.Int.RustNames.{bit_and}
use Rattle.std.proofs.lemmas.List.FromFn.{get_or-map-range_with_len, length-map-range_with_len}
use Rattle.std.proofs.lemmas.List.Elements.{All-from_get_or}
use Rattle.lru_plain.specs.Shape.{Shape, IsShape, sets_of, home_of}
use Rattle.lru_plain.specs.Lists.{without_block, has_block, used_list, list_for, used, free_block, filled, AreFreeLast, with_places, places_of, lists_in, IsRow, IsListing}
use Rattle.lru_plain.proofs.Segments.{set_in_places, segment_below, segment_within, segment_length, written_here, written_elsewhere, written_length}

module _ {X : Type 0} (block_in : X → ℕ) where
  -- no element before this place has the block
  abbrev pub IsAbsentBefore : ℕ → List X → ℕ → X → Type 0
  IsAbsentBefore block xs n d = (k : ℕ) → k < n → block_in (get_or xs k d) ≡ block → ⊥

  without_first : (block : ℕ) (xs : List X) (i : ℕ) (d : X) → i < length xs → block_in (get_or xs i d) ≡ block
      → IsAbsentBefore block xs i d → without_block block_in block xs ≡ take i xs ++ drop (suc i) xs
  without_first block [] i d below there before = absurd (omega (arith, below))
  without_first block (x ∷ xs) zero d below there before = rw (eq-eqb (block_in x) block there) refl
  without_first block (x ∷ xs) (suc i) d below there before =
      rw (ne_eqb (block_in x) block (before 0 (omega arith)))
      (ap (λ (l : List X). x ∷ l)
      (without_first block xs i d (omega (arith, below)) there (λ k h. before (suc k) (omega (arith, h)))))

  without_absent : (block : ℕ) (xs : List X) (d : X) → IsAbsentBefore block xs (length xs) d → without_block block_in block xs ≡ xs
  without_absent block [] d absent = refl
  without_absent block (x ∷ xs) d absent =
      rw (ne_eqb (block_in x) block (absent 0 (omega arith)))
      (ap (λ (l : List X). x ∷ l) (without_absent block xs d (λ k h. absent (suc k) (omega (arith, h)))))

  pub has_at : (block : ℕ) (xs : List X) (i : ℕ) (d : X) → i < length xs → block_in (get_or xs i d) ≡ block
      → has_block block_in block xs ≡ true
  has_at block [] i d below there = absurd (omega (arith, below))
  has_at block (x ∷ xs) zero d below there = rw (eq-eqb (block_in x) block there) refl
  has_at block (x ∷ xs) (suc i) d below there = go (eqb (block_in x) block) (has_at block xs i d (omega (arith, below)) there)
    where
      go : (b : Bool) → has_block block_in block xs ≡ true → (b || has_block block_in block xs) ≡ true
      go true rest = refl
      go false rest = rest

  pub has_none : (block : ℕ) (xs : List X) (d : X) → IsAbsentBefore block xs (length xs) d → has_block block_in block xs ≡ false
  has_none block [] d absent = refl
  has_none block (x ∷ xs) d absent =
      rw (ne_eqb (block_in x) block (absent 0 (omega arith))) (has_none block xs d (λ k h. absent (suc k) (omega (arith, h))))

  -- the elements before a place are moved behind the new first one, and the rest stays
  shifted_read : (new : X) (xs : List X) (i : ℕ) (d : X) → i < length xs
      → get_or (take i (new ∷ xs) ++ drop i xs) i d ≡ get_or xs i d
  shifted_read new xs i d h =
      let len : length (take i (new ∷ xs)) ≡ i = length-take-le i (new ∷ xs) (omega (arith, h)) in
      get_or-append_right (take i (new ∷ xs)) (drop i xs) i i d len (omega arith)
      ∙ get_or-drop i xs (i - i) d ∙ ap (λ (n : ℕ). get_or xs n d) (omega arith)

  -- so a place that wasn't reached still holds what it held
  pub still_there : (new : X) (xs list : List X) (i : ℕ) (d : X) → i < length xs → list ≡ take i (new ∷ xs) ++ drop i xs
      → get_or list i d ≡ get_or xs i new
  still_there new xs list i d h moved =
      ap (λ (l : List X). get_or l i d) moved ∙ shifted_read new xs i d h ∙ get_or_default xs i d new h

  pub shifted_more : (new : X) (xs : List X) (i : ℕ) (d : X) → i < length xs
      → set (take i (new ∷ xs) ++ drop i xs) i (get_or (new ∷ xs) i d)
      ≡ take (i + 1) (new ∷ xs) ++ drop (i + 1) xs
  shifted_more new xs i d h =
      let front : List X = take i (new ∷ xs) in
      let len : length front ≡ i = length-take-le i (new ∷ xs) (omega (arith, h)) in
      let carried : X = get_or (new ∷ xs) i d in
      let rest : drop i xs ≡ get_or xs i d ∷ drop (i + 1) xs = rw (add-one, drop-cons xs i d) refl in
      let more : take (i + 1) (new ∷ xs) ≡ front ++ carried ∷ [] = take_more (new ∷ xs) i d (omega (arith, h)) in
      rw (rest, more)
      (set_at front (get_or xs i d) (drop (i + 1) xs) carried i len
      ∙ sym (append_assoc front (carried ∷ []) (drop (i + 1) xs)))

  -- the block was at a place: no element is lost
  without_length : (block : ℕ) (xs : List X) (i : ℕ) (d : X) → i < length xs → block_in (get_or xs i d) ≡ block
      → suc (length (without_block block_in block xs)) ≡ length xs
  without_length block [] i d below there = absurd (omega (arith, below))
  without_length block (x ∷ xs) zero d below there = rw (eq-eqb (block_in x) block there) refl
  without_length block (x ∷ xs) (suc i) d below there =
      elim (cases_Bool (eqb (block_in x) block)) [
        | inl e ↦ rw e refl
        | inr e ↦ rw e (ap suc (without_length block xs i d (omega (arith, below)) there))
      ]

  pub moved_from : (new : X) (xs : List X) (i : ℕ) (d : X) → i < length xs → block_in (get_or xs i d) ≡ block_in new
      → IsAbsentBefore (block_in new) xs i d
      → take (i + 1) (new ∷ xs) ++ drop (i + 1) xs ≡ used_list block_in (length xs) new xs
  moved_from new xs i d below there before =
      let whole : take (length xs) (new ∷ without_block block_in (block_in new) xs) ≡ new ∷ without_block block_in (block_in new) xs =
      take_all (length xs) (new ∷ without_block block_in (block_in new) xs) (omega (arith, without_length (block_in new) xs i d below there)) in
      rw (add-one, whole) (ap (λ (l : List X). new ∷ l) (sym (without_first (block_in new) xs i d below there before)))

  -- the block was nowhere, and the last element is gone
  pub moved_in : (new : X) (xs : List X) (d : X) → IsAbsentBefore (block_in new) xs (length xs) d
      → take (length xs) (new ∷ xs) ++ drop (length xs) xs ≡ used_list block_in (length xs) new xs
  moved_in new xs d absent =
      rw (drop_all (length xs) xs (omega arith), append-nil (take (length xs) (new ∷ xs)), without_absent (block_in new) xs d absent) refl

  -- a use of the block in front
  pub used_front : (new : X) (xs : List X) (d : X) → 0 < length xs → block_in (get_or xs 0 d) ≡ block_in new
      → set xs 0 new ≡ used_list block_in (length xs) new xs
  used_front new [] d some there = absurd (omega (arith, some))
  used_front new (x ∷ xs) d some there =
      rw (eq-eqb (block_in x) (block_in new) there) (ap (λ (l : List X). new ∷ l) (sym (take_all (length xs) xs (omega arith))))

  -- a free place among places
  is_free : (x : X) → eqb (block_in x) free_block ≡ true → block_in x ≡ free_block
  is_free x e = eqb-true (block_in x) free_block e

  filled_without : (block : ℕ) (xs : List X) → (block ≡ free_block → ⊥)
      → filled block_in (without_block block_in block xs) ≡ without_block block_in block (filled block_in xs)
  filled_without block [] other = refl
  filled_without block (x ∷ xs) other =
      elim (cases_Bool (eqb (block_in x) free_block)) [
        | inl e ↦
            let differs : eqb (block_in x) block ≡ false = ne_eqb (block_in x) block (λ same. other (sym same ∙ is_free x e)) in
            rw (e, differs, e) refl
        | inr e ↦
            elim (cases_Bool (eqb (block_in x) block)) [
              | inl f ↦ rw (e, f) refl
              | inr f ↦ rw (e, f, e) (ap (λ (l : List X). x ∷ l) (filled_without block xs other))
            ]
      ]

  filled_take : (n : ℕ) (xs : List X) → filled block_in (take n xs) ≡ take n (filled block_in xs)
  filled_take zero xs = refl
  filled_take (suc n) [] = refl
  filled_take (suc n) (x ∷ xs) =
      elim (cases_Bool (eqb (block_in x) free_block)) [
        | inl e ↦ rw e refl
        | inr e ↦ rw e (ap (λ (l : List X). x ∷ l) (filled_take n xs))
      ]

  -- a use of places is a use of what fills them
  pub filled_used : (ways : ℕ) (new : X) (xs : List X) → (block_in new ≡ free_block → ⊥)
      → filled block_in (used_list block_in ways new xs) ≡ used_list block_in ways new (filled block_in xs)
  filled_used ways new xs other =
      filled_take ways (new ∷ without_block block_in (block_in new) xs)
      ∙ rw (ne_eqb (block_in new) free_block other)
      (ap (λ (l : List X). take ways (new ∷ l)) (filled_without (block_in new) xs other))

  free_last_take : (n : ℕ) (xs : List X) → AreFreeLast block_in xs → AreFreeLast block_in (take n xs)
  free_last_take zero xs h = tt
  free_last_take (suc n) [] h = tt
  free_last_take (suc n) (x ∷ xs) h =
      ((λ e. filled_take n xs ∙ rw (h.0 e) (none n)), free_last_take n xs h.1)
    where
      none : (m : ℕ) → take {A = X} m [] ≡ []
      none zero = refl
      none (suc m) = refl

  free_last_without : (block : ℕ) (xs : List X) → (block ≡ free_block → ⊥) → AreFreeLast block_in xs
      → AreFreeLast block_in (without_block block_in block xs)
  free_last_without block [] other h = tt
  free_last_without block (x ∷ xs) other h =
      elim (cases_Bool (eqb (block_in x) block)) [
        | inl e ↦ rw e h.1
        | inr e ↦ rw e ((λ f. filled_without block xs other ∙ rw (h.0 f) refl), free_last_without block xs other h.1)
      ]

  pub free_last_used : (ways : ℕ) (new : X) (xs : List X) → (block_in new ≡ free_block → ⊥) → AreFreeLast block_in xs
      → AreFreeLast block_in (used_list block_in ways new xs)
  free_last_used ways new xs other h =
      free_last_take ways (new ∷ without_block block_in (block_in new) xs)
      ((λ e. absurd (other e)), free_last_without (block_in new) xs other h)

  -- a block that isn't the free places' own is among what fills them
  pub has_filled : (block : ℕ) (xs : List X) → (block ≡ free_block → ⊥) → AreFreeLast block_in xs
      → has_block block_in block (filled block_in xs) ≡ has_block block_in block xs
  has_filled block [] other h = refl
  has_filled block (x ∷ xs) other h =
      elim (cases_Bool (eqb (block_in x) free_block)) [
        | inl e ↦
            let differs : eqb (block_in x) block ≡ false = ne_eqb (block_in x) block (λ same. other (sym same ∙ is_free x e)) in
            let rest : has_block block_in block (filled block_in xs) ≡ has_block block_in block xs = has_filled block xs other h.1 in
            rw (e, differs) (ap (has_block block_in block) (sym (h.0 (is_free x e))) ∙ rest)
        | inr e ↦ rw e (ap (λ (b : Bool). eqb (block_in x) block || b) (has_filled block xs other h.1))
      ]

  -- the first free place is filled
  pub filled_append : (new : X) (xs : List X) → (block_in new ≡ free_block → ⊥) → AreFreeLast block_in xs
      → length (filled block_in xs) < length xs
      → filled block_in (set xs (length (filled block_in xs)) new) ≡ filled block_in xs ++ new ∷ []
  filled_append new [] other h room = absurd (omega (arith, room))
  filled_append new (x ∷ xs) other h room =
      elim (cases_Bool (eqb (block_in x) free_block)) [
        | inl e ↦ rw (e, ne_eqb (block_in new) free_block other, h.0 (is_free x e)) refl
        | inr e ↦
            let short : suc (length (filled block_in xs)) < suc (length xs) = rw e at room in
            rw (e, e) (ap (λ (l : List X). x ∷ l) (filled_append new xs other h.1 (omega (arith, short))))
      ]

  pub free_last_append : (new : X) (xs : List X) → (block_in new ≡ free_block → ⊥) → AreFreeLast block_in xs
      → length (filled block_in xs) < length xs
      → AreFreeLast block_in (set xs (length (filled block_in xs)) new)
  free_last_append new [] other h room = absurd (omega (arith, room))
  free_last_append new (x ∷ xs) other h room =
      elim (cases_Bool (eqb (block_in x) free_block)) [
        | inl e ↦ rw e ((λ f. absurd (other f)), h.1)
        | inr e ↦
            let short : suc (length (filled block_in xs)) < suc (length xs) = rw e at room in
            rw e (
              (λ f. absurd (go f e)),
              free_last_append new xs other h.1 (omega (arith, short)),
            )
      ]
    where
      go : block_in x ≡ free_block → eqb (block_in x) free_block ≡ false → ⊥
      go f e = absurd (let g : true ≡ false = sym (eq-eqb (block_in x) free_block f) ∙ e in cc)

  -- what fills places, place by place
  pub filled_further : (xs : List X) (i : ℕ) (d : X) → i < length xs → (block_in (get_or xs i d) ≡ free_block → ⊥)
      → filled block_in xs ≡ take i xs ++ filled block_in (drop i xs)
      → filled block_in xs ≡ take (i + 1) xs ++ filled block_in (drop (i + 1) xs)
  filled_further xs i d h other at =
      let rest : drop i xs ≡ get_or xs i d ∷ drop (i + 1) xs = rw (add-one, drop-cons xs i d) refl in
      let next : filled block_in (drop i xs) ≡ get_or xs i d ∷ filled block_in (drop (i + 1) xs) =
      rw (rest, ne_eqb (block_in (get_or xs i d)) free_block other) refl in
      rw (take_more xs i d h, append_assoc (take i xs) (get_or xs i d ∷ []) (filled block_in (drop (i + 1) xs)))
      (at ∙ ap (λ (l : List X). take i xs ++ l) next)

  pub filled_to : (xs : List X) (i : ℕ) (d : X) → i < length xs → block_in (get_or xs i d) ≡ free_block
      → filled block_in xs ≡ take i xs ++ filled block_in (drop i xs) → take i xs ≡ filled block_in xs
  filled_to xs i d h there at =
      let rest : drop i xs ≡ get_or xs i d ∷ drop (i + 1) xs = rw (add-one, drop-cons xs i d) refl in
      let none : filled block_in (drop i xs) ≡ [] = rw (rest, eq-eqb (block_in (get_or xs i d)) free_block there) refl in
      sym (at ∙ ap (λ (l : List X). take i xs ++ l) none ∙ append-nil (take i xs))

  pub filled_all : (xs : List X) (i : ℕ) → length xs ≤ i
      → filled block_in xs ≡ take i xs ++ filled block_in (drop i xs) → take i xs ≡ filled block_in xs
  filled_all xs i h at =
      sym (at ∙ rw (drop_all i xs h) (append-nil (take i xs)))

  filled_short : (xs : List X) → length (filled block_in xs) ≤ length xs
  filled_short [] = omega arith
  filled_short (x ∷ xs) =
      elim (cases_Bool (eqb (block_in x) free_block)) [
        | inl e ↦ rw e (omega arith)
        | inr e ↦ rw e (let rest : length (filled block_in xs) ≤ length xs = filled_short xs in omega (arith, rest))
      ]

  used_length : (ways : ℕ) (new : X) (xs : List X) → length xs ≡ ways → length (used_list block_in ways new xs) ≡ ways
  used_length ways new xs long =
      length-take-le ways (new ∷ without_block block_in (block_in new) xs)
      (let most : length xs ≤ suc (length (without_block block_in (block_in new) xs)) = without_short (block_in new) xs in omega (arith, most, long))
    where
      without_short : (block : ℕ) (ys : List X) → length ys ≤ suc (length (without_block block_in block ys))
      without_short block [] = omega arith
      without_short block (y ∷ ys) =
          elim (cases_Bool (eqb (block_in y) block)) [
            | inl e ↦ rw e (omega arith)
            | inr e ↦ rw e (let rest : length ys ≤ suc (length (without_block block_in block ys)) = without_short block ys in omega (arith, rest))
          ]

  -- free places alone
  module _ (x : X) (free : block_in x ≡ free_block) where
    filled_free : (w a n : ℕ) → filled block_in (take w (drop a (replicate n x))) ≡ []
    filled_free zero a n = refl
    filled_free (suc w) zero zero = refl
    filled_free (suc w) zero (suc n) = rw (eq-eqb (block_in x) free_block free) refl
    filled_free (suc w) (suc a) zero = refl
    filled_free (suc w) (suc a) (suc n) = filled_free (suc w) a n

    free_last_free : (w a n : ℕ) → AreFreeLast block_in (take w (drop a (replicate n x)))
    free_last_free zero a n = tt
    free_last_free (suc w) zero zero = tt
    free_last_free (suc w) zero (suc n) = ((λ e. filled_free w 0 n), free_last_free w 0 n)
    free_last_free (suc w) (suc a) zero = tt
    free_last_free (suc w) (suc a) (suc n) = free_last_free (suc w) a n

    none_listed : (f : ℕ → List X) (a n : ℕ) → ((k : ℕ) → f k ≡ []) → map f (range_with_len a n) ≡ replicate n []
    none_listed f a zero h = refl
    none_listed f a (suc n) h = rw (h a, none_listed f (a + 1) n h) refl

    pub lists_free : (g : Shape) (n : ℕ) → lists_in block_in g (replicate n x) ≡ replicate (sets_of g) []
    unfolding lists_in
    lists_free g n =
        none_listed (λ set. filled block_in (places_of g (replicate n x) set)) 0 (sets_of g) (λ set. filled_free g.ways (set * g.ways) n)

    pub row_free : (g : Shape) (last n : ℕ) → IsShape g → last ≡ sets_of g - 1 → n ≡ sets_of g * g.ways
        → IsRow block_in g last (replicate n x)
    row_free g last n shape is long = record {
      shape = shape;
      last = is;
      long = length-replicate n x ∙ long;
      free_last = λ set h. free_last_free g.ways (set * g.ways) n;
    }

  -- the row of all lists
  module _ (g : Shape) (last : ℕ) (row : List X) (is : IsRow block_in g last row) where
    pub list_read : (set : ℕ) → set < sets_of g → get_or (lists_in block_in g row) set [] ≡ filled block_in (places_of g row set)
    unfolding lists_in
    list_read set h = get_or-map-range_with_len (λ k. filled block_in (places_of g row k)) 0 (sets_of g) set set [] h (omega arith)

    within : (set : ℕ) → set < sets_of g → set * g.ways + g.ways ≤ length row
    within set h = segment_within set (sets_of g) g.ways (length row) h is.long

    pub places_length : (set : ℕ) → set < sets_of g → length (places_of g row set) ≡ g.ways
    places_length set h = segment_length g.ways set row (within set h)

    pub listing_is : IsListing (record { shape = g; sets = lists_in block_in g row })
    unfolding lists_in
    listing_is =
        let count : length (map (λ set. filled block_in (places_of g row set)) (range_with_len 0 (sets_of g))) ≡ sets_of g =
        length-map-range_with_len (λ set. filled block_in (places_of g row set)) 0 (sets_of g) in
        record {
          geometry = is.shape;
          count = count;
          cut = All-from_get_or (λ xs. length xs ≤ g.ways) (lists_in block_in g row) []
              (λ k h.
              let below : k < sets_of g = omega (arith, h, count) in
              rw (list_read k below)
              (let short : length (filled block_in (places_of g row k)) ≤ length (places_of g row k) = filled_short (places_of g row k) in
              omega (arith, short, places_length k below)));
        }

    -- the places of one set are written
    module _ (set_at : ℕ) (new : List X) (below : set_at < sets_of g) (long : length new ≡ g.ways) where
      pub lists_written : lists_in block_in g (with_places (set_at * g.ways) g.ways row new) ≡ set (lists_in block_in g row) set_at (filled block_in new)
      unfolding lists_in
      lists_written =
          sym (set_in_places (λ k. filled block_in (places_of g row k)) (λ k. filled block_in (places_of g (with_places (set_at * g.ways) g.ways row new) k)) (sets_of g) set_at (filled block_in new)
          (ap (filled block_in) (written_here g.ways set_at row new long (within set_at below)))
          (λ j other h. ap (filled block_in) (written_elsewhere g.ways set_at row new long (within set_at below) j other)))

      pub row_written : AreFreeLast block_in new → IsRow block_in g last (with_places (set_at * g.ways) g.ways row new)
      row_written free_last = record {
        shape = is.shape;
        last = is.last;
        long = written_length g.ways set_at row new long (within set_at below) ∙ is.long;
        free_last = λ k h. elim (cases_eq k set_at) [
          | inl same ↦ rw (same, written_here g.ways set_at row new long (within set_at below)) free_last
          | inr other ↦ rw (written_elsewhere g.ways set_at row new long (within set_at below) k other) (is.free_last k h)
        ];
      }

    -- a use of an element
    module _ (new : X) (set_at : ℕ) (some : block_in new < free_block) (home : set_at ≡ home_of g (block_in new)) (below : set_at < sets_of g) where
      other : block_in new ≡ free_block → ⊥
      other e = omega (arith, e, some)

      pub used_row : IsRow block_in g last (with_places (set_at * g.ways) g.ways row (used_list block_in g.ways new (places_of g row set_at)))
      used_row =
          row_written set_at (used_list block_in g.ways new (places_of g row set_at)) below (used_length g.ways new (places_of g row set_at) (places_length set_at below))
          (free_last_used g.ways new (places_of g row set_at) other (is.free_last set_at below))

      pub used_lists : record { shape = g; sets = lists_in block_in g (with_places (set_at * g.ways) g.ways row (used_list block_in g.ways new (places_of g row set_at))) }
          ≡ used block_in (record { shape = g; sets = lists_in block_in g row }) new
      used_lists =
          rw (
            lists_written set_at (used_list block_in g.ways new (places_of g row set_at)) below (used_length g.ways new (places_of g row set_at) (places_length set_at below)),
            filled_used g.ways new (places_of g row set_at) other,
            ← home,
            list_read set_at below,
          ) refl

      pub used_hit : has_block block_in (block_in new) (places_of g row set_at)
          ≡ has_block block_in (block_in new) (list_for block_in (record { shape = g; sets = lists_in block_in g row }) new)
      used_hit =
          rw (← home, list_read set_at below)
          (sym (has_filled (block_in new) (places_of g row set_at) other (is.free_last set_at below)))

    -- one more behind the others
    module _ (new : X) (set_at : ℕ) (some : block_in new < free_block) (below : set_at < sets_of g) (room : length (get_or (lists_in block_in g row) set_at []) < g.ways) where
      another : block_in new ≡ free_block → ⊥
      another e = omega (arith, e, some)

      pub room_left : length (filled block_in (places_of g row set_at)) < g.ways
      room_left = rw (← list_read set_at below) room

      room_there : length (filled block_in (places_of g row set_at)) < length (places_of g row set_at)
      room_there = rw (places_length set_at below) room_left

      appended_long : length (set (places_of g row set_at) (length (filled block_in (places_of g row set_at))) new) ≡ g.ways
      appended_long = length-set (places_of g row set_at) (length (filled block_in (places_of g row set_at))) new ∙ places_length set_at below

      pub appended_row : IsRow block_in g last (with_places (set_at * g.ways) g.ways row (set (places_of g row set_at) (length (filled block_in (places_of g row set_at))) new))
      appended_row =
          row_written set_at (set (places_of g row set_at) (length (filled block_in (places_of g row set_at))) new) below appended_long
          (free_last_append new (places_of g row set_at) another (is.free_last set_at below) room_there)

      pub appended_lists : lists_in block_in g (with_places (set_at * g.ways) g.ways row (set (places_of g row set_at) (length (filled block_in (places_of g row set_at))) new))
          ≡ set (lists_in block_in g row) set_at (get_or (lists_in block_in g row) set_at [] ++ new ∷ [])
      appended_lists =
          rw (
            lists_written set_at (set (places_of g row set_at) (length (filled block_in (places_of g row set_at))) new) below appended_long,
            filled_append new (places_of g row set_at) another (is.free_last set_at below) room_there,
            list_read set_at below,
          ) refl

-- where a set's places begin
pub start_fits : (g : Shape) (set_at : ℕ) → IsShape g → set_at < sets_of g
    → (set_at * g.ways + g.ways ≤ sets_of g * g.ways) × (sets_of g * g.ways ≤ 65536)
start_fits g set_at shape below =
    let few : sets_of g ≤ 4096 = pow-le-pow_right {n = 2} (omega arith) shape.sets in
    let low : g.ways ≤ 16 = shape.most in
    let all : sets_of g * g.ways ≤ 4096 * 16 = mul-le-mul few low in
    (segment_below set_at (sets_of g) g.ways below, omega (arith, all))

-- the mask of the last set gives the set of a block
pub masked_home : {X : Type 0} (block_in : X → ℕ) (g : Shape) (last block : ℕ) (new : X) → last ≡ sets_of g - 1 → block ≡ block_in new
    → bit_and block last ≡ home_of g (block_in new)
masked_home block_in g last block new is at = rw (is, at) (and_mask (block_in new) g.sets_log)

pub home_below : (g : Shape) (block : ℕ) → home_of g block < sets_of g
home_below g block = mod-lt block (pow_pos g.sets_log)

-- one place more is freed
pub freed_more : {X : Type 0} (xs : List X) (free d : X) (i : ℕ) → i < length xs
    → set (replicate i free ++ drop i xs) i free ≡ replicate (i + 1) free ++ drop (i + 1) xs
freed_more xs free d i h =
    let rest : drop i xs ≡ get_or xs i d ∷ drop (i + 1) xs = rw (add-one, drop-cons xs i d) refl in
    rw (rest, replicate_next i free)
    (set_at (replicate i free) (get_or xs i d) (drop (i + 1) xs) free i (length-replicate i free)
    ∙ sym (append_assoc (replicate i free) (free ∷ []) (drop (i + 1) xs)))
