-- Blocks of united sets: each belongs to the small set, and none comes twice.
use Rattle.std.proofs.Common.{◌≡◌, ◌≢◌, ℕ, zero, suc, ◌+◌, ◌-◌, ◌^◌, ◌%◌, ⊎_elim, ◌<◌, ◌≤◌, eqb, leb, List, [], ◌∷◌, ◌++◌, length, take, get_or, sym, ap, ◌∙◌, inl, inr, arith, eqb-true}
use Rattle.std.proofs.lemmas.Bool.{cases_Bool}
use Rattle.std.proofs.Math.Nat.{pow-le-pow_right}
use Rattle.lru_plain.specs.Shape.{Shape, IsShape, sets_of, home_of}
use Rattle.lru_plain.specs.Lists.{free_block}
use Rattle.recency_record.specs.declared.entry.Entry.{Entry}
use Rattle.std.specs.List.{AllByRecursion}
use Rattle.recency_record.specs.Slots.{placed, by_time}
use Rattle.recency_record.specs.Recency.{Recency, IsRecency, IsSet, IsEntry, IsRanked}
use Rattle.recency_record.proofs.Eachs.{each_weaker, each_append, each_take}
use Rattle.rebuild.specs.Merge.{united}
use Rattle.rebuild.specs.Pouring.{AreApart}
use Rattle.recency_record.proofs.SlotsLemmas.{each_placed, each_by_time}
use Rattle.rebuild.proofs.Merging.{small_home}

pub apart_take : (n : ℕ) (es : List Entry) → AreApart es → AreApart (take n es)
apart_take zero es h = tt
apart_take (suc n) [] h = tt
apart_take (suc n) (e ∷ es) h = (each_take (λ x. x.block ≢ e.block) n es h.0, apart_take n es h.1)

apart_placed : (e : Entry) (es : List Entry) → AllByRecursion (λ x. x.block ≢ e.block) es → AreApart es → AreApart (placed e es)
apart_placed e [] other h = (tt, tt)
apart_placed e (x ∷ xs) other h =
    elim (cases_Bool (leb x.time e.time)) [
      | inl q ↦ rw q (other, h)
      | inr q ↦
          rw q
          (each_placed (λ y. y.block ≢ x.block) e xs (λ same. other.0 (sym same)) h.0, apart_placed e xs other.1 h.1)
    ]

apart_by_time : (es : List Entry) → AreApart es → AreApart (by_time es)
apart_by_time [] h = tt
apart_by_time (e ∷ es) h = apart_placed e (by_time es) (each_by_time (λ x. x.block ≢ e.block) es h.0) (apart_by_time es h.1)

apart_append : (xs ys : List Entry) → AreApart xs → AreApart ys → AllByRecursion (λ x. AllByRecursion (λ y. y.block ≢ x.block) ys) xs → AreApart (xs ++ ys)
apart_append [] ys h k other = k
apart_append (x ∷ xs) ys h k other =
    (each_append (λ y. y.block ≢ x.block) xs ys h.0 other.0, apart_append xs ys h.1 k other.1)

apart_ranked : (es : List Entry) → IsRanked es → AreApart es
apart_ranked [] h = tt
apart_ranked (e ∷ es) h =
    (each_weaker (λ x. (x.time < e.time) × (x.block ≢ e.block)) (λ x. x.block ≢ e.block) es (λ x p. p.1) h.0, apart_ranked es h.1)

module _ (g : Shape) (time count class : ℕ) where
  -- the sets from a number on are those of a record
  Behind : ℕ → List (List Entry) → Type 0
  Behind first sets = (k : ℕ) → k < length sets → IsSet g time (first + k) (get_or sets k [])

  abbrev Own : ℕ → Entry → Type 0
  Own first e = (first ≤ home_of g e.block) × (home_of g e.block % count ≡ class)

  united_own : (first : ℕ) (sets : List (List Entry)) → ((k : ℕ) → k < length sets → IsSet g time (first + k) (get_or sets k []))
      → AllByRecursion (Own first) (united count class first sets)
  united_own first [] h = tt
  united_own first (es ∷ rest) h =
      let behind : AllByRecursion (Own (first + 1)) (united count class (first + 1) rest) =
      united_own (first + 1) rest (λ k below. let step : (first + 1) + k ≡ first + suc k = omega arith in rw step (h (suc k) (omega (arith, below)))) in
      let weaker : AllByRecursion (Own first) (united count class (first + 1) rest) =
      each_weaker (Own (first + 1)) (Own first) (united count class (first + 1) rest) (λ e p. (let low : first + 1 ≤ home_of g e.block = p.0 in omega (arith, low), p.1)) behind in
      elim (cases_Bool (eqb (first % count) class)) [
        | inl q ↦
            let own : IsSet g time (first + 0) es = h 0 (omega arith) in
            rw q (each_append (Own first) es (united count class (first + 1) rest)
            (each_weaker (IsEntry g time (first + 0)) (Own first) es
            (λ e p. let home : home_of g e.block ≡ first + 0 = p.home in
            let at : home_of g e.block ≡ first = omega (arith, home) in
            (omega (arith, at), ap (λ (n : ℕ). n % count) at ∙ eqb-true _ _ q)) own.entries) weaker)
        | inr q ↦ rw q weaker
      ]

  united_apart : (first : ℕ) (sets : List (List Entry)) → ((k : ℕ) → k < length sets → IsSet g time (first + k) (get_or sets k []))
      → AreApart (united count class first sets)
  united_apart first [] h = tt
  united_apart first (es ∷ rest) h =
      let rests : (k : ℕ) → k < length rest → IsSet g time ((first + 1) + k) (get_or rest k []) =
      (λ k below. let step : (first + 1) + k ≡ first + suc k = omega arith in rw step (h (suc k) (omega (arith, below)))) in
      let behind : AreApart (united count class (first + 1) rest) = united_apart (first + 1) rest rests in
      let homes : AllByRecursion (Own (first + 1)) (united count class (first + 1) rest) = united_own (first + 1) rest rests in
      elim (cases_Bool (eqb (first % count) class)) [
        | inl q ↦
            let own : IsSet g time (first + 0) es = h 0 (omega arith) in
            rw q (apart_append es (united count class (first + 1) rest) (apart_ranked es own.ranked) behind
            (each_weaker (IsEntry g time (first + 0)) (λ x. AllByRecursion (λ y. y.block ≢ x.block) (united count class (first + 1) rest)) es
            (λ x p. each_weaker (Own (first + 1)) (λ y. y.block ≢ x.block) (united count class (first + 1) rest)
            (λ y o same.
            let home : home_of g x.block ≡ first + 0 = p.home in
            let equal : home_of g y.block ≡ home_of g x.block = ap (λ (b : ℕ). home_of g b) same in
            let low : first + 1 ≤ home_of g y.block = o.0 in
            omega (arith, home, equal, low)) homes) own.entries))
        | inr q ↦ rw q behind
      ]

-- what holds of each entry of each set holds of those of united sets
united_each : (P : Entry → Type 0) (count class first : ℕ) (sets : List (List Entry))
    → ((k : ℕ) → k < length sets → AllByRecursion P (get_or sets k [])) → AllByRecursion P (united count class first sets)
united_each P count class first [] h = tt
united_each P count class first (es ∷ rest) h =
    let behind : AllByRecursion P (united count class (first + 1) rest) = united_each P count class (first + 1) rest (λ k below. h (suc k) (omega (arith, below))) in
    elim (cases_Bool (eqb (first % count) class)) [
      | inl q ↦ rw q (each_append P es (united count class (first + 1) rest) (h 0 (omega arith)) behind)
      | inr q ↦ rw q behind
    ]

-- a record's blocks are none of a free place
taken_block : (g : Shape) (block : ℕ) → IsShape g → block < 2 ^ (32 - g.line_log) → block < free_block
taken_block g block shape h =
    let line : 4 ≤ g.line_log = ⊎_elim (λ (k : (4 ≤ g.line_log) × (g.line_log ≤ 8)). k.0) (λ k. omega (arith, k)) shape.line in
    let low : 32 - g.line_log ≤ 28 = omega (arith, line) in
    let few : 2 ^ (32 - g.line_log) ≤ 2 ^ 28 = pow-le-pow_right {n = 2} (omega arith) low in
    omega (arith, few, h)

-- what is merged for a small set may be put into it
module _ (r : Recency) (small : Shape) (class n : ℕ) (recency : IsRecency r) where
  own_sets : (k : ℕ) → k < length r.sets → IsSet r.shape r.time (0 + k) (get_or r.sets k [])
  own_sets k below = let same : 0 + k ≡ k = omega arith in rw same (recency.sets k (rw (← recency.count) below))

  pub merged_apart : AreApart (take n (by_time (united (sets_of small) class 0 r.sets)))
  merged_apart =
      apart_take n (by_time (united (sets_of small) class 0 r.sets))
      (apart_by_time (united (sets_of small) class 0 r.sets) (united_apart r.shape r.time (sets_of small) class 0 r.sets own_sets))

  pub merged_homes : small.sets_log ≤ r.shape.sets_log
      → AllByRecursion (λ e. home_of small e.block ≡ class) (take n (by_time (united (sets_of small) class 0 r.sets)))
  merged_homes h =
      each_take (λ e. home_of small e.block ≡ class) n (by_time (united (sets_of small) class 0 r.sets))
      (each_by_time (λ e. home_of small e.block ≡ class) (united (sets_of small) class 0 r.sets)
      (each_weaker _ (λ e. home_of small e.block ≡ class) (united (sets_of small) class 0 r.sets)
      (λ e p. sym (small_home r.shape small e.block h) ∙ p.1)
      (united_own r.shape r.time (sets_of small) class 0 r.sets own_sets)))

  pub merged_blocks : AllByRecursion (λ e. e.block < free_block) (take n (by_time (united (sets_of small) class 0 r.sets)))
  merged_blocks =
      each_take (λ e. e.block < free_block) n (by_time (united (sets_of small) class 0 r.sets))
      (each_by_time (λ e. e.block < free_block) (united (sets_of small) class 0 r.sets)
      (united_each (λ e. e.block < free_block) (sets_of small) class 0 r.sets
      (λ k below. each_weaker (IsEntry r.shape r.time (0 + k)) (λ e. e.block < free_block) (get_or r.sets k [])
      (λ e h. taken_block r.shape e.block recency.shape h.block) (own_sets k below).entries)))
