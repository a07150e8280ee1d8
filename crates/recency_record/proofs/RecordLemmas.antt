-- A record's slots, in rows of blocks and stamps, and what a reference makes of them.
use Rattle.std.proofs.Common.{◌≡◌, ◌≢◌, ℕ, zero, suc, ◌+◌, ◌-◌, ◌*◌, ◌<◌, ◌≤◌, Option, Some, None, List, [], ◌∷◌, length, map, take, drop, get_or, set, replicate, refl, sym, ap, ◌∙◌, arith, inl, inr}
use Rattle.std.specs.List.{range_with_len}
use Rattle.std.proofs.lemmas.List.{map-set, get_or-map, length-map, get_or-take, get_or-drop, take_all, length-replicate, get_or-replicate}
use Rattle.std.proofs.lemmas.List.FromFn.{get_or-map-range_with_len, length-map-range_with_len}
use Rattle.lru_plain.specs.Shape.{Shape, IsShape, sets_of, block_of, home_of}
use Rattle.lru_plain.specs.Lists.{places_of, without_block, used, Listing}
use Rattle.lru_plain.proofs.Segments.{set_in_places, set_here, set_elsewhere, segment_within, segment_length}
use Rattle.recency_record.specs.declared.entry.Entry.{Entry}
use Rattle.std.specs.List.{AllByRecursion}
use Rattle.recency_record.specs.Recency.{IsRecency, IsSet, IsEntry, IsRanked, others, referred}
use Rattle.recency_record.specs.Slots.{Slots, by_time, taken, ordered, stamp_of, HoldsBlock, slot_at, GoesTo, slots_for, IsReferred, IsPlaceFor, placed, slot_of, row_of, slots_in}
use Rattle.recency_record.proofs.Eachs.{each_weaker}
use Rattle.recency_record.proofs.Ranks.{others_all}
use Rattle.recency_record.proofs.Referring.{home_below, entry_at}
use Rattle.recency_record.proofs.SlotsLemmas.{slot_used, each_slot, each_unsorted}
use Rattle.std.proofs.lemmas.Bool.{cases_eq, ne_eqb}
use Rattle.std.proofs.Common.{eq-eqb, add-one, ◌/◌, ◌%◌}
use Rattle.std.proofs.lemmas.Nat.{div-add-mod'}
use Rattle.std.proofs.Math.Nat.{mod-lt, div-lt_iff_lt-mul}

-- lists with times: of ranked entries, those without a block are the others
without_others : (block : ℕ) (es : List Entry) → IsRanked es → without_block (λ e. e.block) block es ≡ others block es
without_others block [] h = refl
without_others block (e ∷ es) h =
    elim (cases_eq e.block block) [
      | inl same ↦ rw (eq-eqb e.block block same)
          (sym (others_all block es
          (each_weaker (λ x. (x.time < e.time) × (x.block ≢ e.block)) (λ x. x.block ≢ block) es (λ x k q. k.1 (q ∙ sym same)) h.0)))
      | inr differs ↦
          rw (ne_eqb e.block block differs) (ap (λ (l : List Entry). e ∷ l) (without_others block es h.1))
    ]

pub used_referred : (l : Listing Entry) (time addr : ℕ) → IsRecency (record { shape = l.shape; time = time; sets = l.sets })
    → (used (λ e. e.block) l (entry_at (block_of l.shape addr) time)).sets
    ≡ (referred (record { shape = l.shape; time = time; sets = l.sets }) addr).sets
used_referred l time addr h =
    rw (without_others (block_of l.shape addr) (get_or l.sets (home_of l.shape (block_of l.shape addr)) [])
    (h.sets (home_of l.shape (block_of l.shape addr)) (home_below l.shape (block_of l.shape addr))).ranked) refl

-- blocks and stamps side by side
pub row_length : (bs ss : List ℕ) → length bs ≡ length ss → length (row_of bs ss) ≡ length bs
row_length [] ss h = refl
row_length (b ∷ bs) [] h = absurd (omega (arith, h))
row_length (b ∷ bs) (s ∷ ss) h = ap suc (row_length bs ss (omega (arith, h)))

pub row_read : (bs ss : List ℕ) (w : ℕ) → w < length bs → length bs ≡ length ss
    → slot_at (row_of bs ss) w ≡ slot_of (get_or bs w 0) (get_or ss w 0)
row_read [] ss w below h = absurd (omega (arith, below))
row_read (b ∷ bs) [] w below h = absurd (omega (arith, h))
row_read (b ∷ bs) (s ∷ ss) zero below h = refl
row_read (b ∷ bs) (s ∷ ss) (suc w) below h = row_read bs ss w (omega (arith, below)) (omega (arith, h))

pub stamp_read : (block stamp : ℕ) → stamp_of (slot_of block stamp) ≡ stamp
stamp_read block zero = refl
stamp_read block (suc time) = omega arith

row_set : (bs ss : List ℕ) (w block time : ℕ)
    → row_of (set bs w block) (set ss w (suc time)) ≡ set (row_of bs ss) w (Some (record { block = block; time = time }))
row_set [] ss w block time = refl
row_set (b ∷ bs) [] zero block time = refl
row_set (b ∷ bs) [] (suc w) block time = refl
row_set (b ∷ bs) (s ∷ ss) zero block time = refl
row_set (b ∷ bs) (s ∷ ss) (suc w) block time = ap (λ (l : List (Option Entry)). slot_of b s ∷ l) (row_set bs ss w block time)

-- the slots of one set
pub slots_read : (g : Shape) (bs ss : List ℕ) (k : ℕ) → k < sets_of g
    → get_or (slots_in g bs ss) k [] ≡ row_of (places_of g bs k) (places_of g ss k)
unfolding slots_in
slots_read g bs ss k h =
    get_or-map-range_with_len (λ set. row_of (places_of g bs set) (places_of g ss set)) 0 (sets_of g) k k [] h (omega arith)

pub slots_written : (g : Shape) (bs ss : List ℕ) (k w block time : ℕ) → k < sets_of g → w < g.ways
    → slots_in g (set bs (k * g.ways + w) block) (set ss (k * g.ways + w) (suc time))
    ≡ set (slots_in g bs ss) k (set (get_or (slots_in g bs ss) k []) w (Some (record { block = block; time = time })))
unfolding slots_in
slots_written g bs ss k w block time h below =
    rw (slots_read g bs ss k h)
    (sym (set_in_places (λ j. row_of (places_of g bs j) (places_of g ss j))
    (λ j. row_of (places_of g (set bs (k * g.ways + w) block) j) (places_of g (set ss (k * g.ways + w) (suc time)) j)) (sets_of g) k
    (set (row_of (places_of g bs k) (places_of g ss k)) w (Some (record { block = block; time = time })))
    (rw (set_here g.ways k w bs block below, set_here g.ways k w ss (suc time) below)
    (row_set (places_of g bs k) (places_of g ss k) w block time))
    (λ j other j_below. rw (set_elsewhere g.ways k w bs block below j other, set_elsewhere g.ways k w ss (suc time) below j other) refl)))

-- what a record tells after a reference
pub ordered_referred : (r : Slots) (addr : ℕ) (after : Slots) → IsRecency (ordered r)
    → length (slots_for r (block_of r.shape addr)) ≡ r.shape.ways → IsReferred r addr after
    → ordered after ≡ referred (ordered r) addr
unfolding ordered
ordered_referred r addr after is long h =
    rw (
      h.one,
      map-set (λ slots. by_time (taken slots)) r.slots home (set (get_or r.slots home []) h.way (Some e)),
      read,
      slot_used (get_or r.slots home []) h.way r.shape.ways e h.below long ranked early h.goes,
    ) refl
  where
    block : ℕ
    block = block_of r.shape addr

    home : ℕ
    home = home_of r.shape (block_of r.shape addr)

    e : Entry
    e = record { block = block_of r.shape addr; time = r.time }

    count : length r.slots ≡ sets_of r.shape
    count = sym (length-map r.slots (λ slots. by_time (taken slots))) ∙ is.count

    within : home_of r.shape (block_of r.shape addr) < length r.slots
    within = rw count (home_below r.shape (block_of r.shape addr))

    read : get_or (map (λ slots. by_time (taken slots)) r.slots) (home_of r.shape (block_of r.shape addr)) []
        ≡ by_time (taken (get_or r.slots (home_of r.shape (block_of r.shape addr)) []))
    read = get_or-map (λ slots. by_time (taken slots)) r.slots (home_of r.shape (block_of r.shape addr)) [] [] within

    set_is : IsSet r.shape r.time (home_of r.shape (block_of r.shape addr)) (by_time (taken (get_or r.slots (home_of r.shape (block_of r.shape addr)) [])))
    set_is = rw read at (is.sets (home_of r.shape (block_of r.shape addr)) (home_below r.shape (block_of r.shape addr)))

    ranked : IsRanked (by_time (taken (get_or r.slots (home_of r.shape (block_of r.shape addr)) [])))
    ranked = set_is.ranked

    early : AllByRecursion (λ x. x.time < r.time) (by_time (taken (get_or r.slots (home_of r.shape (block_of r.shape addr)) [])))
    early = each_weaker (IsEntry r.shape r.time (home_of r.shape (block_of r.shape addr))) (λ x. x.time < r.time)
        (by_time (taken (get_or r.slots (home_of r.shape (block_of r.shape addr)) []))) (λ x k. k.time) set_is.entries

-- one slot
pub slot_free : (block stamp : ℕ) → stamp ≡ 0 → None ≡ slot_of block stamp
slot_free block zero h = refl
slot_free block (suc t) h = absurd (omega (arith, h))

pub slot_some : (block stamp : ℕ) → (stamp ≡ 0 → ⊥) → Some (entry_at block (stamp - 1)) ≡ slot_of block stamp
slot_some block zero h = absurd (h refl)
slot_some block (suc t) h = let less : suc t - 1 ≡ t = omega arith in ap (λ (n : ℕ). Some (entry_at block n)) less

pub slot_holds : (b stamp block : ℕ) → b ≡ block → (stamp ≡ 0 → ⊥) → HoldsBlock block (slot_of b stamp)
slot_holds b zero block same h = absurd (h refl)
slot_holds b (suc t) block same h = same

pub held_block : (b stamp block : ℕ) → HoldsBlock block (slot_of b stamp) → b ≡ block
held_block b zero block h = absurd h
held_block b (suc t) block h = h

-- a place of a set, in the whole row
pub place_read : (g : Shape) (xs : List ℕ) (k w : ℕ) → w < g.ways → get_or (places_of g xs k) w 0 ≡ get_or xs (k * g.ways + w) 0
place_read g xs k w below = get_or-take g.ways (drop (k * g.ways) xs) w 0 below ∙ get_or-drop (k * g.ways) xs w 0

-- the rows of a record
module _ (g : Shape) (bs ss : List ℕ) (bs_long : length bs ≡ sets_of g * g.ways) (ss_long : length ss ≡ sets_of g * g.ways) where
  pub places_long : (k : ℕ) → k < sets_of g → length (places_of g bs k) ≡ g.ways
  places_long k h = segment_length g.ways k bs (segment_within k (sets_of g) g.ways (length bs) h bs_long)

  pub stamps_long : (k : ℕ) → k < sets_of g → length (places_of g ss k) ≡ g.ways
  stamps_long k h = segment_length g.ways k ss (segment_within k (sets_of g) g.ways (length ss) h ss_long)

  pub slot_read : (k w : ℕ) → k < sets_of g → w < g.ways
      → slot_at (get_or (slots_in g bs ss) k []) w ≡ slot_of (get_or bs (k * g.ways + w) 0) (get_or ss (k * g.ways + w) 0)
  slot_read k w h below =
      rw (
        slots_read g bs ss k h,
        row_read (places_of g bs k) (places_of g ss k) w (rw (places_long k h) below) (places_long k h ∙ sym (stamps_long k h)),
        place_read g bs k w below,
        place_read g ss k w below,
      ) refl

  pub slots_long : (k : ℕ) → k < sets_of g → length (get_or (slots_in g bs ss) k []) ≡ g.ways
  slots_long k h =
      rw (slots_read g bs ss k h)
      (row_length (places_of g bs k) (places_of g ss k) (places_long k h ∙ sym (stamps_long k h)) ∙ places_long k h)

  pub ordered_read : (time k : ℕ) → k < sets_of g
      → get_or (ordered (record { shape = g; time = time; slots = slots_in g bs ss })).sets k []
      ≡ by_time (taken (row_of (places_of g bs k) (places_of g ss k)))
  unfolding ordered slots_in
  ordered_read time k h =
      let count : length (map (λ j. row_of (places_of g bs j) (places_of g ss j)) (range_with_len 0 (sets_of g))) ≡ sets_of g =
      length-map-range_with_len (λ j. row_of (places_of g bs j) (places_of g ss j)) 0 (sets_of g) in
      get_or-map (λ slots. by_time (taken slots)) (slots_in g bs ss) k [] [] (omega (arith, h, count))
      ∙ ap (λ (slots : List (Option Entry)). by_time (taken slots)) (slots_read g bs ss k h)

  -- a place that holds a block belongs to the block's set
  module _ (time place block : ℕ) (is : IsRecency (ordered (record { shape = g; time = time; slots = slots_in g bs ss })))
      (within : place < sets_of g * g.ways) (there : get_or bs place 0 ≡ block) (used_once : get_or ss place 0 ≡ 0 → ⊥) where
    some_way : 0 < g.ways
    unfolding ordered
    some_way = is.shape.least

    parts_of : place / g.ways * g.ways + place % g.ways ≡ place
    parts_of = div-add-mod' place g.ways

    way_below : place % g.ways < g.ways
    way_below = mod-lt place some_way

    set_below : place / g.ways < sets_of g
    set_below = (div-lt_iff_lt-mul some_way).1 within

    holds : slot_at (get_or (slots_in g bs ss) (place / g.ways) []) (place % g.ways) ≡ slot_of (get_or bs place 0) (get_or ss place 0)
    holds =
        slot_read (place / g.ways) (place % g.ways) set_below way_below
        ∙ ap (λ (n : ℕ). slot_of (get_or bs n 0) (get_or ss n 0)) parts_of

    home_is : place / g.ways ≡ home_of g block
    unfolding ordered
    home_is =
        let entries : AllByRecursion (IsEntry g time (place / g.ways)) (by_time (taken (row_of (places_of g bs (place / g.ways)) (places_of g ss (place / g.ways))))) =
        rw (ordered_read time (place / g.ways) set_below) at (is.sets (place / g.ways) set_below).entries in
        let at : slot_at (row_of (places_of g bs (place / g.ways)) (places_of g ss (place / g.ways))) (place % g.ways) ≡ Some (entry_at (get_or bs place 0) (get_or ss place 0 - 1)) =
        ap (λ (l : List (Option Entry)). slot_at l (place % g.ways)) (sym (slots_read g bs ss (place / g.ways) set_below))
        ∙ holds ∙ sym (slot_some (get_or bs place 0) (get_or ss place 0) used_once) in
        let own : IsEntry g time (place / g.ways) (entry_at (get_or bs place 0) (get_or ss place 0 - 1)) =
        each_slot (IsEntry g time (place / g.ways)) (row_of (places_of g bs (place / g.ways)) (places_of g ss (place / g.ways))) (place % g.ways)
        (entry_at (get_or bs place 0) (get_or ss place 0 - 1)) (each_unsorted (IsEntry g time (place / g.ways)) (taken (row_of (places_of g bs (place / g.ways)) (places_of g ss (place / g.ways)))) entries) at in
        sym own.home ∙ ap (home_of g) there

    pub place_is : IsPlaceFor (record { shape = g; time = time; slots = slots_in g bs ss }) block place
    place_is = record {
      way = place % g.ways;
      below = way_below;
      at = sym parts_of ∙ ap (λ (n : ℕ). n * g.ways + place % g.ways) home_is;
      within = within;
      goes = inl (rw (← home_is, holds) (slot_holds (get_or bs place 0) (get_or ss place 0) block there used_once));
    }

  pub place_found : (time block start way : ℕ) → start ≡ home_of g block * g.ways → way < g.ways
      → GoesTo block (row_of (places_of g bs (home_of g block)) (places_of g ss (home_of g block))) way
      → IsPlaceFor (record { shape = g; time = time; slots = slots_in g bs ss }) block (start + way)
  place_found time block start way at below goes = record {
    way = way;
    below = below;
    at = ap (λ (n : ℕ). n + way) at;
    within = rw at
        (let end : home_of g block * g.ways + g.ways ≤ sets_of g * g.ways = segment_within (home_of g block) (sets_of g) g.ways (sets_of g * g.ways) (home_below g block) refl in
        omega (arith, end, below));
    goes = rw (slots_read g bs ss (home_of g block) (home_below g block)) goes;
  }

-- all slots are free at first
module _ (b : ℕ) where
  free_row : (w a n : ℕ) → taken (row_of (take w (drop a (replicate n b))) (take w (drop a (replicate n 0)))) ≡ []
  free_row zero a n = refl
  free_row (suc w) zero zero = refl
  free_row (suc w) zero (suc n) = free_row w zero n
  free_row (suc w) (suc a) zero = refl
  free_row (suc w) (suc a) (suc n) = free_row (suc w) a n

  none_told : (f : ℕ → List (Option Entry)) (a n : ℕ) → ((k : ℕ) → taken (f k) ≡ [])
      → map (λ slots. by_time (taken slots)) (map f (range_with_len a n)) ≡ replicate n []
  none_told f a zero h = refl
  none_told f a (suc n) h = rw (h a, none_told f (a + 1) n h) refl

  pub ordered_free : (g : Shape) (n : ℕ)
      → ordered (record { shape = g; time = 0; slots = slots_in g (replicate n b) (replicate n 0) })
      ≡ record { shape = g; time = 0; sets = replicate (sets_of g) [] }
  unfolding ordered slots_in
  ordered_free g n =
      rw (none_told (λ k. row_of (places_of g (replicate n b) k) (places_of g (replicate n 0) k)) 0 (sets_of g) (λ k. free_row g.ways (k * g.ways) n)) refl

pub recency_none : (g : Shape) → IsShape g → IsRecency (record { shape = g; time = 0; sets = replicate (sets_of g) [] })
recency_none g shape = record {
  shape = shape;
  count = length-replicate (sets_of g) [];
  sets = λ k h. rw (get_or-replicate {A = List Entry} (sets_of g) k [] [] h) (record { cut = omega arith; ranked = tt; entries = tt });
}

-- what slots hold, slot by slot from the last
row_drop : (bs ss : List ℕ) (w : ℕ) → w < length bs → length bs ≡ length ss
    → row_of (drop w bs) (drop w ss) ≡ slot_of (get_or bs w 0) (get_or ss w 0) ∷ row_of (drop (w + 1) bs) (drop (w + 1) ss)
row_drop [] ss w below long = absurd (omega (arith, below))
row_drop (b ∷ bs) [] w below long = absurd (omega (arith, long))
row_drop (b ∷ bs) (s ∷ ss) zero below long = refl
row_drop (b ∷ bs) (s ∷ ss) (suc w) below long =
    let step : suc w + 1 ≡ suc (w + 1) = omega arith in
    rw step (row_drop bs ss w (omega (arith, below)) (omega (arith, long)))

module _ (bs ss : List ℕ) (turn : ℕ) (list : List Entry) (below : turn < length bs) (long : length bs ≡ length ss)
    (is : list ≡ by_time (taken (row_of (drop (length bs - turn) bs) (drop (length bs - turn) ss)))) where
  next : row_of (drop (length bs - (turn + 1)) bs) (drop (length bs - (turn + 1)) ss)
      ≡ slot_of (get_or bs (length bs - 1 - turn) 0) (get_or ss (length bs - 1 - turn) 0)
      ∷ row_of (drop (length bs - turn) bs) (drop (length bs - turn) ss)
  next =
      let way : length bs - (turn + 1) ≡ length bs - 1 - turn = omega (arith, below) in
      let rest : (length bs - 1 - turn) + 1 ≡ length bs - turn = omega (arith, below) in
      rw way
      (row_drop bs ss (length bs - 1 - turn) (omega (arith, below)) long
      ∙ ap (λ (n : ℕ). slot_of (get_or bs (length bs - 1 - turn) 0) (get_or ss (length bs - 1 - turn) 0) ∷ row_of (drop n bs) (drop n ss)) rest)

  pub sorted_same : get_or ss (length bs - 1 - turn) 0 ≡ 0
      → list ≡ by_time (taken (row_of (drop (length bs - (turn + 1)) bs) (drop (length bs - (turn + 1)) ss)))
  sorted_same free = rw (next, ← slot_free (get_or bs (length bs - 1 - turn) 0) (get_or ss (length bs - 1 - turn) 0) free) is

  pub sorted_more : (get_or ss (length bs - 1 - turn) 0 ≡ 0 → ⊥)
      → placed (entry_at (get_or bs (length bs - 1 - turn) 0) (get_or ss (length bs - 1 - turn) 0 - 1)) list
      ≡ by_time (taken (row_of (drop (length bs - (turn + 1)) bs) (drop (length bs - (turn + 1)) ss)))
  sorted_more some =
      rw (next, ← slot_some (get_or bs (length bs - 1 - turn) 0) (get_or ss (length bs - 1 - turn) 0) some)
      (ap (placed (entry_at (get_or bs (length bs - 1 - turn) 0) (get_or ss (length bs - 1 - turn) 0 - 1))) is)

pub ordered_shape : (r : Slots) → IsRecency (ordered r) → IsShape r.shape
unfolding ordered
ordered_shape r is = is.shape

pub ordered_cut : (r : Slots) (k : ℕ) → IsRecency (ordered r) → k < sets_of r.shape → length (get_or (ordered r).sets k []) ≤ r.shape.ways
unfolding ordered
ordered_cut r k is h = (is.sets k h).cut

pub ordered_count : (r : Slots) → IsRecency (ordered r) → length (ordered r).sets ≡ sets_of r.shape
unfolding ordered
ordered_count r is = is.count

ordered_is : (r : Slots) (g : Shape) (time : ℕ) (sets : List (List Entry)) → g ≡ r.shape → time ≡ r.time → sets ≡ (ordered r).sets
    → record { shape = g; time = time; sets = sets } ≡ ordered r
unfolding ordered
ordered_is r g time sets shape now all = rw (shape, now, all) refl

-- all sets of what a record tells
pub told_whole : (r : Slots) (g : Shape) (time k : ℕ) (sets : List (List Entry)) → IsRecency (ordered r) → g ≡ r.shape → time ≡ r.time
    → sets ≡ take k (ordered r).sets → sets_of g ≤ k → record { shape = g; time = time; sets = sets } ≡ ordered r
told_whole r g time k sets is shape now all end =
    let count : length (ordered r).sets ≡ sets_of g = ordered_count r is ∙ ap (λ (s : Shape). sets_of s) (sym shape) in
    ordered_is r g time sets shape now (all ∙ take_all k (ordered r).sets (omega (arith, count, end)))

-- one slot of a record's rows is written
module _ (g : Shape) (bs ss : List ℕ) (time addr block place : ℕ)
    (bs_long : length bs ≡ sets_of g * g.ways) (ss_long : length ss ≡ sets_of g * g.ways)
    (is : IsRecency (ordered (record { shape = g; time = time; slots = slots_in g bs ss })))
    (at : block ≡ block_of g addr) (goes : IsPlaceFor (record { shape = g; time = time; slots = slots_in g bs ss }) block place) where
  pub is_referred : IsReferred (record { shape = g; time = time; slots = slots_in g bs ss }) addr
      (record { shape = g; time = time + 1; slots = slots_in g (set bs place block) (set ss place (time + 1)) })
  is_referred = record {
    way = goes.way;
    below = goes.below;
    goes = rw at at goes.goes;
    one = rw (goes.at, add-one, slots_written g bs ss (home_of g block) goes.way block time (home_below g block) goes.below, at) refl;
  }

  pub referred_is : ordered (record { shape = g; time = time + 1; slots = slots_in g (set bs place block) (set ss place (time + 1)) })
      ≡ referred (ordered (record { shape = g; time = time; slots = slots_in g bs ss })) addr
  referred_is =
      ordered_referred (record { shape = g; time = time; slots = slots_in g bs ss }) addr
      (record { shape = g; time = time + 1; slots = slots_in g (set bs place block) (set ss place (time + 1)) }) is
      (slots_long g bs ss bs_long ss_long (home_of g (block_of g addr)) (home_below g (block_of g addr)))
      is_referred
