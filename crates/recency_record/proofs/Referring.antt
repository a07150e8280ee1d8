-- One more reference to a record.
use Rattle.std.proofs.Common.{◌≡◌, ◌≢◌, ℕ, zero, suc, ◌+◌, ◌-◌, ◌<◌, ◌≤◌, not, eqb, List, [], ◌∷◌, ◌++◌, length, map, take, get_or, set, replicate, refl, sym, ap, ◌∙◌, inl, inr, arith, eq-eqb, eqb-true, ◌^◌, ◌*◌, ⊎_elim, mod-lt, pow_pos, pow-add, div-lt_iff_lt-mul}
use Rattle.std.specs.List.{range_with_len}
use Rattle.std.proofs.lemmas.Bool.{cases_eq, ne_eqb}
use Rattle.std.proofs.lemmas.List.{map-append, length_push, length-map, length-take, get_or-set_same, get_or-set_other, length-set, get_or_default}
use Rattle.std.proofs.lemmas.List.FromFn.{get_or-map-range_with_len}
use Rattle.lru_plain.proofs.Segments.{set_in_places}
use Rattle.lru_plain.specs.Shape.{Shape, IsShape, sets_of, block_of, home_of}
use Rattle.recency_record.specs.declared.entry.Entry.{Entry}
use Rattle.recency_record.specs.Uses.{last_uses, entries_of}
use Rattle.recency_record.specs.Recency.{Recency, IsRecency, IsSet, IsEntry, others, used_set, referred, record_of, recent}
use Rattle.recency_record.proofs.Eachs.{each_weaker, each_filter, each_take, filter_swap, filter_weaker}
use Rattle.recency_record.proofs.Ranks.{ranked_filter, ranked_take, ranked_more, used_of_cut, other_test}
use Rattle.recency_record.proofs.LastUses.{last_uses_more, last_uses_ranked, last_uses_none}

-- the entries of a set after one more use, in this set and in another
entries_here :
    (g : Shape) (set : ℕ) (e : Entry) (es : List Entry) → home_of g e.block ≡ set
    → entries_of g set (e ∷ others e.block es) ≡ e ∷ others e.block (entries_of g set es)
entries_here g set e es home =
    rw (eq-eqb (home_of g e.block) set home)
    (ap (λ (l : List Entry). e ∷ l)
    (filter_swap (λ x. eqb (home_of g x.block) set) (λ x. not (eqb x.block e.block)) es))

entries_elsewhere :
    (g : Shape) (set : ℕ) (e : Entry) (es : List Entry) → home_of g e.block ≢ set
    → entries_of g set (e ∷ others e.block es) ≡ entries_of g set es
entries_elsewhere g set e es home =
    rw (ne_eqb (home_of g e.block) set home)
    (filter_weaker (λ x. not (eqb x.block e.block)) (λ x. eqb (home_of g x.block) set) es
    (λ x there. other_test e.block x (λ same. home (sym (ap (λ (b : ℕ). home_of g b) same) ∙ eqb-true _ _ there))))

-- a set after one more use, from the set before
pub recent_here :
    (g : Shape) (blocks : List ℕ) (e : Entry) (set : ℕ) → e.time ≡ length blocks → home_of g e.block ≡ set
    → recent g (blocks ++ e.block ∷ []) set ≡ used_set g.ways e (recent g blocks set)
recent_here g blocks e set time home =
    rw (last_uses_more blocks e.block e refl time, entries_here g set e (last_uses blocks) home)
    (sym (used_of_cut g.ways e (entries_of g set (last_uses blocks))
    (ranked_filter (λ x. eqb (home_of g x.block) set) (last_uses blocks) (last_uses_ranked blocks))))

pub recent_elsewhere :
    (g : Shape) (blocks : List ℕ) (e : Entry) (set : ℕ) → e.time ≡ length blocks → home_of g e.block ≢ set
    → recent g (blocks ++ e.block ∷ []) set ≡ recent g blocks set
recent_elsewhere g blocks e set time home =
    rw (last_uses_more blocks e.block e refl time, entries_elsewhere g set e (last_uses blocks) home) refl

abbrev pub entry_at : ℕ → ℕ → Entry
entry_at block time = record { block = block; time = time }

-- a set of the record, with the record's sets as a list
pub recent_read : (g : Shape) (blocks : List ℕ) (j : ℕ) → j < sets_of g
    → get_or (map (recent g blocks) (range_with_len 0 (sets_of g))) j [] ≡ recent g blocks j
recent_read g blocks j h = get_or-map-range_with_len (recent g blocks) 0 (sets_of g) j j [] h (omega arith)

pub home_below : (g : Shape) (block : ℕ) → home_of g block < sets_of g
home_below g block = mod-lt block (pow_pos g.sets_log)

sets_more :
    (g : Shape) (blocks : List ℕ) (block : ℕ)
    → set (map (recent g blocks) (range_with_len 0 (sets_of g))) (home_of g block)
    (used_set g.ways (entry_at block (length blocks))
    (get_or (map (recent g blocks) (range_with_len 0 (sets_of g))) (home_of g block) []))
    ≡ map (recent g (blocks ++ block ∷ [])) (range_with_len 0 (sets_of g))
sets_more g blocks block =
    rw (recent_read g blocks (home_of g block) (home_below g block))
    (set_in_places (recent g blocks) (recent g (blocks ++ block ∷ [])) (sets_of g) (home_of g block)
    (used_set g.ways (entry_at block (length blocks)) (recent g blocks (home_of g block)))
    (recent_here g blocks (entry_at block (length blocks)) (home_of g block) refl refl)
    (λ j other below. recent_elsewhere g blocks (entry_at block (length blocks)) j refl (λ e. other (sym e))))

-- the record of a longer list
pub record_more : (addrs : List ℕ) (addr : ℕ) (g : Shape)
    → referred (record_of addrs g) addr ≡ record_of (addrs ++ addr ∷ []) g
unfolding record_of
record_more addrs addr g =
    let blocks : List ℕ = map (block_of g) addrs in
    let long : length blocks ≡ length addrs = length-map addrs (block_of g) in
    let more : map (block_of g) (addrs ++ addr ∷ []) ≡ blocks ++ block_of g addr ∷ [] = map-append (block_of g) addrs (addr ∷ []) in
    rw (more, length_push addrs addr, ← sets_more g blocks (block_of g addr), long) refl

-- the record of no reference
pub record_none : (g : Shape) → record_of [] g ≡ record { shape = g; time = 0; sets = replicate (sets_of g) [] }
unfolding record_of
record_none g = rw (empty 0 (sets_of g)) refl
  where
    none_recent : (number : ℕ) → recent g [] number ≡ []
    none_recent number = rw last_uses_none (nothing g.ways)
      where
        nothing : (n : ℕ) → take {A = Entry} n [] ≡ []
        nothing zero = refl
        nothing (suc n) = refl

    empty : (a n : ℕ) → map (recent g []) (range_with_len a n) ≡ replicate n []
    empty a zero = refl
    empty a (suc n) = rw (none_recent a, empty (a + 1) n) refl

-- what holds of a record stays so
used_keeps :
    (g : Shape) (time set : ℕ) (e : Entry) (es : List Entry) → IsEntry g (time + 1) set e → e.time ≡ time
    → IsSet g time set es → IsSet g (time + 1) set (used_set g.ways e es)
used_keeps g time set e es entry at old = record {
  cut = rw (length-take g.ways (e ∷ others e.block es)) (omega arith);
  ranked = ranked_take g.ways (e ∷ others e.block es)
      (ranked_more e es
      (each_weaker (IsEntry g time set) (λ x. x.time < e.time) es
      (λ x h. let early : x.time < time = h.time in omega (arith, at, early)) old.entries) old.ranked);
  entries = each_take (IsEntry g (time + 1) set) g.ways (e ∷ others e.block es) (
    entry,
    each_filter (IsEntry g (time + 1) set) (λ x. not (eqb x.block e.block)) es
        (each_weaker (IsEntry g time set) (IsEntry g (time + 1) set) es (later_entry g time set) old.entries),
  );
}
  where
    later_entry : (g : Shape) (time set : ℕ) (x : Entry) → IsEntry g time set x → IsEntry g (time + 1) set x
    later_entry g time set x h = record { block = h.block; home = h.home; time = let early : x.time < time = h.time in omega (arith, early) }

later_set : (g : Shape) (time set : ℕ) (es : List Entry) → IsSet g time set es → IsSet g (time + 1) set es
later_set g time set es h = record {
  cut = h.cut;
  ranked = h.ranked;
  entries = each_weaker (IsEntry g time set) (IsEntry g (time + 1) set) es
      (λ x k. record { block = k.block; home = k.home; time = let early : x.time < time = k.time in omega (arith, early) })
      h.entries;
}

-- the block of an address is one under its line
pub block_below : (g : Shape) (addr : ℕ) → IsShape g → addr < 2 ^ 32 → block_of g addr < 2 ^ (32 - g.line_log)
block_below g addr shape below =
    let line : g.line_log ≤ 32 = ⊎_elim (λ (h : (4 ≤ g.line_log) × (g.line_log ≤ 8)). let most : g.line_log ≤ 8 = h.1 in omega (arith, most)) (λ h. omega (arith, h)) shape.line in
    let sum : (32 - g.line_log) + g.line_log ≡ 32 = omega (arith, line) in
    let whole : 2 ^ (32 - g.line_log) * 2 ^ g.line_log ≡ 2 ^ 32 = sym (pow-add 2 (32 - g.line_log) g.line_log) ∙ ap (λ (n : ℕ). 2 ^ n) sum in
    (div-lt_iff_lt-mul (pow_pos g.line_log)).1 (rw whole below)

pub referred_keeps : (r : Recency) (addr : ℕ) → addr < 2 ^ 32 → IsRecency r → IsRecency (referred r addr)
referred_keeps r addr below old = record {
  shape = old.shape;
  count = length-set r.sets home new ∙ old.count;
  sets = λ set h. elim (cases_eq set home) [
    | inl same ↦
        rw (same, get_or-set_same r.sets home new [] within)
        (used_keeps r.shape r.time home e was entry refl (old.sets home (home_below r.shape block)))
    | inr other ↦
        rw (get_or-set_other r.sets home set new [] other)
        (later_set r.shape r.time set (get_or r.sets set []) (old.sets set h))
  ];
}
  where
    block : ℕ
    block = block_of r.shape addr

    home : ℕ
    home = home_of r.shape block

    e : Entry
    e = entry_at block r.time

    was : List Entry
    was = get_or r.sets home []

    new : List Entry
    new = used_set r.shape.ways e was

    within : home < length r.sets
    within = rw old.count (home_below r.shape block)

    entry : IsEntry r.shape (r.time + 1) home e
    entry = record { block = block_below r.shape addr old.shape below; home = refl; time = omega arith }

-- the sets after one more reference, with the parts that the code computes
pub refer_keeps :
    (r : Recency) (addr block home ways : ℕ) (lane now : List Entry) → addr < 2 ^ 32 → IsRecency r
    → block ≡ block_of r.shape addr → home ≡ home_of r.shape block → ways ≡ r.shape.ways
    → lane ≡ get_or r.sets home lane → now ≡ used_set ways (record { block = block; time = r.time }) lane
    → IsRecency (record { shape = r.shape; time = r.time + 1; sets = set r.sets home now })
refer_keeps r addr block home ways lane now below old line place cut read after =
    let within : home < length r.sets = rw (place, old.count) (home_below r.shape block) in
    let at : lane ≡ get_or r.sets home [] = read ∙ get_or_default r.sets home lane [] within in
    rw (after, cut, at, place, line) (referred_keeps r addr below old)
