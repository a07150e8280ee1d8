-- The sets merged from a record are those of the plain cache.
use Rattle.std.proofs.Common.{◌≡◌, ℕ, ◌+◌, ◌-◌, ◌*◌, ◌%◌, ◌^◌, ◌<◌, ◌≤◌, Bool, eqb, List, [], ◌∷◌, map, take, filter, refl, sym, ap, ◌∙◌, arith, pow-add}
use Rattle.std.specs.List.{range_with_len}
use Rattle.std.proofs.Math.Nat.{mod-mod_of_dvd, dvd-mul_right}
use Rattle.lru_plain.specs.Shape.{Shape, sets_of, home_of}
use Rattle.recency_record.specs.declared.entry.Entry.{Entry}
use Rattle.recency_record.specs.Uses.{last_uses, entries_of}
use Rattle.recency_record.specs.Slots.{by_time}
use Rattle.recency_record.specs.Recency.{record_of, recent, blocks_of}
use Rattle.recency_record.proofs.Eachs.{each_all}
use Rattle.recency_record.proofs.LastUses.{last_uses_ranked}
use Rattle.recency_record.proofs.Referring.{home_below}
use Rattle.rebuild.specs.Merge.{Fits, RebuildsPlain, merged, merged_set, united}
use Rattle.rebuild.proofs.Uniting.{gathered_dealt}
use Rattle.rebuild.proofs.PlainSets.{plain_is, plain_set, blocks_in}

-- the home in the small cache, by the home in the large one
pub small_home : (large small : Shape) (block : ℕ) → small.sets_log ≤ large.sets_log
    → home_of large block % sets_of small ≡ home_of small block
small_home large small block h =
    let sum : small.sets_log + (large.sets_log - small.sets_log) ≡ large.sets_log = omega (arith, h) in
    let whole : 2 ^ large.sets_log ≡ 2 ^ small.sets_log * 2 ^ (large.sets_log - small.sets_log) =
    sym (ap (λ (n : ℕ). 2 ^ n) sum) ∙ pow-add 2 small.sets_log (large.sets_log - small.sets_log) in
    rw whole (mod-mod_of_dvd (2 ^ small.sets_log) block (dvd-mul_right (2 ^ small.sets_log) (2 ^ (large.sets_log - small.sets_log))))

filter_same : (p q : Entry → Bool) (es : List Entry) → ((e : Entry) → p e ≡ q e) → filter p es ≡ filter q es
filter_same p q [] h = refl
filter_same p q (e ∷ es) h = rw (h e, filter_same p q es h) refl

maps_same : {X : Type 0} (f g : ℕ → X) (ns : List ℕ) → ((k : ℕ) → f k ≡ g k) → map f ns ≡ map g ns
maps_same f g [] h = refl
maps_same f g (n ∷ ns) h = rw (h n, maps_same f g ns h) refl

set_is : (large small : Shape) (blocks : List ℕ) (j : ℕ) → Fits large small
    → map (λ e. e.block) (take small.ways (by_time (united (sets_of small) j 0 (map (recent large blocks) (range_with_len 0 (sets_of large))))))
    ≡ plain_set small blocks j
set_is large small blocks j h =
    let uses : List Entry = last_uses blocks in
    let cut : take small.ways (by_time (united (sets_of small) j 0 (map (recent large blocks) (range_with_len 0 (sets_of large)))))
    ≡ take small.ways (filter (λ e. eqb (home_of large e.block % sets_of small) j) (last_uses blocks)) =
    gathered_dealt (sets_of small) j (λ e. home_of large e.block) (sets_of large) small.ways (λ k. large.ways) (last_uses blocks)
    (last_uses_ranked blocks) (each_all (λ e. home_of large e.block < sets_of large) (last_uses blocks) (λ e. home_below large e.block)) (λ k. h.ways) in
    let homes : filter (λ e. eqb (home_of large e.block % sets_of small) j) (last_uses blocks) ≡ entries_of small j (last_uses blocks) =
    filter_same (λ e. eqb (home_of large e.block % sets_of small) j) (λ e. eqb (home_of small e.block) j) (last_uses blocks)
    (λ e. ap (λ (n : ℕ). eqb n j) (small_home large small e.block h.sets)) in
    ap blocks_in (cut ∙ ap (λ (es : List Entry). take small.ways es) homes)

blocks_same : (large small : Shape) (addrs : List ℕ) → large.line_log ≡ small.line_log → blocks_of large addrs ≡ blocks_of small addrs
blocks_same large small [] h = refl
blocks_same large small (addr ∷ addrs) h = rw (h, blocks_same large small addrs h) refl

pub rebuilds_plain : RebuildsPlain
unfolding merged record_of
rebuilds_plain addrs large small h =
    rw (plain_is small addrs, ← blocks_same large small addrs h.line)
    (maps_same (merged_set (record_of addrs large) small) (plain_set small (blocks_of large addrs)) (range_with_len 0 (sets_of small))
    (λ j. set_is large small (blocks_of large addrs) j h))
