-- The plain cache after a list of addresses, by last uses.
use Rattle.std.proofs.Common.{◌≡◌, ◌≢◌, ℕ, zero, suc, ◌+◌, ◌<◌, eqb, List, [], ◌∷◌, ◌++◌, length, map, take, get_or, set, replicate, refl, sym, ap, ◌∙◌, inl, inr, arith, eq-eqb}
use Rattle.std.specs.List.{range_with_len}
use Rattle.std.proofs.lemmas.Bool.{cases_eq, ne_eqb}
use Rattle.std.proofs.lemmas.List.{map-append, take-map}
use Rattle.std.proofs.lemmas.List.FromFn.{get_or-map-range_with_len}
use Rattle.lru_plain.specs.Shape.{Shape, sets_of, block_of, home_of}
use Rattle.lru_plain.specs.Cache.{plain, touched_set, without}
use Rattle.lru_plain.proofs.Plains.{plain_none, plain_more}
use Rattle.recency_record.specs.declared.entry.Entry.{Entry}
use Rattle.recency_record.specs.Uses.{last_uses, entries_of}
use Rattle.recency_record.specs.Recency.{IsRanked, others, recent, blocks_of}
use Rattle.recency_record.proofs.Eachs.{each_weaker}
use Rattle.recency_record.proofs.Ranks.{others_all, ranked_filter, ranked_take}
use Rattle.recency_record.proofs.LastUses.{by_push, last_uses_none, last_uses_ranked}
use Rattle.recency_record.proofs.Referring.{recent_here, recent_elsewhere, home_below, entry_at}
use Rattle.lru_plain.proofs.Segments.{set_in_places}

abbrev pub blocks_in : List Entry → List ℕ
blocks_in es = map (λ e. e.block) es

-- the blocks without one of them
without_block : (block : ℕ) (es : List Entry) → IsRanked es → without block (blocks_in es) ≡ blocks_in (others block es)
without_block block [] h = refl
without_block block (e ∷ es) h =
    elim (cases_eq e.block block) [
      | inl same ↦ rw (eq-eqb e.block block same)
          (ap blocks_in (sym (others_all block es
          (each_weaker (λ x. (x.time < e.time) × (x.block ≢ e.block)) (λ x. x.block ≢ block) es (λ x p q. p.1 (q ∙ sym same)) h.0))))
      | inr other ↦
          rw (ne_eqb e.block block other)
          (ap (λ (l : List ℕ). e.block ∷ l) (without_block block es h.1))
    ]

abbrev pub plain_set : Shape → List ℕ → ℕ → List ℕ
plain_set g blocks j = blocks_in (recent g blocks j)

abbrev pub plain_sets : Shape → List ℕ → List (List ℕ)
plain_sets g blocks = map (plain_set g blocks) (range_with_len 0 (sets_of g))

recent_ranked : (g : Shape) (blocks : List ℕ) (j : ℕ) → IsRanked (recent g blocks j)
recent_ranked g blocks j =
    ranked_take g.ways (entries_of g j (last_uses blocks))
    (ranked_filter (λ e. eqb (home_of g e.block) j) (last_uses blocks) (last_uses_ranked blocks))

touched_recent : (g : Shape) (blocks : List ℕ) (block : ℕ)
    → plain_set g (blocks ++ block ∷ []) (home_of g block) ≡ touched_set g.ways block (plain_set g blocks (home_of g block))
touched_recent g blocks block =
    let home : ℕ = home_of g block in
    let new : Entry = entry_at block (length blocks) in
    rw (
      recent_here g blocks (entry_at block (length blocks)) (home_of g block) refl refl,
      without_block block (recent g blocks (home_of g block)) (recent_ranked g blocks (home_of g block)),
    )
    (sym (take-map (λ e. e.block) g.ways (entry_at block (length blocks) ∷ others block (recent g blocks (home_of g block)))))

sets_touched : (g : Shape) (blocks : List ℕ) (block : ℕ)
    → set (plain_sets g blocks) (home_of g block)
    (touched_set g.ways block (get_or (plain_sets g blocks) (home_of g block) []))
    ≡ plain_sets g (blocks ++ block ∷ [])
sets_touched g blocks block =
    let read : get_or (plain_sets g blocks) (home_of g block) [] ≡ plain_set g blocks (home_of g block) =
    get_or-map-range_with_len (plain_set g blocks) 0 (sets_of g) (home_of g block) (home_of g block) [] (home_below g block) (omega arith) in
    rw read
    (set_in_places (plain_set g blocks) (plain_set g (blocks ++ block ∷ [])) (sets_of g) (home_of g block)
    (touched_set g.ways block (plain_set g blocks (home_of g block)))
    (touched_recent g blocks block)
    (λ j other below. ap blocks_in (recent_elsewhere g blocks (entry_at block (length blocks)) j refl (λ e. other (sym e)))))

plain_step : (g : Shape) (addrs : List ℕ) (addr : ℕ) → plain addrs g ≡ plain_sets g (blocks_of g addrs)
    → plain (addrs ++ addr ∷ []) g ≡ plain_sets g (blocks_of g (addrs ++ addr ∷ []))
plain_step g addrs addr h =
    let more : blocks_of g (addrs ++ addr ∷ []) ≡ blocks_of g addrs ++ block_of g addr ∷ [] = map-append (block_of g) addrs (addr ∷ []) in
    rw (plain_more addrs addr g, h, more) (sets_touched g (blocks_of g addrs) (block_of g addr))

plain_empty : (g : Shape) → plain [] g ≡ plain_sets g []
plain_empty g = rw (plain_none g) (sym (empty 0 (sets_of g)))
  where
    nothing : (n : ℕ) → take {A = Entry} n [] ≡ []
    nothing zero = refl
    nothing (suc n) = refl

    none : (j : ℕ) → plain_set g [] j ≡ []
    none j = rw (last_uses_none, nothing g.ways) refl

    empty : (a n : ℕ) → map (plain_set g []) (range_with_len a n) ≡ replicate n []
    empty a zero = refl
    empty a (suc n) = rw (none a, empty (a + 1) n) refl

pub plain_is : (g : Shape) (addrs : List ℕ) → plain addrs g ≡ plain_sets g (blocks_of g addrs)
plain_is g = by_push (λ addrs. plain addrs g ≡ plain_sets g (blocks_of g addrs)) (plain_step g) (plain_empty g)
