-- A touch of the block in front of its set hits, and changes nothing.
use Rattle.std.proofs.Common.{◌≡◌, ◌≤◌, ◌<◌, ◌-◌, ◌+◌, ◌/◌, ◌^◌, ℕ, zero, suc, true, List, [], ◌∷◌, length, take, Option, Some, None, refl, sym, ◌∙◌, ap, subst, arith}
use Rattle.std.specs.Prelude.{IfSome, slice_set}
use Rattle.std.proofs.Math.Nat.{div-div-eq-div-mul, mod-lt}
use Rattle.std.proofs.lemmas.Nat.{pow-add, pow_pos}
use Rattle.std.proofs.lemmas.List.{set-get_or, get_or-set_same, get_or-set_other, take_all, length-take}
use Rattle.std.proofs.lemmas.Bool.{eq-eqb}
use Rattle.lru_plain.specs.Shape.{Shape, block_of, home_of}
use Rattle.lru_plain.specs.Cache.{Cache, IsCache, without, touched_set, set_for}
use Rattle.rv_exec.specs.declared.event.DataRef.{DataRef}
use Rattle.hierarchy.specs.declared.line.Line.{Line}
use Rattle.hierarchy.specs.declared.places.Places.{Places}
use Rattle.hierarchy.specs.declared.widths.Latencies.{Latencies}
use Rattle.hierarchy.specs.Front.{IsInFront, block_with, HasInFront, IsLatest, Holds, HasBlocksFor, IsLineAt}
use Rattle.hierarchy.specs.Lookup.{is_hit, touched_at, fetch_hits, after_fetch, after_reference, delay}

front_hits : (c : Cache) (addr : ℕ) → IsInFront c (block_of c.shape addr) → is_hit c addr ≡ true
front_hits c addr is =
    rw (is.front, eq-eqb (block_of c.shape addr) (block_of c.shape addr) refl) refl

touched_front :
    (ways block : ℕ) (rest : List ℕ) → length (block ∷ rest) ≤ ways
    → touched_set ways block (block ∷ rest) ≡ block ∷ rest
touched_front ways block rest cut =
    rw (eq-eqb block block refl) (take_all ways (block ∷ rest) cut)

front_kept : (c : Cache) (addr : ℕ) → IsInFront c (block_of c.shape addr) → touched_at c addr ≡ c
front_kept c addr is =
    let g = c.shape in
    let block = block_of g addr in
    let home = home_of g block in
    let same : touched_set g.ways block (set_for g c.sets addr) ≡ set_for g c.sets addr =
    ap (touched_set g.ways block) is.front ∙ touched_front g.ways block is.rest is.cut ∙ sym is.front in
    ap (λ (sets : List (List ℕ)). record c { sets = sets })
    (ap (slice_set c.sets home) same ∙ set-get_or c.sets home [])

-- and a touched block is in front
taken : (n x : ℕ) (xs : List ℕ) → 1 ≤ n → take n (x ∷ xs) ≡ x ∷ take (n - 1) xs
taken zero x xs h = let no : ⊥ = omega (arith, h) in absurd no
taken (suc n) x xs h = let same : n ≡ suc n - 1 = omega arith in ap (λ (k : ℕ). x ∷ take k xs) same

front_touched : (c : Cache) (addr : ℕ) → IsCache c → IsInFront (touched_at c addr) (block_of c.shape addr)
front_touched c addr is =
    let g = c.shape in
    let block = block_of g addr in
    let others = without block (set_for g c.sets addr) in
    let there : home_of g block < length c.sets = rw is.sets (mod-lt block (pow_pos g.sets_log)) in
    let len : length (take (g.ways - 1) others) ≡ _ = length-take (g.ways - 1) others in
    record {
      rest = take (g.ways - 1) others;
      front = get_or-set_same c.sets (home_of g block) _ [] there ∙ taken g.ways block others is.shape.least;
      cut = omega (arith, len, is.shape.least);
    }

-- a block stays in front where another set is touched
front_beside :
    (c : Cache) (addr block : ℕ) → ¬ (home_of c.shape block ≡ home_of c.shape (block_of c.shape addr))
    → IsInFront c block → IsInFront (touched_at c addr) block
front_beside c addr block other is = record {
  rest = is.rest;
  front = get_or-set_other c.sets _ (home_of c.shape block) _ [] other ∙ is.front;
  cut = is.cut;
}

-- an address of a line is in the line's block
same_block :
    (g : Shape) (line : Line) (addr : ℕ) → line.log ≤ g.line_log → addr / 2 ^ line.log ≡ line.number
    → block_of g addr ≡ block_with g line
same_block g line addr within is =
    let more : ℕ = g.line_log - line.log in
    let sum : g.line_log ≡ line.log + more = omega (arith, within) in
    ap (λ (k : ℕ). addr / 2 ^ k) sum
    ∙ ap (λ (d : ℕ). addr / d) (pow-add 2 line.log more)
    ∙ sym (div-div-eq-div-mul addr (2 ^ line.log) (2 ^ more))
    ∙ ap (λ (n : ℕ). n / 2 ^ more) is

has_front :
    (line : Line) (c : Cache) (addr : ℕ) → HasInFront line c → addr / 2 ^ line.log ≡ line.number
    → IsInFront c (block_of c.shape addr)
has_front line c addr has is =
    subst (IsInFront c) (sym (same_block c.shape line addr has.within is)) has.front

gets_front :
    (line : Line) (c : Cache) (addr : ℕ) → HasBlocksFor line c → addr / 2 ^ line.log ≡ line.number
    → HasInFront line (touched_at c addr)
gets_front line c addr has is = record {
  within = has.within;
  front = subst (IsInFront (touched_at c addr)) (same_block c.shape line addr has.within is)
      (front_touched c addr has.cache);
}

-- a fetch of the latest line
pub fetched_again :
    (l : Latencies) (caches : Places Cache) (latest : Option Line) (pc : ℕ)
    → IfSome latest (IsLatest caches) → Holds latest pc
    → (0 ≡ delay l (fetch_hits caches pc)) × (caches ≡ after_fetch caches pc)
fetched_again l caches None pc is holds = absurd holds
fetched_again l caches (Some line) pc is holds =
    let itlb = has_front line caches.itlb pc is.itlb holds in
    let l1i = has_front line caches.l1i pc is.l1i holds in
    let l2 = has_front line caches.l2 pc is.l2 holds in (
      rw (front_hits caches.itlb pc itlb, front_hits caches.l1i pc l1i) refl,
      rw (front_kept caches.itlb pc itlb, front_kept caches.l1i pc l1i, front_kept caches.l2 pc l2) refl,
    )

-- and of another one
pub entered :
    (caches : Places Cache) (line : Line) (pc : ℕ) → IsLineAt caches pc line → IsLatest (after_fetch caches pc) line
entered caches line pc is = record {
  small = is.small;
  itlb = gets_front line caches.itlb pc is.itlb is.number;
  l1i = gets_front line caches.l1i pc is.l1i is.number;
  l2 = gets_front line caches.l2 pc is.l2 is.number;
  set = is.set ∙ ap (home_of caches.l2.shape) (same_block caches.l2.shape line pc is.l2.within is.number);
}

-- a reference to data that goes to another set of the second cache
pub kept_beside :
    (caches : Places Cache) (d : DataRef) (old new : Option Line)
    → IfSome old (IsLatest caches)
    → IfSome new (λ line. (old ≡ Some line) × ¬ (line.set ≡ home_of caches.l2.shape (block_of caches.l2.shape d.addr)))
    → IfSome new (IsLatest (after_reference caches (Some d)))
kept_beside caches d old None before beside = tt
kept_beside caches d old (Some line) before beside =
    let P : Option Line → Type 0 = λ o. IfSome o (IsLatest caches) in
    let is : IsLatest caches line = subst P beside.0 before in
    record {
      small = is.small;
      itlb = is.itlb;
      l1i = is.l1i;
      l2 = record {
        within = is.l2.within;
        front = front_beside caches.l2 d.addr (block_with caches.l2.shape line)
            (λ same. beside.1 (is.set ∙ same)) is.l2.front;
      };
      set = is.set;
    }
