-- A set that blocks are appended to, one after another.
use Rattle.std.proofs.Common.{◌≡◌, ◌≢◌, ℕ, zero, suc, ◌+◌, ◌<◌, List, [], ◌∷◌, ◌++◌, length, take, get_or, set, refl, sym, ap, ◌∙◌, arith, set-set, get_or-set_same}
use Rattle.std.specs.List.{Contains}
use Rattle.std.proofs.lemmas.List.{take_more, map-append}
use Rattle.lru_plain.specs.Shape.{Shape}
use Rattle.lru_plain.specs.Cache.{Cache}
use Rattle.recency_record.specs.declared.entry.Entry.{Entry}
use Rattle.std.specs.List.{AllByRecursion}
use Rattle.rebuild.specs.Pouring.{AreApart}
use Rattle.rebuild.proofs.PlainSets.{blocks_in}

each_at : (P : Entry → Type 0) (es : List Entry) (k : ℕ) (d : Entry) → AllByRecursion P es → k < length es → P (get_or es k d)
each_at P [] k d h below = absurd (omega (arith, below))
each_at P (e ∷ es) zero d h below = h.0
each_at P (e ∷ es) (suc k) d h below = each_at P es k d h.1 (omega (arith, below))

-- no block before is that of this place
pub not_before : (es : List Entry) (k : ℕ) (d : Entry) → AreApart es → k < length es
    → Contains (blocks_in (take k es)) (get_or es k d).block → ⊥
not_before [] k d h below at = omega (arith, below)
not_before (e ∷ es) zero d h below (i, within, at) = omega (arith, within)
not_before (e ∷ es) (suc k) d h below (zero, within, at) =
    each_at (λ x. x.block ≢ e.block) es k d h.0 (omega (arith, below)) (sym at)
not_before (e ∷ es) (suc k) d h below (suc i, within, at) =
    not_before es k d h.1 (omega (arith, below)) (i, omega (arith, within), at)

pub set_so_far : (sets : List (List ℕ)) (j : ℕ) (xs : List ℕ) (cache : Cache) (g : Shape) → j < length sets
    → cache ≡ record { shape = g; sets = set sets j xs } → get_or cache.sets j [] ≡ xs
set_so_far sets j xs cache g h is = ap (λ (c : Cache). get_or c.sets j []) is ∙ get_or-set_same sets j xs [] h

pub fill_more : (g : Shape) (sets : List (List ℕ)) (j i : ℕ) (es : List Entry) (d : Entry) (cache new : Cache)
    → j < length sets → i < length es
    → cache ≡ record { shape = g; sets = set sets j (blocks_in (take i es)) }
    → new ≡ record { shape = cache.shape; sets = set cache.sets j (get_or cache.sets j [] ++ (get_or es i d).block ∷ []) }
    → new ≡ record { shape = g; sets = set sets j (blocks_in (take (i + 1) es)) }
fill_more g sets j i es d cache new h below is after =
    let more : blocks_in (take (i + 1) es) ≡ blocks_in (take i es) ++ (get_or es i d).block ∷ [] =
    ap blocks_in (take_more es i d below) ∙ map-append (λ e. e.block) (take i es) (get_or es i d ∷ []) in
    rw (after, set_so_far sets j (blocks_in (take i es)) cache g h is, is, set-set sets j (blocks_in (take i es)) (blocks_in (take i es) ++ (get_or es i d).block ∷ []), more) refl
