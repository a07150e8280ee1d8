-- A ring with one more.
use Rattle.std.proofs.Common.{List, None, Option, Some, arith, get_or, length, refl, set, suc, zero, ℕ, ◌≡◌, ◌≢◌, ◌-◌, ◌%◌, ◌≤◌, ◌∷◌, ◌∙◌}
use Rattle.std.proofs.lemmas.List.{get_or-set_other, get_or-set_same, length-set}
use Rattle.ruu_timing.specs.Ring.{IsRing, ring_place}
use Rattle.ruu_timing.specs.Times.{back}
use Rattle.ruu_timing.specs.declared.timed.Timed.{Timed}

pub ring_more :
    {Y : Type 0} (of : Option Timed → Y) (xs : List Timed) (ring : List Y) (x : Timed) → IsRing of xs ring
    → IsRing of (x ∷ xs) (set ring (length xs % 256) (of (Some x)))
ring_more {Y = Y} of xs ring x is = record {
  size = length-set ring (length xs % 256) (of (Some x)) ∙ is.size;
  each = each;
}
  where
    each :
        (k : ℕ) → 1 ≤ k → k ≤ 256
        → get_or (set ring (length xs % 256) (of (Some x))) (ring_place (length (x ∷ xs)) k) (of None) ≡ of (back (x ∷ xs) k)
    each zero some le = absurd (omega arith)
    each (suc zero) some le =
        let e : ring_place (length (x ∷ xs)) 1 ≡ length xs % 256 = omega arith in
        rw e (get_or-set_same ring (length xs % 256) (of (Some x)) (of None) (omega (arith, is.size)))
    each (suc (suc k)) some le =
        let e : ring_place (length (x ∷ xs)) (suc (suc k)) ≡ ring_place (length xs) (suc k) = omega arith in
        let other : ring_place (length xs) (suc k) ≢ length xs % 256 = λ same. omega arith in
        let back_one : suc (suc k) - 1 ≡ suc k = omega arith in
        let back_two : suc k - 1 ≡ k = omega arith in
        rw (e, get_or-set_other ring (length xs % 256) (ring_place (length xs) (suc k)) (of (Some x)) (of None) other, is.each (suc k) (omega arith) (omega arith), back_one, back_two) refl
