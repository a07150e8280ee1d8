-- The units of points, and what headers and points that were read are.
use Rattle.std.proofs.Common.{◌≡◌, ℕ, ◌+◌, ◌*◌, ◌^◌, ◌<◌, ◌≤◌, Bool, true, false, eqb, ltb, cond, Result, Ok, Err, List, [], length, refl, sym, ◌∙◌, arith}
use Rattle.std.proofs.lemmas.Nat.{mul-le}
use Rattle.sample_design.specs.declared.units.UnitsFault.{UnitsFault}
use Rattle.sample_design.specs.declared.units.UnitsFault.TheVariants.{NoUnits, TooMany}
use Rattle.sample_design.specs.Design.{IsUsable}
use Rattle.sample_design.specs.Units.{EndsWithin, sampled_unit, units_of, unit_count, judged as units_judged}
use Rattle.sample_design.proofs.Counts.{below_count}
use Rattle.livepoint_format.specs.Reading.{Spot, starts_at, items}
use Rattle.livepoint_format.specs.Reads.{IsBytes}
use Rattle.livepoint_format.specs.Values.{Head, Point, Whole}
use Rattle.std.specs.Prelude.{IfErr}
use Rattle.smarts_base.specs.declared.refusal.Refusal.TheVariants.{Fault, NoMemory}
use Rattle.std.proofs.Common.{IfOk, inl, inr, eq-eqb, true≢false}
use Rattle.std.proofs.lemmas.Bool.{cases_eq}
use Rattle.smarts_base.specs.declared.refusal.Refusal.{Refusal}
use Rattle.smarts_base.specs.Outcome.{Answers}
use Rattle.live_words.specs.Follow.{Follow}
use Rattle.livepoint_format.specs.declared.fault.LibraryFault.{LibraryFault}
use Rattle.livepoint_format.specs.Laws.{AreBytes, IsNoLibrary}
use Rattle.livepoint_format.specs.Format.{design_of, IsHeader, IsPoint, IsLibrary, spelling, unit_of, AreShared, is_first}
use Rattle.livepoint_format.proofs.Spells.{items_spell}
use Rattle.livepoint_format.proofs.LibraryLaws.{points_spell, reads_spellings}
use Rattle.livepoint_format.specs.Decoding.{header_at, point_at, point_after, library_of}
use Rattle.livepoint_format.proofs.HeaderLaws.{IsFront, header_spells, points_few}
use Rattle.livepoint_format.proofs.PointLaws.{point_spells}

pub usable : (h : Head) → IsHeader h → IsUsable (design_of h)
usable h is = record {
  ranges = record {
    unit_least = is.unit.0;
    unit_most = is.unit.1;
    warm_most = is.warm;
    every_least = is.every.0;
    every_most = is.every.1;
    offset_most = omega (arith, is.offset, is.every.1);
    seed_most = is.seed;
    budget_least = omega arith;
    budget_most = omega arith;
  };
  offset = is.offset;
}

judged_count : (instructions count points : ℕ) → units_judged instructions count ≡ Ok points → count ≡ points
judged_count instructions count points e = go (eqb count 0) (ltb 65536 count) e
  where
    go : (a b : Bool) → cond a (Err (NoUnits instructions)) (cond b (Err (TooMany count)) (let r : Result ℕ UnitsFault = Ok count in r)) ≡ Ok points → count ≡ points
    go true b e = absurd cc
    go false true e = absurd cc
    go false false e = cc

count_of : (h : Head) → IsHeader h → unit_count (design_of h) h.instructions ≡ h.points
unfolding units_of
count_of h is = judged_count h.instructions (unit_count (design_of h) h.instructions) h.points is.points

pub unit_fits : (h : Head) → IsHeader h → (p : ℕ) → p < h.points → sampled_unit (design_of h) p < 2 ^ 32
unit_fits h is p below =
    let ends : EndsWithin (design_of h) h.instructions (sampled_unit (design_of h) p) =
    (below_count (design_of h) h.instructions (usable h is) p).0 (omega (arith, below, count_of h is)) in
    let wide : (sampled_unit (design_of h) p + 1) * 16 ≤ (sampled_unit (design_of h) p + 1) * h.unit =
    mul-le (sampled_unit (design_of h) p + 1) 16 (sampled_unit (design_of h) p + 1) h.unit (omega arith) is.unit.0 in
    omega (arith, ends, wide, is.instructions.1)

pub front_of_read : (bytes : List ℕ) (f : Head × List (ℕ × ℕ)) (after : Spot) → IsBytes bytes → header_at (starts_at 0 bytes) ≡ Ok (f, after) → IsFront f
front_of_read bytes f after are read = (header_spells.takes (starts_at 0 bytes) f after are read).is_in

pub point_onward : (h : Head) (shared : List (ℕ × ℕ)) (number wanted : ℕ) → IsHeader h → AreShared (is_first h) shared → (at : Spot) (p : Point) (after : Spot)
    → IsBytes at.rest → point_at h shared number wanted at ≡ Ok (p, after) → at.place ≤ after.place
point_onward h shared number wanted is are at p after bytes read =
    omega (arith, ((point_spells h is shared are number wanted).takes at p after bytes read).place)

pub front_is : (at : Spot) (f : Head × List (ℕ × ℕ)) (after : Spot) → IsBytes at.rest → header_at at ≡ Ok (f, after) → IsFront f
front_is at f after bytes read = (header_spells.takes at f after bytes read).is_in

judged_some : (instructions count points : ℕ) → units_judged instructions count ≡ Ok points → 0 < points
judged_some instructions count points e = go (eqb count 0) (ltb 65536 count) refl e
  where
    go : (a b : Bool) → eqb count 0 ≡ a → cond a (Err (NoUnits instructions)) (cond b (Err (TooMany count)) (let r : Result ℕ UnitsFault = Ok count in r)) ≡ Ok points → 0 < points
    go true b test e = absurd cc
    go false true test e = absurd cc
    go false false test e =
        let same : count ≡ points = cc in
        elim (cases_eq count 0) [
          | inl none ↦ absurd (true≢false (sym (eq-eqb count 0 none) ∙ test))
          | inr some ↦ omega arith
        ]

pub points_some : (h : Head) → IsHeader h → 0 < h.points
unfolding units_of
points_some h is = judged_some h.instructions (unit_count (design_of h) h.instructions) h.points is.points

pub points_most : (h : Head) → IsHeader h → h.points ≤ 65536
points_most h is = points_few (design_of h) h.instructions h.points is.points

pub points_are : (h : Head) (shared : List (ℕ × ℕ)) → IsHeader h → AreShared (is_first h) shared → (count : ℕ) (at : Spot) (points : List Point) (after : Spot)
    → IsBytes at.rest → items (point_after h shared) count [] at ≡ Ok (points, after)
    → (length points ≡ count) × Follow (λ before. IsPoint h (unit_of h (length before))) [] points
points_are h shared is are count at points after bytes read =
    ((items_spell (points_spell h shared is are) count).takes at points after bytes read).is_in

-- what is answered is a library in its own spelling
pub found_of : (r : Result Whole (Refusal LibraryFault)) (bytes : List ℕ) → AreBytes bytes → Answers (λ l. l) r (library_of bytes)
    → IfOk r (λ l. IsLibrary l × (bytes ≡ spelling l))
found_of (Ok l) bytes are e = (reads_spellings bytes l are).0 e
found_of (Err refusal) bytes are e = tt

-- and a fault is that of no library
fault_only : (bytes : List ℕ) (fault : LibraryFault) → AreBytes bytes → library_of bytes ≡ Err fault → (l : Whole) → IsLibrary l → bytes ≡ spelling l → ⊥
fault_only bytes fault are e l is text =
    let read : library_of bytes ≡ Ok l = (reads_spellings bytes l are).1 (is, text) in
    let both : (let r : Result Whole LibraryFault = Err fault in r) ≡ Ok l = sym e ∙ read in
    absurd cc

pub only_of : (r : Result Whole (Refusal LibraryFault)) (bytes : List ℕ) → AreBytes bytes → Answers (λ l. l) r (library_of bytes)
    → IfErr r (IsNoLibrary bytes)
only_of (Ok l) bytes are e = tt
only_of (Err (Fault fault)) bytes are e = fault_only bytes fault are e
only_of (Err NoMemory) bytes are e = tt
