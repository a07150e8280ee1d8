-- The large sets that map to a small one, one after another.
use Rattle.std.proofs.Common.{◌≡◌, ◌≢◌, ℕ, zero, suc, ◌+◌, ◌-◌, ◌*◌, ◌%◌, ◌<◌, ◌≤◌, List, [], ◌∷◌, ◌++◌, length, take, drop, get_or, refl, sym, ap, ◌∙◌, arith, eq-eqb, add-one, mul-suc, mul-le-mul, pow-add, one-mul, ◌^◌}
use Rattle.lru_plain.specs.Shape.{Shape, IsShape, sets_of}
use Rattle.std.proofs.Math.Nat.{mul-add-mod_self_left, mod-eq_of_lt, pow-le-pow_right}
use Rattle.std.proofs.Math.Seq.{drop-cons}
use Rattle.std.proofs.lemmas.Bool.{ne_eqb}
use Rattle.std.proofs.lemmas.List.{drop-drop, length-drop}
use Rattle.recency_record.specs.declared.entry.Entry.{Entry}
use Rattle.recency_record.specs.Slots.{by_time}
use Rattle.rebuild.specs.Merge.{united}
use Rattle.rebuild.specs.Pouring.{poured}
use Rattle.rebuild.proofs.Placing.{poured_sorted}

pub large_below : (count turns left set : ℕ) → left < turns → set < count → count * left + set < count * turns
large_below count turns left set h k =
    let more : count * suc left ≡ count * left + count = mul-suc count left in
    let self : count ≤ count = omega arith in
    let whole : count * suc left ≤ count * turns = mul-le-mul self h in
    omega (arith, more, whole, k)

module _ (count class : ℕ) where
  -- sets that belong to others
  skipped : (k first : ℕ) (sets : List (List Entry)) → k ≤ length sets
      → ((i : ℕ) → i < k → (first + i) % count ≢ class)
      → united count class first sets ≡ united count class (first + k) (drop k sets)
  skipped zero first sets h other = let same : first + 0 ≡ first = omega arith in rw same refl
  skipped (suc k) first [] h other = absurd (omega (arith, h))
  skipped (suc k) first (es ∷ rest) h other =
      let here : first + 0 ≡ first = omega arith in
      let along : (first + 1) + k ≡ first + suc k = omega arith in
      rw (ne_eqb (first % count) class (λ e. other 0 (omega arith) (ap (λ (n : ℕ). n % count) here ∙ e)), ← along)
      (skipped k (first + 1) rest (omega (arith, h))
      (λ i below e. let step : (first + 1) + i ≡ first + suc i = omega arith in
      other (suc i) (omega (arith, below)) (ap (λ (n : ℕ). n % count) (sym step) ∙ e)))

  -- so many sets from a multiple of the count on: one is the class's own
  pub turned : (left : ℕ) (sets : List (List Entry)) → class < count → count * left + count ≤ length sets
      → united count class (count * left) (drop (count * left) sets)
      ≡ get_or sets (count * left + class) [] ++ united count class (count * left + count) (drop (count * left + count) sets)
  turned left sets small room =
      let start : ℕ = count * left in
      let residue : (i : ℕ) → i < count → (count * left + i) % count ≡ i =
      (λ i below. mul-add-mod_self_left count left i ∙ mod-eq_of_lt below) in
      let long : length (drop (count * left) sets) ≡ length sets - count * left = length-drop (count * left) sets in
      let front : united count class (count * left) (drop (count * left) sets)
      ≡ united count class (count * left + class) (drop (count * left + class) sets) =
      skipped class (count * left) (drop (count * left) sets) (omega (arith, long, small, room))
      (λ i below e. let at : i ≡ class = sym (residue i (omega (arith, below, small))) ∙ e in omega (arith, at, below))
      ∙ ap (λ (l : List (List Entry)). united count class (count * left + class) l) (drop-drop class (count * left) sets) in
      let own : drop (count * left + class) sets ≡ get_or sets (count * left + class) [] ∷ drop (count * left + class + 1) sets =
      let at : count * left + class < length sets = omega (arith, small, room) in
      rw (add-one, drop-cons sets (count * left + class) [] at) refl in
      let rest : ℕ = count - class - 1 in
      let past : (count * left + class + 1) + (count - class - 1) ≡ count * left + count = omega (arith, small) in
      let behind : united count class (count * left + class + 1) (drop (count * left + class + 1) sets)
      ≡ united count class (count * left + count) (drop (count * left + count) sets) =
      skipped (count - class - 1) (count * left + class + 1) (drop (count * left + class + 1) sets)
      (omega (arith, length-drop (count * left + class + 1) sets, small, room))
      (λ i below e.
      let step : (count * left + class + 1) + i ≡ count * left + (class + 1 + i) = omega arith in
      let at : class + 1 + i ≡ class = sym (residue (class + 1 + i) (omega (arith, below, small))) ∙ sym (ap (λ (n : ℕ). n % count) step) ∙ e in
      omega (arith, at))
      ∙ rw (drop-drop (count - class - 1) (count * left + class + 1) sets, past) refl in
      front ∙ rw (own, eq-eqb ((count * left + class) % count) class (residue class small), behind) refl

-- what one more set leaves
pub turn_more : (count class ways a b : ℕ) (sets : List (List Entry)) (own list new : List Entry)
    → a ≡ suc b → class < count → count * a ≤ length sets
    → list ≡ take ways (by_time (united count class (count * a) (drop (count * a) sets)))
    → own ≡ get_or sets (count * b + class) [] → new ≡ poured ways own list
    → new ≡ take ways (by_time (united count class (count * b) (drop (count * b) sets)))
turn_more count class ways a b sets own list new step small room was at after =
    let next : count * a ≡ count * b + count = ap (λ (n : ℕ). count * n) step ∙ mul-suc count b in
    let list_is : list ≡ take ways (by_time (united count class (count * b + count) (drop (count * b + count) sets))) =
    was ∙ ap (λ (n : ℕ). take ways (by_time (united count class n (drop n sets)))) next in
    rw (
      after,
      list_is,
      poured_sorted ways own (united count class (count * b + count) (drop (count * b + count) sets)),
      at,
      ← turned count class b sets small (omega (arith, room, next)),
    ) refl

turns_are : (large small : Shape) → small.sets_log ≤ large.sets_log
    → sets_of small * 2 ^ (large.sets_log - small.sets_log) ≡ sets_of large
turns_are large small h =
    let sum : small.sets_log + (large.sets_log - small.sets_log) ≡ large.sets_log = omega (arith, h) in
    sym (pow-add 2 small.sets_log (large.sets_log - small.sets_log)) ∙ ap (λ (n : ℕ). 2 ^ n) sum

pub turns_value : (large small : Shape) (a b : ℕ) → a ≡ large.sets_log → b ≡ small.sets_log → IsShape large
    → small.sets_log ≤ large.sets_log
    → sets_of small * ((1 * 2 ^ (a - b)) % 4294967296) ≡ sets_of large
turns_value large small a b ea eb shape h =
    let low : large.sets_log - small.sets_log ≤ 12 = omega (arith, shape.sets) in
    let few : 2 ^ (large.sets_log - small.sets_log) ≤ 2 ^ 12 = pow-le-pow_right {n = 2} (omega arith) low in
    let small_enough : 2 ^ (large.sets_log - small.sets_log) < 4294967296 = omega (arith, few) in
    rw (ea, eb, one-mul (2 ^ (large.sets_log - small.sets_log)), mod-eq_of_lt small_enough) (turns_are large small h)
