-- Counters that are read at once, and images that are read part by part.
use Rattle.std.proofs.Common.{◌≡◌, ℕ, zero, suc, ◌+◌, ◌%◌, ◌^◌, ◌<◌, ◌≤◌, true, max, Ok, List, [], ◌∷◌, ◌++◌, length, take, drop, get_or, refl, sym, ap, ◌∙◌, arith, take-append-drop, length-take-le}
use Rattle.std.specs.Prelude.{fold, flat_map}
use Rattle.std.specs.List.{AllPass}
use Rattle.std.specs.Int.{w8, w32}
use Rattle.std.proofs.lemmas.Bool.{leb-true, le-leb}
use Rattle.std.proofs.lemmas.List.Elements.{All-from_get_or}
use Rattle.predictor.specs.declared.kind.PredictorKind.{PredictorKind}
use Rattle.predictor.specs.Kind.{IsKind}
use Rattle.predictor.specs.Parts.{is_counter, is_history}
use Rattle.predictor.specs.Tables.{tables_with}
use Rattle.livepoint_format.specs.Reading.{Spot, items, counted}
use Rattle.livepoint_format.specs.Reads.{IsBytes}
use Rattle.livepoint_format.specs.Format.{byte, IsImageOf, within}
use Rattle.livepoint_format.specs.Decoding.{field, counter_after, target_after, address_after, image_at}
use Rattle.livepoint_format.specs.Image.{greatest}
use Rattle.livepoint_format.proofs.Spells.{items_spell, bytes_front}
use Rattle.livepoint_format.proofs.Follows.{follow_of_all}
use Rattle.livepoint_format.proofs.PointLaws.{counter_spells, image_spells}

fold_low : (most : ℕ) (bytes : List ℕ) → most ≤ fold (λ m b. max m b) most bytes
fold_low most [] = omega arith
fold_low most (b ∷ bytes) = let h : max most b ≤ fold (λ m b. max m b) (max most b) bytes = fold_low (max most b) bytes in omega arith

fold_each : (most : ℕ) (bytes : List ℕ) (i : ℕ) → i < length bytes → get_or bytes i 0 ≤ fold (λ m b. max m b) most bytes
fold_each most [] i h = absurd (omega arith)
fold_each most (b ∷ bytes) zero h = let k : max most b ≤ fold (λ m b. max m b) (max most b) bytes = fold_low (max most b) bytes in omega arith
fold_each most (b ∷ bytes) (suc i) h = fold_each (max most b) bytes i (omega arith)

greatest_each : (bytes : List ℕ) (i : ℕ) → i < length bytes → get_or bytes i 0 ≤ greatest bytes
unfolding greatest
greatest_each bytes i h = fold_each 0 bytes i h

are_counters : (bytes : List ℕ) → is_counter (greatest bytes) ≡ true → AllPass is_counter bytes
are_counters bytes e =
    All-from_get_or (λ n. is_counter n ≡ true) bytes 0
    (λ i h. let most : greatest bytes ≤ 3 = leb-true _ _ e in le-leb (get_or bytes i 0) 3 (omega (arith, greatest_each bytes i h)))

bytes_spelt : (bytes : List ℕ) → ((i : ℕ) → get_or bytes i 0 < 256) → flat_map byte bytes ≡ bytes
unfolding byte
bytes_spelt [] each = refl
bytes_spelt (b ∷ bytes) each =
    let small : b < 256 = each 0 in
    let same : b % 256 ≡ b = omega arith in
    rw (same, bytes_spelt bytes (λ i. each (suc i))) refl

pub counters_at_once : (count : ℕ) (at after : Spot) (counters : List ℕ) → IsBytes at.rest → count ≤ length at.rest
    → is_counter (greatest (take count at.rest)) ≡ true → counters ≡ take count at.rest
    → after.place ≡ at.place + count → after.rest ≡ drop count at.rest
    → items counter_after count [] at ≡ Ok (counters, after)
counters_at_once count at after counters bytes enough test same place rest =
    let front : List ℕ = take count at.rest in
    let spelt : flat_map byte (take count at.rest) ≡ take count at.rest = bytes_spelt (take count at.rest) (bytes_front count at.rest bytes.each) in
    let long : length (take count at.rest) ≡ count = length-take-le count at.rest enough in
    let text : at.rest ≡ flat_map byte (take count at.rest) ++ after.rest =
    sym (take-append-drop count at.rest) ∙ ap (λ (l : List ℕ). l ++ drop count at.rest) (sym spelt)
    ∙ ap (λ (l : List ℕ). flat_map byte (take count at.rest) ++ l) (sym rest) in
    let end : at.place + length (flat_map byte (take count at.rest)) ≡ after.place = omega (arith, ap length spelt, long, place) in
    ap (λ (l : List ℕ). items counter_after count [] (record { place = at.place; rest = l })) text
    ∙ (items_spell counter_spells count).again (take count at.rest) at.place after.rest
    (long, follow_of_all (λ n. is_counter n ≡ true) [] (take count at.rest) 0 (are_counters (take count at.rest) test))
    ∙ ap (λ (n : ℕ). let s : Spot = record { place = n; rest = after.rest } in Ok (take count at.rest, s)) end
    ∙ ap (λ (l : List ℕ). Ok (l, after)) (sym same)

-- the parts of an image that were read one behind the other
module _ (kind : PredictorKind) (is : IsKind kind) (at a b d e : Spot) (counters : List ℕ) (history : ℕ) (targets : List (ℕ × ℕ)) (stack : List ℕ)
    (bytes : IsBytes at.rest) (one : items counter_after (2 ^ kind.bits) [] at ≡ Ok (counters, a))
    (two : field w32 (is_history kind) a ≡ Ok (history, b))
    (three : items (target_after kind) (2 ^ kind.target_log) [] b ≡ Ok (targets, d))
    (four : counted (field w8 (within 0 kind.depth)) address_after d ≡ Ok (stack, e)) where
  pub image_of_read : IsImageOf kind (tables_with kind counters history targets stack)
  unfolding image_at
  image_of_read =
      ((image_spells kind is).takes at (tables_with kind counters history targets stack) e bytes (rw (one, two, three, four) refl)).is_in
