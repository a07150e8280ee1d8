-- Sets that are read one behind the other are those of a snapshot.
use Rattle.std.proofs.Common.{◌≡◌, ℕ, ◌+◌, ◌^◌, ◌<◌, ◌≤◌, Ok, None, List, [], ◌∷◌, ◌++◌, length, take, drop, sum, refl, sym, ap, ◌∙◌, arith, length-drop, take_all}
use Rattle.std.proofs.lemmas.List.{take-append-le, drop-append-le}
use Rattle.std.proofs.lemmas.List.Sums.{sum_by-cons, sum_by-append}
use Rattle.lru_plain.specs.Shape.{IsShape}
use Rattle.recency_record.specs.declared.entry.Entry.{Entry}
use Rattle.recency_record.specs.Faults.{dealt, sets_fault}
use Rattle.recency_record.proofs.Rows.{dealt_length}
use Rattle.livepoint_format.specs.declared.entries.Which.{Which}
use Rattle.livepoint_format.specs.Reading.{Spot, items}
use Rattle.livepoint_format.specs.Reads.{IsBytes}
use Rattle.livepoint_format.specs.Decoding.{set_at, set_after}
use Rattle.livepoint_format.proofs.Spells.{items_spell}
use Rattle.livepoint_format.proofs.PointLaws.{set_spells, sets_of_follow}

nil_of : (xs : List Entry) → length xs ≡ 0 → xs ≡ []
nil_of [] e = refl
nil_of (x ∷ xs) e = absurd (omega arith)

-- one more set behind others
pub dealt_more : (counts : List ℕ) (entries es : List Entry) (n : ℕ) → sum counts ≡ length entries → length es ≡ n
    → dealt (counts ++ n ∷ []) (entries ++ es) ≡ dealt counts entries ++ es ∷ []
dealt_more [] entries es n whole long =
    rw (nil_of entries (sym whole)) (ap (λ (l : List Entry). l ∷ []) (take_all n es (omega arith)))
dealt_more (c ∷ counts) entries es n whole long =
    let sum' : sum (c ∷ counts) ≡ c + sum counts = sum_by-cons (λ x. x) c counts in
    let few : c ≤ length entries = omega arith in
    let rest : sum counts ≡ length (drop c entries) = omega (arith, length-drop c entries) in
    rw (take-append-le c entries es few, drop-append-le c entries es few)
    (ap (λ (l : List (List Entry)). take c entries ∷ l) (dealt_more counts (drop c entries) es n rest long))

pub sum_more : (counts : List ℕ) (n : ℕ) → sum (counts ++ n ∷ []) ≡ sum counts + n
sum_more counts n = sum_by-append (λ x. x) counts (n ∷ []) ∙ omega (arith, sum_by-cons (λ (x : ℕ). x) n [])

pub set_here : (which : Which) (limit number : ℕ) (counts : List ℕ) (entries : List Entry) (at : Spot) → length counts ≡ number
    → set_after which limit (dealt counts entries) at ≡ set_at which limit number at
set_here which limit number counts entries at long =
    ap (λ (n : ℕ). set_at which limit n at) (dealt_length counts entries ∙ long)

-- sets that were read break no rule
pub sound_of_read : (which : Which) → IsShape which.shape → (limit count : ℕ) → limit < 2 ^ 63 → (at : Spot) (sets : List (List Entry)) (after : Spot)
    → IsBytes at.rest → items (set_after which limit) count [] at ≡ Ok (sets, after) → sets_fault which.shape limit 0 sets ≡ None
sound_of_read which shape limit count small at sets after bytes read =
    sets_of_follow which.shape limit [] sets ((items_spell (set_spells which shape limit small) count).takes at sets after bytes read).is_in.1
