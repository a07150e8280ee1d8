-- Entries that stand in bytes are those that are read from them.
use Rattle.std.proofs.Common.{◌≡◌, ℕ, zero, suc, ◌+◌, ◌-◌, ◌*◌, ◌^◌, ◌<◌, ◌≤◌, Bool, true, false, not, ltb, eqb, ◌&&◌, Ok, None, List, [], ◌∷◌, ◌++◌, length, take, drop, set, slice_get, refl, sym, ap, ◌∙◌, arith, add-one, append-nil, length-take-le, length-drop, take-append-drop, drop-drop}
use Rattle.std.specs.Prelude.{flat_map}
use Rattle.std.specs.List.{list_any}
use Rattle.std.specs.Int.{w32, w64, from_le_bytes, to_le_bytes}
use Rattle.std.proofs.lemmas.Bool.{and_parts}
use Rattle.std.proofs.lemmas.Nat.{le_bytes_4, le_bytes_8}
use Rattle.std.proofs.lemmas.Grind.{flat_map-append}
use Rattle.std.proofs.Math.Seq.{take-suc-set}
use Rattle.lru_plain.specs.Shape.{Shape}
use Rattle.recency_record.specs.declared.entry.Entry.{Entry}
use Rattle.recency_record.specs.Faults.{belongs, is_no_later, entry_fault}
use Rattle.recency_record.proofs.Judgements.{passed}
use Rattle.live_words.proofs.FollowLemmas.{follow_more}
use Rattle.livepoint_format.specs.declared.entries.Which.{Which}
use Rattle.livepoint_format.specs.Reading.{Spot, Reader, items}
use Rattle.livepoint_format.specs.Reads.{IsBytes, Passed}
use Rattle.livepoint_format.specs.Format.{word, long, entry}
use Rattle.livepoint_format.specs.Decoding.{entry_after}
use Rattle.livepoint_format.specs.Entries.{may_stand, AreRead}
use Rattle.livepoint_format.proofs.Spells.{items_spell, bytes_front, bytes_back}
use Rattle.livepoint_format.proofs.PointLaws.{entry_spells}

pub stands_behind : (g : Shape) (limit number : ℕ) (before : List Entry) (e : Entry) → may_stand g limit number before e ≡ true
    → entry_fault g limit number before e ≡ None
stands_behind g limit number before e may =
    let a : (belongs g number e.block ≡ true) × ((not (list_any (λ x. eqb x.block e.block) before) && (ltb e.time limit && not (is_no_later (slice_get before (length before - 1)) e.time))) ≡ true) = and_parts _ _ may in
    let b : (not (list_any (λ x. eqb x.block e.block) before) ≡ true) × ((ltb e.time limit && not (is_no_later (slice_get before (length before - 1)) e.time)) ≡ true) = and_parts _ _ a.1 in
    let c : (ltb e.time limit ≡ true) × (not (is_no_later (slice_get before (length before - 1)) e.time) ≡ true) = and_parts _ _ b.1 in
    passed g limit number before e (record { home = a.0; new = turned _ b.0; early = c.0; falls = turned _ c.1 })
  where
    turned : (b : Bool) → not b ≡ true → b ≡ false
    turned true e = absurd cc
    turned false e = refl

take_nil : (n : ℕ) → take n [] ≡ (let none : List ℕ = [] in none)
take_nil zero = refl
take_nil (suc n) = refl

pub take_sum : (a b : ℕ) (xs : List ℕ) → take (a + b) xs ≡ take a xs ++ take b (drop a xs)
take_sum zero b xs = let e : 0 + b ≡ b = omega arith in ap (λ (n : ℕ). take n xs) e
take_sum (suc a) b [] = take_nil (suc a + b) ∙ sym (take_nil b)
take_sum (suc a) b (x ∷ xs) =
    let e : suc a + b ≡ suc (a + b) = omega arith in
    ap (λ (n : ℕ). take n (x ∷ xs)) e ∙ ap (λ (l : List ℕ). x ∷ l) (take_sum a b xs)

-- the bytes of one entry
entry_spelt : (text : List ℕ) (at : ℕ) (e : Entry) → IsBytes text → at + 12 ≤ length text
    → e.block ≡ from_le_bytes w32 (take 4 (drop at text)) → e.time ≡ from_le_bytes w64 (take 8 (drop (at + 4) text))
    → entry e ≡ take 12 (drop at text)
unfolding entry word long
entry_spelt text at e bytes enough block time =
    let rest : List ℕ = drop at text in
    let four : length (take 4 (drop at text)) ≡ 4 = length-take-le 4 (drop at text) (omega (arith, length-drop at text)) in
    let eight : length (take 8 (drop (at + 4) text)) ≡ 8 = length-take-le 8 (drop (at + 4) text) (omega (arith, length-drop (at + 4) text)) in
    let first : to_le_bytes w32 e.block ≡ take 4 (drop at text) =
    le_bytes_4 (take 4 (drop at text)) e.block four (bytes_front 4 (drop at text) (bytes_back at text bytes.each)) block in
    let second : to_le_bytes w64 e.time ≡ take 8 (drop (at + 4) text) =
    le_bytes_8 (take 8 (drop (at + 4) text)) e.time eight (bytes_front 8 (drop (at + 4) text) (bytes_back (at + 4) text bytes.each)) time in
    let along : drop 4 (drop at text) ≡ drop (at + 4) text = drop-drop 4 at text in
    ap (λ (l : List ℕ). l ++ to_le_bytes w64 e.time) first
    ∙ ap (λ (l : List ℕ). take 4 (drop at text) ++ l) (second ∙ ap (take 8) (sym along))
    ∙ sym (take_sum 4 8 (drop at text))

pub more_read : (g : Shape) (limit number : ℕ) (text : List ℕ) (row : List Entry) (i : ℕ) (e : Entry) → IsBytes text
    → 12 * (i + 1) ≤ length text → i < length row
    → e.block ≡ from_le_bytes w32 (take 4 (drop (12 * i) text)) → e.time ≡ from_le_bytes w64 (take 8 (drop (12 * i + 4) text))
    → AreRead g limit number (take (12 * i) text) (take i row) → entry_fault g limit number (take i row) e ≡ None
    → AreRead g limit number (take (12 * (i + 1)) text) (take (i + 1) (set row i e))
more_read g limit number text row i e bytes enough within block time are stands =
    let front : take (i + 1) (set row i e) ≡ take i row ++ e ∷ [] = rw add-one (take-suc-set row i e within) in
    let spelt : entry e ≡ take 12 (drop (12 * i) text) = entry_spelt text (12 * i) e bytes (omega arith) block time in
    let sum : 12 * (i + 1) ≡ 12 * i + 12 = omega arith in
    rw front (record {
      follow = follow_more (λ before x. entry_fault g limit number before x ≡ None) [] (take i row) e are.follow stands;
      spelt = flat_map-append entry (take i row) (e ∷ [])
          ∙ ap (λ (l : List ℕ). l ++ (entry e ++ [])) are.spelt
          ∙ ap (λ (l : List ℕ). take (12 * i) text ++ l) (append-nil (entry e) ∙ spelt)
          ∙ sym (take_sum (12 * i) 12 text) ∙ ap (λ (n : ℕ). take n text) (sym sum);
    })

pub passed_if : {A : Type 0} (b : Bool) (read : Reader A) (before : Spot) (x : A) (after : Spot) → b ≡ true → read before ≡ Ok (x, after)
    → Passed b read before x after
passed_if true read before x after e h = h
passed_if false read before x after e h = absurd cc

pub read_at_once : (which : Which) (limit number count : ℕ) → limit < 2 ^ 63 → (at after : Spot) (es : List Entry)
    → 12 * count ≤ length at.rest → length es ≡ count → AreRead which.shape limit number (take (12 * count) at.rest) es
    → after.place ≡ at.place + 12 * count → after.rest ≡ drop (12 * count) at.rest
    → items (entry_after which limit number) count [] at ≡ Ok (es, after)
read_at_once which limit number count small at after es enough long are place rest =
    let text : at.rest ≡ flat_map entry es ++ after.rest =
    sym (take-append-drop (12 * count) at.rest) ∙ ap (λ (l : List ℕ). l ++ drop (12 * count) at.rest) (sym are.spelt)
    ∙ ap (λ (l : List ℕ). flat_map entry es ++ l) (sym rest) in
    let size : length (flat_map entry es) ≡ 12 * count = ap length are.spelt ∙ length-take-le (12 * count) at.rest enough in
    let end : at.place + length (flat_map entry es) ≡ after.place = omega arith in
    let read : items (entry_after which limit number) count [] (record { place = at.place; rest = flat_map entry es ++ after.rest })
    ≡ Ok (es, record { place = at.place + length (flat_map entry es); rest = after.rest }) =
    (items_spell (entry_spells which limit number small) count).again es at.place after.rest (long, are.follow) in
    ap (λ (l : List ℕ). items (entry_after which limit number) count [] (record { place = at.place; rest = l })) text
    ∙ read ∙ ap (λ (n : ℕ). let s : Spot = record { place = n; rest = after.rest } in Ok (es, s)) end
