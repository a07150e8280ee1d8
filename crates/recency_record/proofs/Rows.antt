-- Lists in one row, with the places where each begins.
use Rattle.std.proofs.Common.{◌≡◌, ℕ, zero, suc, ◌+◌, ◌-◌, ◌*◌, ◌<◌, ◌≤◌, List, [], ◌∷◌, ◌++◌, length, map, take, drop, get_or, sum, refl, sym, ap, ◌∙◌, arith, append_assoc, drop-drop, append-nil, ◌^◌, mul-le-mul, suc-mul, add_comm}
use Rattle.std.proofs.lemmas.List.{take_at, drop_at, length-append, take_more, map-append}
use Rattle.std.proofs.lemmas.List.Sums.{sum_by-cons, sum_by_more_le, sum_by-le}
use Rattle.std.proofs.lemmas.List.Elements.{All-from_get_or}
use Rattle.std.proofs.Math.Nat.{pow-le-pow_right}
use Rattle.lru_plain.specs.Shape.{Shape, IsShape, sets_of}
use Rattle.recency_record.specs.declared.entry.Entry.{Entry}
use Rattle.recency_record.specs.Parts.{parts, starts_from, in_a_row, AreStarts}
use Rattle.recency_record.specs.Faults.{dealt}

starts_head : (s : ℕ) (counts : List ℕ) → get_or (starts_from s counts) 0 0 ≡ s
starts_head s [] = refl
starts_head s (c ∷ cs) = refl

pub starts_length : (s : ℕ) (counts : List ℕ) → length (starts_from s counts) ≡ length counts + 1
starts_length s [] = refl
starts_length s (c ∷ cs) = omega (arith, starts_length (s + c) cs)

parts_cons : (s t : ℕ) (counts : List ℕ) (row : List Entry)
    → parts (s ∷ starts_from t counts) row ≡ take (t - s) (drop s row) ∷ parts (starts_from t counts) row
parts_cons s t [] row = refl
parts_cons s t (c ∷ cs) row = refl

-- the parts at these places are what is dealt out by these counts
pub parts_dealt : (s : ℕ) (counts : List ℕ) (row : List Entry)
    → parts (starts_from s counts) row ≡ dealt counts (drop s row)
parts_dealt s [] row = refl
parts_dealt s (c ∷ cs) row =
    let long : (s + c) - s ≡ c = omega arith in
    rw (parts_cons s (s + c) cs row, long, parts_dealt (s + c) cs row, drop-drop c s row) refl

-- lists in a row are dealt out as they were
pub dealt_row : (sets : List (List Entry)) → dealt (map length sets) (in_a_row sets) ≡ sets
dealt_row [] = refl
dealt_row (es ∷ rest) =
    rw (take_at es (in_a_row rest) (length es) refl, drop_at es (in_a_row rest) (length es) refl, dealt_row rest) refl

-- the places where lists begin don't fall
pub starts_are : (long s : ℕ) (counts : List ℕ) → s + sum counts ≤ long → AreStarts long (starts_from s counts)
starts_are long s [] h k below = absurd (omega arith)
starts_are long s (c ∷ cs) h zero below =
    let more : sum (c ∷ cs) ≡ c + sum cs = sum_by-cons (λ x. x) c cs in
    rw (starts_head (s + c) cs) (omega arith, omega (arith, more, h))
starts_are long s (c ∷ cs) h (suc k) below =
    let more : sum (c ∷ cs) ≡ c + sum cs = sum_by-cons (λ x. x) c cs in
    let step : suc k + 1 ≡ suc (k + 1) = omega arith in
    rw step (starts_are long (s + c) cs (omega (arith, more, h)) k (omega arith))

-- one more list
pub starts_push : (s c : ℕ) (counts : List ℕ)
    → starts_from s (counts ++ c ∷ []) ≡ starts_from s counts ++ ((s + sum counts) + c) ∷ []
starts_push s c [] = let e : s + c ≡ (s + 0) + c = omega arith in ap (λ n. s ∷ n ∷ []) e
starts_push s c (x ∷ xs) =
    let more : sum (x ∷ xs) ≡ x + sum xs = sum_by-cons (λ x. x) x xs in
    let end : ((s + x) + sum xs) + c ≡ (s + sum (x ∷ xs)) + c = omega (arith, more) in
    rw (starts_push (s + x) c xs, end) refl

pub row_push : (sets : List (List Entry)) (es : List Entry) → in_a_row (sets ++ es ∷ []) ≡ in_a_row sets ++ es
row_push [] es = append-nil es
row_push (x ∷ xs) es = rw (row_push xs es) (sym (append_assoc x (in_a_row xs) es))

pub row_length : (sets : List (List Entry)) → length (in_a_row sets) ≡ sum (map length sets)
row_length [] = refl
row_length (es ∷ rest) =
    length-append es (in_a_row rest)
    ∙ ap (λ n. length es + n) (row_length rest) ∙ sym (sum_by-cons (λ x. x) (length es) (map length rest))

-- a part by its number
pub part_at : (starts : List ℕ) (row : List Entry) (k : ℕ) → k + 1 < length starts
    → get_or (parts starts row) k [] ≡ take (get_or starts (k + 1) 0 - get_or starts k 0) (drop (get_or starts k 0) row)
part_at [] row k h = absurd (omega arith)
part_at (s ∷ []) row k h = absurd (omega arith)
part_at (s ∷ t ∷ rest) row zero h = refl
part_at (s ∷ t ∷ rest) row (suc k) h =
    let step : suc k + 1 ≡ suc (k + 1) = omega arith in
    rw step (part_at (t ∷ rest) row k (omega arith))

pub dealt_length : (counts : List ℕ) (es : List Entry) → length (dealt counts es) ≡ length counts
dealt_length [] es = refl
dealt_length (c ∷ cs) es = ap suc (dealt_length cs (drop c es))

-- what a row of entries and its places are, made from counts
module _ (counts starts : List ℕ) (es row : List Entry) (at : starts ≡ starts_from 0 counts) (is : row ≡ es) where
  pub row_parts : parts starts row ≡ dealt counts es
  row_parts = rw (at, is) (parts_dealt 0 counts es)

  pub row_starts : sum counts ≡ length es → AreStarts (length row) starts
  row_starts h = rw (at, is) (starts_are (length es) 0 counts (omega (arith, h)))

  pub row_count : length starts ≡ length counts + 1
  row_count = rw at (starts_length 0 counts)

-- and made from lists
pub sets_parts : (sets : List (List Entry)) (starts : List ℕ) (row : List Entry)
    → starts ≡ starts_from 0 (map length sets) → row ≡ in_a_row sets → parts starts row ≡ sets
sets_parts sets starts row at is = row_parts (map length sets) starts (in_a_row sets) row at is ∙ dealt_row sets

-- one more set of a list
pub row_more : (sets : List (List Entry)) (i : ℕ) → i < length sets
    → in_a_row (take (i + 1) sets) ≡ in_a_row (take i sets) ++ get_or sets i []
row_more sets i h = rw (take_more sets i [] h) (row_push (take i sets) (get_or sets i []))

pub starts_more : (sets : List (List Entry)) (i : ℕ) → i < length sets
    → starts_from 0 (map length (take (i + 1) sets))
    ≡ starts_from 0 (map length (take i sets)) ++ length (in_a_row (take i sets) ++ get_or sets i []) ∷ []
starts_more sets i h =
    let own : List Entry = get_or sets i [] in
    let front : List (List Entry) = take i sets in
    let more : map length (front ++ own ∷ []) ≡ map length front ++ length own ∷ [] = map-append length front (own ∷ []) in
    let long : length (in_a_row front ++ own) ≡ (0 + sum (map length front)) + length own =
    omega (arith, length-append (in_a_row front) own, row_length front) in
    rw (take_more sets i [] h, more, starts_push 0 (length own) (map length front), long) refl

pub counts_more : (counts : List ℕ) (i : ℕ) → i < length counts
    → starts_from 0 (take (i + 1) counts) ≡ starts_from 0 (take i counts) ++ (sum (take i counts) + get_or counts i 0) ∷ []
counts_more counts i h =
    let none : (0 + sum (take i counts)) + get_or counts i 0 ≡ sum (take i counts) + get_or counts i 0 = omega arith in
    rw (take_more counts i 0 h, starts_push 0 (get_or counts i 0) (take i counts), none) refl

-- a row of short lists is short
pub row_short : (most : ℕ) (sets : List (List Entry)) → ((k : ℕ) → k < length sets → length (get_or sets k []) ≤ most)
    → length (in_a_row sets) ≤ length sets * most
row_short most [] h = omega arith
row_short most (es ∷ rest) h =
    let first : length es ≤ most = h 0 (omega arith) in
    let others : length (in_a_row rest) ≤ length rest * most = row_short most rest (λ k below. h (suc k) (omega arith)) in
    let sum : suc (length rest) * most ≡ most + length rest * most = suc-mul (length rest) most ∙ add_comm (length rest * most) most in
    omega (arith, first, others, sum, length-append es (in_a_row rest))

front_short : (n : ℕ) (xs : List (List Entry)) → length (in_a_row (take n xs)) ≤ length (in_a_row xs)
front_short zero xs = omega arith
front_short (suc n) [] = omega arith
front_short (suc n) (x ∷ xs) =
    omega (arith, front_short n xs, length-append x (in_a_row (take n xs)), length-append x (in_a_row xs))

pub row_more_short : (most : ℕ) (sets : List (List Entry)) (i : ℕ) → i < length sets → length sets ≤ 4096 → most ≤ 16
    → ((k : ℕ) → k < length sets → length (get_or sets k []) ≤ most)
    → length (in_a_row (take i sets) ++ get_or sets i []) < 2 ^ 32
row_more_short most sets i h few low each =
    let whole : length (in_a_row sets) ≤ length sets * most = row_short most sets each in
    let bound : length sets * most ≤ 4096 * 16 = mul-le-mul few low in
    let part : length (in_a_row (take (i + 1) sets)) ≤ length (in_a_row sets) = front_short (i + 1) sets in
    let same : length (in_a_row (take (i + 1) sets)) ≡ length (in_a_row (take i sets) ++ get_or sets i []) = ap length (row_more sets i h) in
    omega (arith, whole, bound, part, same)

-- a shape's sets are few
pub sets_few : (g : Shape) → IsShape g → sets_of g ≤ 4096
sets_few g shape = pow-le-pow_right {n = 2} (omega arith) shape.sets

pub counts_short : (g : Shape) (counts : List ℕ) (i : ℕ) → IsShape g → length counts ≡ sets_of g → i < length counts
    → ((k : ℕ) → get_or counts k 0 < 2 ^ 8) → sum (take i counts) + get_or counts i 0 < 2 ^ 32
counts_short g counts i shape long h each =
    let part : sum (take i counts) + get_or counts i 0 ≤ sum counts = sum_by_more_le (λ x. x) counts i 0 h in
    let whole : sum counts ≤ length counts * 255 =
    sum_by-le (λ x. x) 255 counts (All-from_get_or (λ x. x ≤ 255) counts 0 (λ k below. let e : get_or counts k 0 < 2 ^ 8 = each k in omega (arith, e))) in
    let few : length counts ≤ 4096 = omega (arith, long, sets_few g shape) in
    let within : 255 ≤ 255 = omega arith in
    let bound : length counts * 255 ≤ 4096 * 255 = mul-le-mul few within in
    omega (arith, part, whole, bound)

-- one more set behind others
module _ (sets : List (List Entry)) (es : List Entry) (starts : List ℕ) (row : List Entry)
    (at : starts ≡ starts_from 0 (map length sets)) (is : row ≡ in_a_row sets) where
  pub starts_pushed : starts ++ length (row ++ es) ∷ [] ≡ starts_from 0 (map length (sets ++ es ∷ []))
  starts_pushed =
      let more : map length (sets ++ es ∷ []) ≡ map length sets ++ length es ∷ [] = map-append length sets (es ∷ []) in
      let long : length (row ++ es) ≡ (0 + sum (map length sets)) + length es =
      omega (arith, length-append row es, ap length is, row_length sets) in
      rw (more, starts_push 0 (length es) (map length sets), long, at) refl

  pub row_pushed : row ++ es ≡ in_a_row (sets ++ es ∷ [])
  row_pushed = ap (λ (l : List Entry). l ++ es) is ∙ sym (row_push sets es)

  pub parts_pushed : parts (starts ++ length (row ++ es) ∷ []) (row ++ es) ≡ sets ++ es ∷ []
  parts_pushed = sets_parts (sets ++ es ∷ []) (starts ++ length (row ++ es) ∷ []) (row ++ es) starts_pushed row_pushed
