-- Bytes read as words.
use Rattle.std.proofs.Common.{◌≡◌, ℕ, ◌+◌, ◌-◌, ◌*◌, ◌/◌, ◌%◌, ◌<◌, ◌≤◌, Some, List, length, map, get_or, drop, arith, refl, ◌∙◌, sym, ap, eq-eqb}
use Rattle.std.specs.List.{range_with_len}
use Rattle.std.proofs.lemmas.Bool.{le-leb, lt-ltb}
use Rattle.std.proofs.lemmas.List.{get_or-drop, same_lists}
use Rattle.std.proofs.lemmas.List.FromFn.{length-map-range_with_len, get_or-map-range_with_len}
use Rattle.elf_image.specs.Fields.{word_at}
use Rattle.elf_image.specs.Image.{ImageValue, IsImage, word_in, word_from, words_from}
use Rattle.elf_image.specs.View.{words_in}

pub words_len : (bytes : List ℕ) → length (words_in bytes) ≡ length bytes / 4
words_len bytes = length-map-range_with_len (λ k. word_at bytes (4 * k)) 0 (length bytes / 4)

word_read :
    (bytes : List ℕ) (place : ℕ) → place % 4 ≡ 0 → place / 4 < length bytes / 4
    → get_or (words_in bytes) (place / 4) 0 ≡ word_at bytes place
word_read bytes place even within =
    let whole : 4 * (place / 4) ≡ place = omega arith in
    get_or-map-range_with_len (λ k. word_at bytes (4 * k)) 0 (length bytes / 4) (place / 4) (place / 4) 0
    within (omega arith)
    ∙ ap (λ (n : ℕ). word_at bytes n) whole

-- the bytes of an image's words reach up to the heap
pub reaches :
    (image : ImageValue) (bytes : List ℕ) (addr : ℕ) → image.words ≡ words_in bytes → IsImage image
    → addr % 4 ≡ 0 → image.low ≤ addr → addr < image.heap_low
    → addr - image.low + 4 ≤ length bytes
reaches image bytes addr same is even low high =
    let many : length image.words ≡ length bytes / 4 = ap length same ∙ words_len bytes in omega arith

pub word_in_is :
    (image : ImageValue) (bytes : List ℕ) (addr : ℕ) → image.words ≡ words_in bytes → IsImage image
    → addr % 4 ≡ 0 → image.low ≤ addr → addr < image.heap_low
    → word_in image addr ≡ Some (word_at bytes (addr - image.low))
word_in_is image bytes addr same is even low high =
    let enough : addr - image.low + 4 ≤ length bytes = reaches image bytes addr same is even low high in
    rw (eq-eqb (addr % 4) 0 even, le-leb image.low addr low, lt-ltb addr image.heap_low high, same)
    (ap (λ (w : ℕ). Some w) (word_read bytes (addr - image.low) (omega arith) (omega arith)))

-- four bytes that are those of a function of the address spell its word
word_same :
    (bytes : List ℕ) (byte : ℕ → ℕ) (low place : ℕ)
    → ((k : ℕ) → k < length bytes → get_or bytes k 0 ≡ byte (low + k)) → place + 4 ≤ length bytes
    → word_at bytes place ≡ word_from byte (low + place)
word_same bytes byte low place same within =
    let addr : ℕ = low + place in
    let at : (i j : ℕ) → i < 4 → addr + i ≡ j → get_or (drop place bytes) i 0 ≡ byte j
    = λ i j h e. get_or-drop place bytes i 0 ∙ same (place + i) (omega arith)
    ∙ ap (λ (n : ℕ). byte n) (let sum : low + (place + i) ≡ j = omega arith in sum) in
    rw (
      at 0 addr (omega arith) (omega arith),
      at 1 (addr + 1) (omega arith) (omega arith),
      at 2 (addr + 1 + 1) (omega arith) (omega arith),
      at 3 (addr + 1 + 1 + 1) (omega arith) (omega arith),
    ) refl

-- bytes that are those of a function of the address spell its words
pub words_same :
    (bytes : List ℕ) (byte : ℕ → ℕ) (low high : ℕ) → length bytes ≡ high - low
    → ((k : ℕ) → k < length bytes → get_or bytes k 0 ≡ byte (low + k))
    → words_in bytes ≡ words_from byte low high
words_same bytes byte low high len same =
    let count : ℕ = (high - low) / 4 in
    let ours : ℕ → ℕ = λ k. word_at bytes (4 * k) in
    let theirs : ℕ → ℕ = λ k. word_from byte (low + 4 * k) in
    let many : length (map ours (range_with_len 0 count)) ≡ count = length-map-range_with_len ours 0 count in
    rw len
    (same_lists (map ours (range_with_len 0 count)) (map theirs (range_with_len 0 count))
    (many ∙ sym (length-map-range_with_len theirs 0 count))
    (λ k d h. let within : k < count = omega (arith, many) in
    get_or-map-range_with_len ours 0 count k k d within (omega arith)
    ∙ word_same bytes byte low (4 * k) same (omega arith)
    ∙ sym (get_or-map-range_with_len theirs 0 count k k d within (omega arith))))
