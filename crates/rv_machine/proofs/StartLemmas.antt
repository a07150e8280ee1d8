-- The words that a program starts with.
use Rattle.std.proofs.Common.{◌≡◌, ◌<◌, ◌≤◌, ◌+◌, ◌-◌, ◌*◌, ◌/◌, ◌%◌, ◌^◌, ◌↔◌, ℕ, Bool, true, false, ◌++◌, length, Some, None, IsSome, refl, ap, ◌∙◌, arith, inl, inr, length-append}
use Rattle.std.specs.Prelude.{IfSome, slice_index, if◌then◌else◌}
use Rattle.std.proofs.lemmas.Bool.Decides.{nat_tests}
use Rattle.std.proofs.lemmas.List.{get_or_append_left}
use Rattle.std.proofs.lemmas.Option.{slice_get-get_or}
use Rattle.elf_image.specs.Image.{ImageValue, IsImage, is_word_address}
use Rattle.rv_exec.specs.Memory.{word_at}
use Rattle.rv_machine.specs.ProgramMemory.{AreBlocks, IsWordAddress}
use Rattle.rv_machine.specs.Laws.{StartWords}
use Rattle.rv_machine.specs.Start.{zeros, start_words, start_of}
use Rattle.rv_machine.proofs.WordAddressLemmas.{word_where, word_first, word_second}
use Rattle.rv_machine.proofs.BlockLemmas.{length_zeros, zero_read, zero_word}

start_blocks :
    (image : ImageValue) → IsImage image
    → AreBlocks image.low image.heap_low (image.words ++ zeros (2 ^ 24)) (zeros (2 ^ 18))
start_blocks image is =
    let words : length (image.words ++ zeros (2 ^ 24)) ≡ length image.words + 2 ^ 24 =
    length-append image.words (zeros (2 ^ 24))
    ∙ ap (λ n. length image.words + n) (length_zeros (2 ^ 24)) in
    record {
      aligned = omega (arith, is.low);
      highest = is.highest;
      words = omega (arith, is.words, is.above, is.below);
      size = omega (arith, is.words, is.span);
      stack = length_zeros (2 ^ 18);
    }

starts_mapped :
    (image : ImageValue) (addr : ℕ) → IsImage image
    → IsSome (word_at (start_of image).words addr) ↔ IsWordAddress image.low image.heap_low addr
unfolding start_of start_words
starts_mapped image addr is =
    word_where image.low image.heap_low addr _ _ (start_blocks image is)

-- a word of the image
starts_loaded :
    (image : ImageValue) (addr : ℕ) (test : Bool)
    → IsImage image → is_word_address image addr ≡ test
    → IfSome
    (if test then Some (slice_index image.words ((addr - image.low) / 4)) else None)
    (λ w. word_at (start_of image).words addr ≡ Some w)
unfolding start_of start_words
starts_loaded image addr true is test =
    let k : ℕ = (addr - image.low) / 4 in
    let aligned : addr % 4 ≡ 0 = grind (arith, nat_tests) in
    let above : image.low ≤ addr = grind (arith, nat_tests) in
    let below : addr < image.heap_low = grind (arith, nat_tests) in
    let place : addr ≡ image.low + 4 * k = omega (arith, is.low) in
    let within : k < length image.words = omega (arith, is.words) in
    let all : k < length (image.words ++ zeros (2 ^ 24)) =
    omega (arith, length-append image.words (zeros (2 ^ 24))) in
    word_first image.low image.heap_low addr k _ _ (start_blocks image is) place all
    ∙ slice_get-get_or (image.words ++ zeros (2 ^ 24)) k 0 all
    ∙ ap Some (get_or_append_left image.words (zeros (2 ^ 24)) 0 k within)
starts_loaded image addr false is test = tt

-- a word that isn't the image's
starts_zero :
    (image : ImageValue) (addr : ℕ)
    → IsImage image → IsWordAddress image.low image.heap_low addr
    → is_word_address image addr ≡ false → word_at (start_of image).words addr ≡ Some 0
unfolding start_of start_words
starts_zero image addr is (aligned, mapped) none =
    elim mapped [
      | inl (above, below) ↦
          let k : ℕ = (addr - image.low) / 4 in
          let past : image.heap_low ≤ addr = grind (arith, nat_tests) in
          let place : addr ≡ image.low + 4 * k = omega (arith, is.low) in
          let behind : length image.words ≤ k = omega (arith, is.words) in
          let within : k < length image.words + 2 ^ 24 =
          omega (arith, is.words, is.above, is.below) in
          let all : k < length (image.words ++ zeros (2 ^ 24)) =
          omega (arith, length-append image.words (zeros (2 ^ 24)), length_zeros (2 ^ 24)) in
          word_first image.low image.heap_low addr k _ _ (start_blocks image is) place all
          ∙ zero_word image.words k (2 ^ 24) behind within
      | inr (above, below) ↦
          let k : ℕ = (addr - 0x7FF00000) / 4 in
          let all : k < length (zeros (2 ^ 18)) = omega (arith, length_zeros (2 ^ 18)) in
          word_second image.low image.heap_low addr k _ _ (start_blocks image is) (omega arith) all
          ∙ slice_get-get_or (zeros (2 ^ 18)) k 0 all
          ∙ ap Some (zero_read (2 ^ 18) k (omega arith))
    ]

no_word_in :
    (image : ImageValue) (addr : ℕ) (test : Bool)
    → (if test then Some (slice_index image.words ((addr - image.low) / 4)) else None) ≡ None
    → test ≡ false
no_word_in image addr true none = absurd (cc)
no_word_in image addr false none = refl

pub starts_with : StartWords
starts_with image addr is = record {
  mapped = starts_mapped image addr is;
  loaded = starts_loaded image addr (is_word_address image addr) is refl;
  zero =
      λ address none.
      starts_zero image addr is address (no_word_in image addr (is_word_address image addr) none);
}
