-- What memory holds when the generated program starts.
use Rattle.std.proofs.Common.{◌≡◌, ◌<◌, ◌≤◌, ◌+◌, ◌-◌, ◌*◌, ◌/◌, ◌%◌, ◌^◌, ℕ, List, ◌++◌, length, map, take, get_or, Some, refl, sym, ap, ◌∙◌, arith, eq-eqb}
use Rattle.std.specs.Int.{w32, to_le_bytes}
use Rattle.std.specs.List.{flat_map}
use Rattle.std.proofs.lemmas.List.{length-map}
use Rattle.std.proofs.lemmas.Bool.{le-leb, lt-ltb}
use Rattle.std.proofs.lemmas.List.{get_or-append-add, get_or-map, length-take-le}
use Rattle.std.proofs.lemmas.List.Concat.{get_or-flat_map}
use Rattle.std.proofs.lemmas.List.FromFn.{get_or-map-range_with_len}
use Rattle.std.proofs.lemmas.Nat.{from_le_bytes-to_le_bytes_4}
use Rattle.elf_image.specs.Image.{loaded, byte_at, word_from, word_in}
use Rattle.elf_image.specs.Segments.{segments_of}
use Rattle.elf_image.specs.Span.{lowest_address, highest_end, low_of, heap_low_of}
use Rattle.rv_isa.specs.declared.inst.Inst.{Inst}
use Rattle.rv_isa.specs.declared.inst.Inst.TheVariants.{Lui, Addi, Andi, Add, Xor, And, Mul, Lw, Sw, Beq, Bne, Ecall}
use Rattle.rv_isa.specs.Encoding.{word_of}
use Rattle.image_maker.specs.Image.{words, file_header, program_headers}
use Rattle.image_maker.specs.Program.{program}
use Rattle.image_maker.proofs.Headers.{with_headers, segments_are}
use Rattle.image_maker.proofs.Pieces.{length_by_fours, length_words, length_program}
use Rattle.image_maker.proofs.Positions.{used_at}
use Rattle.image_maker.proofs.Stands.{address_of}
use Rattle.image_maker.proofs.Steps.{IsUsed}

pub low_is : (code : List ℕ) → low_of (segments_of (with_headers code)) ≡ 0x00010000
unfolding lowest_address
low_is code = rw (segments_are code) refl

pub heap_low_is : (code : List ℕ) → heap_low_of (segments_of (with_headers code)) ≡ 0x00030000
unfolding highest_end
heap_low_is code = rw (segments_are code) refl

-- a word of the image of any file
word_loaded :
    (file : List ℕ) (low heap_low addr : ℕ)
    → low_of (segments_of file) ≡ low → heap_low_of (segments_of file) ≡ heap_low
    → low % 4 ≡ 0 → heap_low % 4 ≡ 0 → addr % 4 ≡ 0 → low ≤ addr → addr < heap_low
    → word_in (loaded file) addr ≡ Some (word_from (byte_at file (segments_of file)) addr)
unfolding loaded
word_loaded file low heap_low addr first past even whole aligned above below =
    let byte : ℕ → ℕ = byte_at file (segments_of file) in
    let from : ℕ = low_of (segments_of file) in
    let to : ℕ = heap_low_of (segments_of file) in
    let j : ℕ = (addr - from) / 4 in
    let within : j < (to - from) / 4 = omega arith in
    let place : from + 4 * j ≡ addr = omega arith in
    rw (
      eq-eqb (addr % 4) 0 aligned,
      le-leb from addr (omega arith),
      lt-ltb addr to (omega arith),
    )
    (ap (λ (w : ℕ). Some w)
    (get_or-map-range_with_len (λ k. word_from byte (from + 4 * k)) 0 ((to - from) / 4) j j 0 within (omega arith)
    ∙ ap (λ (a : ℕ). word_from byte a) place))

behind_headers : (code : List ℕ) (n : ℕ) → get_or (with_headers code) (116 + n) 0 ≡ get_or code n 0
unfolding file_header words
behind_headers code n = get_or-append-add (file_header ++ words program_headers) code n 0

-- a byte of the text
byte_is :
    (code : List ℕ) (addr n : ℕ)
    → addr ≡ 0x00010074 + n → n < 1064
    → byte_at (with_headers code) (segments_of (with_headers code)) addr ≡ get_or code n 0
unfolding byte_at
byte_is code addr n is below =
    let place : addr - 0x00010074 ≡ n = omega arith in
    rw (
      segments_are code,
      le-leb 0x00010074 addr (omega arith),
      lt-ltb addr 0x0001049C (omega arith),
      place,
    )
    (behind_headers code n)

byte_of_word :
    (ws : List ℕ) (k i : ℕ) → k < length ws → i < 4
    → get_or (words ws) (4 * k + i) 0 ≡ get_or (to_le_bytes w32 (get_or ws k 0)) i 0
unfolding words
byte_of_word ws k i below four =
    let front : length (flat_map (to_le_bytes w32) (take k ws)) ≡ 4 * k =
    length_by_fours (to_le_bytes w32) (λ _. refl) (take k ws)
    ∙ ap (λ n. 4 * n) (length-take-le k ws (omega arith)) in
    ap (λ n. get_or (flat_map (to_le_bytes w32) ws) (n + i) 0) (sym front)
    ∙ get_or-flat_map (to_le_bytes w32) ws k i 0 0 below four

spelled :
    (byte : ℕ → ℕ) (addr w : ℕ)
    → w < 2 ^ 32
    → ((i j : ℕ) → i < 4 → addr + i ≡ j → byte j ≡ get_or (to_le_bytes w32 w) i 0)
    → word_from byte addr ≡ w
spelled byte addr w fits at =
    rw (
      at 0 addr (omega arith) (omega arith),
      at 1 (addr + 1) (omega arith) (omega arith),
      at 2 (addr + 1 + 1) (omega arith) (omega arith),
      at 3 (addr + 1 + 1 + 1) (omega arith) (omega arith),
    )
    (from_le_bytes-to_le_bytes_4 w fits)

fits : (i : Inst) → IsUsed i → word_of i < 2 ^ 32
fits (Lui rd imm) h = omega arith
fits (Addi rd rs1 imm) h = omega arith
fits (Andi rd rs1 imm) h = omega arith
fits (Add rd rs1 rs2) h = omega arith
fits (Xor rd rs1 rs2) h = omega arith
fits (And rd rs1 rs2) h = omega arith
fits (Mul rd rs1 rs2) h = omega arith
fits (Lw rd rs1 imm) h = omega arith
fits (Sw rs1 rs2 imm) h = omega arith
fits (Beq rs1 rs2 imm) h = omega arith
fits (Bne rs1 rs2 imm) h = omega arith
fits Ecall h = omega arith
fits other h = absurd h

-- the bytes of the program
abbrev pub code_of : ℕ → ℕ → List ℕ
code_of size seed = words (map word_of (program size seed))

pub length_code : (size seed : ℕ) → length (code_of size seed) ≡ 1064
length_code size seed =
    length_words (map word_of (program size seed))
    ∙ ap (λ n. 4 * n) (length-map (program size seed) word_of ∙ length_program size seed)

pub word_at_start :
    (size seed k : ℕ) → size ≤ 1_000_000 → k < 266
    → word_in (loaded (with_headers (code_of size seed))) (address_of k)
    ≡ Some (word_of (get_or (program size seed) k Ecall))
word_at_start size seed k most below =
    let code : List ℕ = code_of size seed in
    let file : List ℕ = with_headers code in
    let ws : List ℕ = map word_of (program size seed) in
    let many : length ws ≡ 266 = length-map (program size seed) word_of ∙ length_program size seed in
    let i : Inst = get_or (program size seed) k Ecall in
    let same : get_or ws k 0 ≡ word_of i =
    get_or-map word_of (program size seed) k Ecall 0 (omega (arith, length_program size seed)) in
    word_loaded file 0x00010000 0x00030000 (address_of k) (low_is code) (heap_low_is code) refl refl
    (omega arith) (omega arith) (omega arith)
    ∙ ap (λ (w : ℕ). Some w)
    (spelled (byte_at file (segments_of file)) (address_of k) (word_of i) (fits i (used_at size seed k most below))
    (λ j addr four is.
    byte_is code addr (4 * k + j) (omega arith) (omega arith)
    ∙ byte_of_word ws k j (omega (arith, many)) four
    ∙ ap (λ (w : ℕ). get_or (to_le_bytes w32 w) j 0) same))
