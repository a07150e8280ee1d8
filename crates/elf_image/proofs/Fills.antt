-- Memory that is filled segment by segment.
use Rattle.std.proofs.Common.{◌≡◌, ℕ, ◌+◌, ◌-◌, ◌<◌, ◌≤◌, Bool, true, false, List, [], ◌∷◌, ◌++◌, Option, Some, None, length, get_or, take, refl, arith, inl, inr, ◌∙◌, if◌then◌else◌, suc, find, ap, sym}
use Rattle.std.specs.List.{list_any}
use Rattle.std.specs.Option.{option_or}
use borrow.Rule.Slice.PartMut.{put_mid}
use Rattle.std.proofs.lemmas.Bool.{cases_lt, cases_Bool, both_ways, false_from_ne_true}
use Rattle.std.proofs.lemmas.Bool.Decides.{nat_tests}
use Rattle.std.proofs.lemmas.List.{places, take_more, get_or-take, length-take-le}
use Rattle.std.proofs.lemmas.List.Folds.{find-append}
use Rattle.elf_image.specs.declared.program_header.ProgramHeader.{ProgramHeader}
use Rattle.elf_image.specs.Segments.{fills, holds, is_misplaced, overlap, shares_address}
use Rattle.elf_image.specs.Image.{byte_at, byte_of}
use Rattle.elf_image.proofs.Overlaps.{apart_from, shares_from, none_at}
use Rattle.elf_image.proofs.Spans.{placed_size}

-- a byte of memory after a write of as many bytes from a place on
inside :
    (memory chunk : List ℕ) (place count k : ℕ) → place + count ≤ length memory
    → length chunk ≡ count → place ≤ k → k < place + count
    → get_or (put_mid place count memory chunk) k 0 ≡ get_or chunk (k - place) 0
inside memory chunk place count k room len low high = grind (arith, places)

below :
    (memory chunk : List ℕ) (place count k : ℕ) → place + count ≤ length memory
    → length chunk ≡ count → k < place → get_or (put_mid place count memory chunk) k 0 ≡ get_or memory k 0
below memory chunk place count k room len low = grind (arith, places)

above :
    (memory chunk : List ℕ) (place count k : ℕ) → place + count ≤ length memory
    → length chunk ≡ count → place + count ≤ k → get_or (put_mid place count memory chunk) k 0 ≡ get_or memory k 0
above memory chunk place count k room len high = grind (arith, places)

-- what one segment fills
pub filled :
    (memory chunk file : List ℕ) (low place count k : ℕ) (s : ProgramHeader)
    → place + count ≤ length memory → length chunk ≡ count
    → ((i : ℕ) → i < count → get_or chunk i 0 ≡ get_or file (s.offset + i) 0)
    → low + place ≡ s.address → count ≡ s.file_size
    → get_or (put_mid place count memory chunk) k 0
    ≡ (if fills s (low + k) then get_or file (s.offset + (low + k - s.address)) 0 else get_or memory k 0)
filled memory chunk file low place count k s room len is at size =
    elim (cases_lt k place) [
      | inl lt ↦
          let out : fills s (low + k) ≡ false = grind (arith, nat_tests) in
          rw out (below memory chunk place count k room len lt)
      | inr ge ↦ elim (cases_lt k (place + count)) [
        | inl lt ↦
            let within : fills s (low + k) ≡ true = grind (arith, nat_tests) in
            let same : k - place ≡ low + k - s.address = omega arith in
            rw within (inside memory chunk place count k room len ge lt
            ∙ (is (k - place) (omega arith) ∙ ap (λ (n : ℕ). get_or file (s.offset + n) 0) same))
        | inr past ↦
            let out : fills s (low + k) ≡ false = grind (arith, nat_tests) in
            rw out (above memory chunk place count k room len past)
      ]
    ]

option_or_none : {X : Type 0} (first : Option X) → option_or first None ≡ first
option_or_none None = refl
option_or_none (Some x) = refl

-- a byte that the segments so far, and one more, give
byte_old :
    (file : List ℕ) (done : List ProgramHeader) (s : ProgramHeader) (addr : ℕ)
    → fills s addr ≡ false → byte_at file (done ++ s ∷ []) addr ≡ byte_at file done addr
unfolding byte_at
byte_old file done s addr out =
    let last : find (λ r. fills r addr) (s ∷ []) ≡ None = rw out refl in
    ap (λ (found : Option ProgramHeader). byte_of file found addr)
    (find-append (λ r. fills r addr) done (s ∷ []) ∙ rw last (option_or_none _))

byte_new :
    (file : List ℕ) (done : List ProgramHeader) (s : ProgramHeader) (addr : ℕ)
    → fills s addr ≡ true → find (λ r. fills r addr) done ≡ None
    → byte_at file (done ++ s ∷ []) addr ≡ get_or file (s.offset + (addr - s.address)) 0
unfolding byte_at
byte_new file done s addr within none =
    let last : find (λ r. fills r addr) (s ∷ []) ≡ Some s = rw within refl in
    let found : find (λ r. fills r addr) (done ++ s ∷ []) ≡ Some s =
    find-append (λ r. fills r addr) done (s ∷ []) ∙ rw (none, last) refl in
    ap (λ (o : Option ProgramHeader). byte_of file o addr) found

find_none :
    (p : ProgramHeader → Bool) (xs : List ProgramHeader) (d : ProgramHeader)
    → ((k : ℕ) → k < length xs → p (get_or xs k d) ≡ false) → find p xs ≡ None
find_none p [] d none = refl
find_none p (x ∷ xs) d none =
    rw (none 0 (omega arith)) (find_none p xs d (λ k h. none (suc k) (omega arith)))

fills_holds :
    (s : ProgramHeader) (addr : ℕ) → s.file_size ≤ s.memory_size → fills s addr ≡ true → holds s addr ≡ true
fills_holds s addr size within = grind (arith, nat_tests)

-- segments that are apart from one fill no address that it fills
none_before :
    (segments : List ProgramHeader) (i : ℕ) (d : ProgramHeader) (addr : ℕ) → i < length segments
    → list_any is_misplaced segments ≡ false → overlap segments ≡ false
    → fills (get_or segments i d) addr ≡ true → find (λ r. fills r addr) (take i segments) ≡ None
none_before segments i d addr h placed apart within =
    let len : length (take i segments) ≡ i = length-take-le i segments (omega arith) in
    let other : ProgramHeader = get_or segments i d in
    let sizes : (j : ℕ) → j < length segments
    → (get_or segments j d).file_size ≤ (get_or segments j d).memory_size
    = λ j b. placed_size (get_or segments j d) (none_at is_misplaced segments j d placed b) in
    find_none (λ r. fills r addr) (take i segments) d
    (λ k b. let below : k < i = omega (arith, len) in
    rw (get_or-take i segments k d below)
    (false_from_ne_true (fills (get_or segments k d) addr)
    (λ one. both_ways (shares_address (get_or segments k d) other)
    ((apart_from segments apart).pairs k i d (omega arith) h (λ e. omega arith))
    (shares_from (get_or segments k d) other addr
    (fills_holds (get_or segments k d) addr (sizes k (omega arith)) one)
    (fills_holds other addr (sizes i h) within)))))

-- one more segment of all
pub filled_more :
    (file memory old : List ℕ) (segments : List ProgramHeader) (i low k : ℕ) (d : ProgramHeader)
    → i < length segments → list_any is_misplaced segments ≡ false → overlap segments ≡ false
    → get_or old k 0 ≡ byte_at file (take i segments) (low + k)
    → get_or memory k 0
    ≡ (if fills (get_or segments i d) (low + k)
    then get_or file ((get_or segments i d).offset + (low + k - (get_or segments i d).address)) 0
    else get_or old k 0)
    → get_or memory k 0 ≡ byte_at file (take (i + 1) segments) (low + k)
filled_more file memory old segments i low k d h placed apart before now =
    let s : ProgramHeader = get_or segments i d in
    elim (cases_Bool (fills s (low + k))) [
      | inl within ↦
          let now_is : get_or memory k 0 ≡ get_or file (s.offset + (low + k - s.address)) 0 =
          rw within at now in
          rw (take_more segments i d h)
          (now_is
          ∙ sym (byte_new file (take i segments) s (low + k) within
          (none_before segments i d (low + k) h placed apart within)))
      | inr out ↦
          let now_is : get_or memory k 0 ≡ get_or old k 0 = rw out at now in
          rw (take_more segments i d h)
          (now_is ∙ before ∙ sym (byte_old file (take i segments) s (low + k) out))
    ]
