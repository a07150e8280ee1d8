-- What ties the bytes of libraries, the values that they tell and the reading from left to right.
use Rattle.std.specs.Prelude.{◌≡◌, ◌↔◌, ℕ, ◌<◌, true, Ok, Err, List, [], length, take, slice_index}
use Rattle.live_words.specs.Follow.{Follow}
use Rattle.live_words.specs.Words.{IsPair, AreWords}
use Rattle.smarts_base.specs.declared.refusal.Refusal.{Refusal}
use Rattle.smarts_base.specs.declared.refusal.Refusal.TheVariants.{Fault, NoMemory}
use Rattle.livepoint_format.specs.declared.fault.LibraryFault.{LibraryFault}
use Rattle.livepoint_format.specs.declared.fault.LibraryFault.TheVariants as faults
use Rattle.livepoint_format.specs.Values.{Head, Whole}
use Rattle.livepoint_format.specs.Shared.{Parts, parts_of, words_of, are_apart}
use Rattle.livepoint_format.specs.Format.{spelling, AreParts, IsLibrary}
use Rattle.live_points.specs.Sharing.{ranks}
use Rattle.livepoint_format.specs.Decoding.{header_at, point_at, end_at, library_of}
use Rattle.livepoint_format.specs.Growing.{Grows}

abbrev pub AreBytes : List ℕ → Type 0
AreBytes bytes = (i : ℕ) → slice_index bytes i < 256

-- bytes are read as a library exactly where they are its spelling
abbrev pub ReadsSpellings : Type 0
ReadsSpellings =
    (bytes : List ℕ) (l : Whole) → AreBytes bytes
    → (library_of bytes ≡ Ok l) ↔ (IsLibrary l × (bytes ≡ spelling l))

-- after this refusal, a fault, no library has this spelling
abbrev pub IsNoLibrary : List ℕ → Refusal LibraryFault → Type 0
IsNoLibrary bytes (Fault fault) = (l : Whole) → IsLibrary l → bytes ≡ spelling l → ⊥
IsNoLibrary bytes NoMemory = Unit {0}

-- two libraries of one spelling are one
abbrev pub SpellsOne : Type 0
SpellsOne = (l other : Whole) → IsLibrary l → IsLibrary other → spelling l ≡ spelling other → l ≡ other

-- each front of a library is Truncated at its end
abbrev pub FrontsAreTruncated : Type 0
FrontsAreTruncated =
    (l : Whole) (n : ℕ) → IsLibrary l → n < length (spelling l)
    → library_of (take n (spelling l)) ≡ Err (faults.Truncated n)

-- a header, a point and the end stay, and their faults, whatever comes behind
pub record PartsStay : Type 0 where
  pub header : Grows header_at
  pub point : (h : Head) (shared : List (ℕ × ℕ)) (number wanted : ℕ) → Grows (point_at h shared number wanted)
  pub end : Grows end_at

-- words become own pairs and runs, and these become the words
pub record WordsGoBack : Type 0 where
  pub words : (shared ws : List (ℕ × ℕ)) → Follow (IsPair ranks) [] shared → AreWords ws
      → words_of shared (parts_of shared ws) ≡ ws
  pub parts : (most : ℕ) (shared : List (ℕ × ℕ)) (p : Parts) → Follow (IsPair ranks) [] shared → AreParts most shared p
      → parts_of shared (words_of shared p) ≡ p
  pub found : (most : ℕ) (shared : List (ℕ × ℕ)) (p : Parts) → Follow (IsPair ranks) [] shared → AreParts most shared p
      → are_apart (words_of shared p) ≡ true → AreWords (words_of shared p)

-- a library's bytes are read as it, and the library that bytes are read as has them for its spelling
pub record BytesGoBack : Type 0 where
  pub library : (l : Whole) → IsLibrary l → library_of (spelling l) ≡ Ok l
  pub bytes : (bytes : List ℕ) (l : Whole) → AreBytes bytes → library_of bytes ≡ Ok l → spelling l ≡ bytes
