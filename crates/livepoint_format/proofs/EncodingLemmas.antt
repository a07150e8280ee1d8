-- Fronts of a text behind what a buffer held.
use Rattle.std.proofs.Common.{◌≡◌, ℕ, suc, ◌%◌, ◌<◌, ◌≤◌, Ok, List, [], ◌∷◌, ◌++◌, length, get_or, refl, sym, ap, ◌∙◌, append-nil, append_assoc, arith}
use Rattle.std.specs.Prelude.{flat_map}
use Rattle.std.proofs.lemmas.List.{take_all}
use Rattle.livepoint_format.specs.Values.{Whole}
use Rattle.livepoint_format.specs.Format.{byte, word, end_word, header, point, is_first, spelling, IsWhole}
use Rattle.livepoint_format.specs.Decoding.{library_of}
use Rattle.livepoint_format.specs.Encoding.{Cut}
use Rattle.livepoint_format.proofs.LibraryLaws.{read_again}

pub cut_none : (old new text : List ℕ) → new ≡ old → Cut old new text
cut_none old new text same = record { count = 0; is = same ∙ sym (append-nil old) }

pub cut_all : (old new text : List ℕ) → new ≡ old ++ text → Cut old new text
cut_all old new text same = record { count = length text; is = same ∙ ap (λ (l : List ℕ). old ++ l) (sym (take_all (length text) text (omega arith))) }

-- the bytes of a library that isn't too long are read as it
pub read_of_bytes : (bytes : List ℕ) (l : Whole) → IsWhole l → bytes ≡ spelling l → length bytes ≤ 1073741824 → library_of bytes ≡ Ok l
read_of_bytes bytes l whole same short =
    ap library_of same ∙ read_again l (record { whole = whole; short = rw same at short })

-- a library's bytes are those in front of its end, and the end
pub ended_parts :
    (l : Whole) (parts bytes : List ℕ) → parts ≡ header l.head l.shared ++ flat_map (point (is_first l.head) l.shared) l.points
    → bytes ≡ parts ++ word end_word → bytes ≡ spelling l
unfolding spelling
ended_parts l parts bytes are is =
    is ∙ ap (λ (front : List ℕ). front ++ word end_word) are
    ∙ append_assoc (header l.head l.shared) (flat_map (point (is_first l.head) l.shared) l.points) (word end_word)

-- numbers below 256 are spelled by themselves
pub bytes_are : (ns : List ℕ) → ((i : ℕ) → get_or ns i 0 < 256) → flat_map byte ns ≡ ns
unfolding byte
bytes_are [] each = refl
bytes_are (n ∷ ns) each =
    let same : n % 256 ≡ n = omega (arith, each 0) in
    rw same (ap (λ (l : List ℕ). n ∷ l) (bytes_are ns (λ i. each (suc i))))
