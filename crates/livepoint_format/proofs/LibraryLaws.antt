-- Whole libraries: bytes are read as one exactly where they are its spelling.
use Rattle.std.proofs.Common.{◌≡◌, ◌↔◌, ℕ, ◌+◌, ◌*◌, ◌^◌, ◌<◌, ◌≤◌, Bool, true, false, eqb, ltb, cond, Result, Ok, Err, List, [], ◌∷◌, ◌++◌, length, take, drop, refl, sym, ap, ◌∙◌, arith, eq-eqb, eqb-true, le-ltb, ltb-false, append-nil, length-append, take-append-drop, length-take-le, length-drop}
use Rattle.std.specs.Prelude.{flat_map}
use Rattle.std.specs.Int.{w32}
use Rattle.live_words.specs.Follow.{Follow}
use Rattle.livepoint_format.specs.declared.fault.LibraryFault.{LibraryFault}
use Rattle.livepoint_format.specs.declared.fault.LibraryFault.TheVariants as faults
use Rattle.livepoint_format.specs.Reading.{Spot, starts_at}
use Rattle.livepoint_format.specs.Values.{Head, Point, Whole}
use Rattle.livepoint_format.specs.Format.{word, pair, end_word, head, table, header, point, spelling, is_first, unit_of, IsHeader, IsTable, AreShared, IsPoint, IsLibrary}
use Rattle.livepoint_format.specs.Decoding.{field, point_after, whole_at, ended, library_of}
use Rattle.livepoint_format.specs.Growing.{longer, Stays}
use Rattle.livepoint_format.specs.Laws.{AreBytes}
use Rattle.livepoint_format.proofs.Spells.{Took, Spells, built, built_by, built_last, finished, made, items_spell, wide32}
use Rattle.livepoint_format.proofs.HeaderLaws.{IsFront, header_spells, test_spells}
use Rattle.livepoint_format.proofs.PointLaws.{point_spells}
use Rattle.livepoint_format.proofs.Growth.{whole_grows}

-- a library whose table the bytes have room for
pub record IsReadable (l : Whole) : Type 0 where
  pub front : IsFront (l.head, l.shared)
  pub count : length l.points ≡ l.head.points
  pub points : Follow (λ before. IsPoint l.head (unit_of l.head (length before))) [] l.points

pub points_spell : (h : Head) (shared : List (ℕ × ℕ)) → IsHeader h → AreShared (is_first h) shared → (before : List Point)
    → Spells (point_after h shared before) (point (is_first h) shared) (IsPoint h (unit_of h (length before)))
points_spell h shared is are before = point_spells h is shared are (length before) (unit_of h (length before))

end_spells : Spells (field w32 (λ n. eqb n end_word)) word (λ n. (n < 2 ^ 32) × (eqb n end_word ≡ true))
unfolding word
end_spells = test_spells w32 (2 ^ 32) wide32 (λ n. eqb n end_word)

pub whole_spells : Spells whole_at spelling IsReadable
unfolding whole_at spelling
whole_spells = finished
    (built_by (λ (l : Whole). (l.head, l.shared)) header_spells (λ x y i g. refl) λ front front_in.
    built (λ (l : Whole). l.points) (items_spell (points_spell front.0 front.1 front_in.header front_in.shared) front.0.points) (λ x y i g. refl) λ points _.
    built_last (λ (l : Whole). end_word) end_spells (λ x y i g. sym (eqb-true _ _ i.1)) λ end _.
    made (record { head = front.0; shared = front.1; points = points }))
    (λ l (f, (p, end)) same. record { front = f; count = p.0; points = p.1 })
    (λ l i. ((i.front, ((i.count, i.points), ((omega arith, eq-eqb end_word end_word refl), tt))), refl))

-- ---- the table

pub pairs_long : (ps : List (ℕ × ℕ)) → length (flat_map pair ps) ≡ 8 * length ps
unfolding pair word
pairs_long [] = refl
pairs_long (p ∷ ps) = omega (arith, pairs_long ps)

table_short : (first : Bool) (shared : List (ℕ × ℕ)) → IsTable first shared → length (table first shared) ≤ 1073741824 → AreShared first shared
unfolding table word
table_short true shared is short = is
table_short false shared is short = (omega (arith, pairs_long shared), is)

header_long : (h : Head) (shared : List (ℕ × ℕ)) → length (table (is_first h) shared) ≤ length (header h shared)
unfolding header
header_long h shared = omega (arith, length-append (head h) (table (is_first h) shared))

spelling_long : (l : Whole) → length (header l.head l.shared) ≤ length (spelling l)
unfolding spelling
spelling_long l =
    omega (arith, length-append (header l.head l.shared) (flat_map (point (is_first l.head) l.shared) l.points ++ word end_word))

pub readable : (l : Whole) → IsLibrary l → IsReadable l
readable l i = record {
  front = record {
    header = i.whole.header;
    shared = table_short (is_first l.head) l.shared i.whole.table
        (omega (arith, header_long l.head l.shared, spelling_long l, i.short));
  };
  count = i.whole.count;
  points = i.whole.points;
}

pub table_of_shared : (first : Bool) (shared : List (ℕ × ℕ)) → AreShared first shared → IsTable first shared
table_of_shared true shared are = are
table_of_shared false shared are = are.1

-- ---- whole libraries

record IsRead (bytes : List ℕ) (l : Whole) : Type 0 where
  after : Spot
  read : whole_at (starts_at 0 bytes) ≡ Ok (l, after)
  end : after.rest ≡ []

nil_of_long : (xs : List ℕ) → length xs ≡ 0 → xs ≡ []
nil_of_long [] e = refl
nil_of_long (x ∷ xs) e = absurd (omega arith)

ended_is : (bytes : List ℕ) (l : Whole) (r : Result (Whole × Spot) LibraryFault) → whole_at (starts_at 0 bytes) ≡ r → ended r ≡ Ok l → IsRead bytes l
ended_is bytes l (Ok x) is e = go (eqb (length x.1.rest) 0) refl e
  where
    go : (b : Bool) → eqb (length x.1.rest) 0 ≡ b
        → cond b (let r : Result Whole LibraryFault = Ok x.0 in r) (Err (faults.TrailingBytes x.1.place)) ≡ Ok l → IsRead bytes l
    go true test e =
        let same : x.0 ≡ l = cc in
        record { after = x.1; read = is ∙ ap (λ (w : Whole). let r : Result (Whole × Spot) LibraryFault = Ok (w, x.1) in r) same; end = nil_of_long x.1.rest (eqb-true _ _ test) }
    go false test e = absurd cc
ended_is bytes l (Err fault) is e = absurd cc

record IsShortAndRead (bytes : List ℕ) (l : Whole) : Type 0 where
  short : length bytes ≤ 1073741824
  read : IsRead bytes l

library_is : (bytes : List ℕ) (l : Whole) → library_of bytes ≡ Ok l → IsShortAndRead bytes l
unfolding library_of
library_is bytes l e = go (ltb 1073741824 (length bytes)) refl e
  where
    go : (b : Bool) → ltb 1073741824 (length bytes) ≡ b
        → cond b (Err (faults.TooLarge (length bytes))) (ended (whole_at (starts_at 0 bytes))) ≡ Ok l → IsShortAndRead bytes l
    go true test e = absurd cc
    go false test e = record { short = ltb-false _ _ test; read = ended_is bytes l (whole_at (starts_at 0 bytes)) refl e }

spelt : (bytes : List ℕ) (l : Whole) → AreBytes bytes → library_of bytes ≡ Ok l → IsLibrary l × (bytes ≡ spelling l)
spelt bytes l are e =
    let is : IsShortAndRead bytes l = library_is bytes l e in
    let took : Took spelling IsReadable (starts_at 0 bytes) l is.read.after =
    whole_spells.takes (starts_at 0 bytes) l is.read.after (record { each = are }) is.read.read in
    let text : bytes ≡ spelling l = took.text ∙ ap (λ (rest : List ℕ). spelling l ++ rest) is.read.end ∙ append-nil (spelling l) in (
      record {
        whole = record {
          header = took.is_in.front.header;
          table = table_of_shared (is_first l.head) l.shared took.is_in.front.shared;
          count = took.is_in.count;
          points = took.is_in.points;
        };
        short = rw (← text) is.short;
      },
      text,
    )

read_whole : (l : Whole) → IsLibrary l → whole_at (starts_at 0 (spelling l)) ≡ Ok (l, record { place = 0 + length (spelling l); rest = [] })
read_whole l i =
    ap (λ (text : List ℕ). whole_at (starts_at 0 text)) (sym (append-nil (spelling l)))
    ∙ whole_spells.again l 0 [] (readable l i)

pub read_again : (l : Whole) → IsLibrary l → library_of (spelling l) ≡ Ok l
unfolding library_of
read_again l i = rw (le-ltb 1073741824 (length (spelling l)) i.short, read_whole l i) refl

pub reads_spellings : (bytes : List ℕ) (l : Whole) → AreBytes bytes → (library_of bytes ≡ Ok l) ↔ (IsLibrary l × (bytes ≡ spelling l))
reads_spellings bytes l are = (spelt bytes l are, λ i. ap library_of i.1 ∙ read_again l i.0)

pub spells_one : (l other : Whole) → IsLibrary l → IsLibrary other → spelling l ≡ spelling other → l ≡ other
spells_one l other i j same =
    let one : (let r : Result Whole LibraryFault = Ok l in r) ≡ Ok other = sym (read_again l i) ∙ ap library_of same ∙ read_again other j in
    cc

-- ---- fronts

front_truncated : (l : Whole) (n : ℕ) (r : Result (Whole × Spot) LibraryFault) (whole : Result (Whole × Spot) LibraryFault)
    → n < length (spelling l) → whole ≡ Ok (l, record { place = 0 + length (spelling l); rest = [] })
    → length (take n (spelling l)) ≡ n
    → Stays (drop n (spelling l)) (starts_at 0 (take n (spelling l))) r whole → ended r ≡ Err (faults.Truncated n)
front_truncated l n (Ok x) whole h is long stays =
    let same : (let r : Result (Whole × Spot) LibraryFault = Ok (l, record { place = 0 + length (spelling l); rest = [] }) in r) ≡ Ok (x.0, longer x.1 (drop n (spelling l))) =
    sym is ∙ stays in
    let rest : [] ≡ x.1.rest ++ drop n (spelling l) = rest_of l (record { place = 0 + length (spelling l); rest = [] }) x.0 (longer x.1 (drop n (spelling l))) same in
    absurd (omega (arith, ap length rest, length-append x.1.rest (drop n (spelling l)), length-drop n (spelling l)))
  where
    rest_of : (a : Whole) (s : Spot) (b : Whole) (t : Spot) → (let r : Result (Whole × Spot) LibraryFault = Ok (a, s) in r) ≡ Ok (b, t) → s.rest ≡ t.rest
    rest_of a s b t e =
        let pair : Whole × Spot = (a, s) in
        let same : pair ≡ (b, t) = cc in
        ap (λ (p : Whole × Spot). p.1.rest) same
front_truncated l n (Err (faults.Truncated end)) whole h is long stays =
    let same : end ≡ n = omega (arith, stays, long) in
    ap (λ (m : ℕ). let r : Result Whole LibraryFault = Err (faults.Truncated m) in r) same
front_truncated l n (Err fault) whole h is long stays =
    absurd (let e = sym is ∙ stays in cc)

pub fronts_truncated : (l : Whole) (n : ℕ) → IsLibrary l → n < length (spelling l)
    → library_of (take n (spelling l)) ≡ Err (faults.Truncated n)
unfolding library_of
fronts_truncated l n i h =
    let text : List ℕ = spelling l in
    let long : length (take n (spelling l)) ≡ n = length-take-le n (spelling l) (omega arith) in
    let short : length (take n (spelling l)) ≤ 1073741824 = omega (arith, long, i.short) in
    let whole : whole_at (longer (starts_at 0 (take n (spelling l))) (drop n (spelling l))) ≡ Ok (l, record { place = 0 + length (spelling l); rest = [] }) =
    ap (λ (bytes : List ℕ). whole_at (starts_at 0 bytes)) (take-append-drop n (spelling l)) ∙ read_whole l i in
    rw (le-ltb 1073741824 (length (take n (spelling l))) short)
    (front_truncated l n (whole_at (starts_at 0 (take n (spelling l)))) (whole_at (longer (starts_at 0 (take n (spelling l))) (drop n (spelling l)))) h whole long
    (whole_grows.stays (starts_at 0 (take n (spelling l))) (drop n (spelling l))))
