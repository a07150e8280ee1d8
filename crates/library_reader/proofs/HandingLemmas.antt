-- How far a reader comes that hands out a part.
use Rattle.std.proofs.Common.{◌≡◌, ◌<◌, ◌≤◌, ◌+◌, ◌-◌, ◌^◌, ℕ, zero, suc, List, [], ◌∷◌, length, drop, true, Option, Some, None, Result, Ok, Err, refl, sym, ap, subst, ◌∙◌, arith, length-append, length-drop}
use Rattle.std.specs.Prelude.{◌==◌, IfOk, IfSome}
use Rattle.std.specs.Int.{w32}
use Rattle.std.proofs.lemmas.Bool.{le-ltb, lt-ltb}
use Rattle.std.proofs.lemmas.List.{drop_at}
use Rattle.livepoint_format.specs.declared.fault.LibraryFault.{LibraryFault}
use Rattle.livepoint_format.specs.Decoding.{header_at, point_at, end_at}
use Rattle.livepoint_format.specs.Format.{end_word, word, unit_of, is_first, IsHeader, IsPoint, AreShared}
use Rattle.livepoint_format.specs.Reading.{Reader, Spot, bytes_taken, handed_out, starts_at}
use Rattle.livepoint_format.specs.Reads.{IsBytes}
use Rattle.livepoint_format.specs.Values.{Point}
use Rattle.livepoint_format.proofs.HeaderLaws.{header_spells}
use Rattle.livepoint_format.proofs.PointLaws.{point_spells}
use Rattle.livepoint_format.proofs.Spells.{Spells, Took, judged_spells, number_spells, wide32}
use Rattle.smarts_base.specs.declared.refusal.Refusal.{Refusal}
use Rattle.smarts_base.specs.Outcome.{Answers}
use Rattle.library_reader.specs.declared.part.Part.TheVariants as parts
use Rattle.library_reader.specs.Reader.{Front, Reading, at_spot, due, handed, spot, with_end, with_header, with_point}

-- a value was read, of so many bytes
pub record Handed {A : Type 0} (read : Reader A) (at : Spot) (x : A) (count : ℕ) : Type 0 where
  pub after : Spot
  pub is : read at ≡ Ok (x, after)
  pub place : after.place ≡ at.place + count
  pub rest : after.rest ≡ drop count at.rest
  pub fits : count ≤ length at.rest

value_or : {A E : Type 0} → A → Result A E → A
value_or other (Ok x) = x
value_or other (Err fault) = other

taken_value : {A : Type 0} (base : ℕ) (y : A × Spot) (x : A) (count : ℕ) → bytes_taken base (Ok y) ≡ Ok (x, count) → y.0 ≡ x
unfolding value_or
taken_value {A} base y x count e = ap (λ (r : Result (A × ℕ) LibraryFault). (value_or (x, count) r).0) e

taken_count : {A : Type 0} (base : ℕ) (y : A × Spot) (x : A) (count : ℕ) → bytes_taken base (Ok y) ≡ Ok (x, count) → y.1.place - base ≡ count
unfolding value_or
taken_count {A} base y x count e = ap (λ (r : Result (A × ℕ) LibraryFault). (value_or (x, count) r).1) e

handed_by :
    {A : Type 0} {read : Reader A} {spelling : A → List ℕ} {IsIn : A → Type 0} → Spells read spelling IsIn
    → (at : Spot) (x : A) (count : ℕ) → IsBytes at.rest → (result : Result (A × Spot) LibraryFault) → read at ≡ result
    → bytes_taken at.place result ≡ Ok (x, count) → Handed read at x count
handed_by {A} {read} {spelling} {IsIn} spells at x count bytes (Ok y) is e =
    let same : y.0 ≡ x = taken_value at.place y x count e in
    let took : Took spelling IsIn at y.0 y.1 = spells.takes at y.0 y.1 bytes is in
    let size : length (spelling y.0) ≡ count = omega (arith, taken_count at.place y x count e, took.place) in
    let long : length at.rest ≡ length (spelling y.0) + length y.1.rest =
    ap length took.text ∙ length-append (spelling y.0) y.1.rest in
    record {
      after = y.1;
      is = is ∙ ap (λ (z : A). Ok (z, y.1)) same;
      place = omega (arith, took.place, size);
      rest = sym (ap (drop count) took.text ∙ drop_at (spelling y.0) y.1.rest count size);
      fits = omega (arith, long, size);
    }
handed_by spells at x count bytes (Err fault) is e = absurd cc

pub header_handed :
    (at : Spot) (x : Front) (count : ℕ) → IsBytes at.rest → handed_out at header_at ≡ Ok (x, count) → Handed header_at at x count
header_handed at x count bytes e = handed_by header_spells at x count bytes (header_at at) refl e

pub point_handed :
    (front : Front) (number wanted : ℕ) (at : Spot) (x : Point) (count : ℕ) → IsHeader front.0
    → AreShared (is_first front.0) front.1 → IsBytes at.rest
    → handed_out at (point_at front.0 front.1 number wanted) ≡ Ok (x, count)
    → Handed (point_at front.0 front.1 number wanted) at x count
point_handed front number wanted at x count is are bytes e =
    handed_by (point_spells front.0 is front.1 are number wanted) at x count bytes (point_at front.0 front.1 number wanted at) refl e

-- a point that was read may stand there
pub point_in :
    (front : Front) (number wanted : ℕ) (at : Spot) → IsHeader front.0 → AreShared (is_first front.0) front.1 → IsBytes at.rest
    → (result : Result (Point × ℕ) (Refusal LibraryFault))
    → Answers (λ (x : Point × ℕ). (x.0, x.1)) result (handed_out at (point_at front.0 front.1 number wanted))
    → IfOk result (λ x. IsPoint front.0 x.0.unit x.0)
point_in front number wanted at is are bytes (Ok x) e =
    let h = point_handed front number wanted at x.0 x.1 is are bytes e in
    let there = ((point_spells front.0 is front.1 are number wanted).takes at x.0 h.after bytes h.is).is_in in
    subst (λ (unit : ℕ). IsPoint front.0 unit x.0) (sym there.unit.0) there
point_in front number wanted at is are bytes (Err fault) e = tt

end_spells : Spells end_at word (λ n. (n < 2 ^ 32) × ((n == end_word) ≡ true))
unfolding word
end_spells = judged_spells (λ n. n == end_word) _ (number_spells w32 (2 ^ 32) wide32)

pub end_handed :
    (at : Spot) (x count : ℕ) → IsBytes at.rest → handed_out at end_at ≡ Ok (x, count) → Handed end_at at x count
end_handed at x count bytes e = handed_by end_spells at x count bytes (end_at at) refl e

-- ---- what is due

pub due_header : (r : Reading) → r.front ≡ None → due r ≡ handed (with_header r) (header_at (spot r))
due_header r none = rw none refl

pub due_point :
    (r : Reading) (front : Front) → r.front ≡ Some front → r.points < front.0.points
    → due r ≡ handed (with_point r) (point_at front.0 front.1 r.points (unit_of front.0 r.points) (spot r))
due_point r front some few = rw (some, lt-ltb r.points front.0.points few) refl

pub due_end :
    (r : Reading) (front : Front) → r.front ≡ Some front → front.0.points ≤ r.points
    → due r ≡ handed (with_end r) (end_at (spot r))
due_end r front some full = rw (some, le-ltb r.points front.0.points full) refl

-- so many bytes further
further :
    {A : Type 0} {read : Reader A} (r : Reading) (x : A) (count : ℕ) (h : Handed read (spot r) x count)
    → at_spot h.after r ≡ record r { unread = drop count r.unread; taken = r.taken + count }
further r x count h = λ i. record r { unread = h.rest i; taken = h.place i }

pub header_due :
    (r : Reading) (front : Front) (count : ℕ) → r.front ≡ None → Handed header_at (spot r) front count
    → due r ≡ Ok (parts.Header, record r { unread = drop count r.unread; taken = r.taken + count; front = Some front })
header_due r front count none h =
    due_header r none ∙ ap (handed (with_header r)) h.is
    ∙ ap (λ (s : Reading). Ok (parts.Header, record s { front = Some front })) (further r front count h)

pub point_due :
    (r : Reading) (front : Front) (point : Point) (count : ℕ) → r.front ≡ Some front → r.points < front.0.points
    → Handed (point_at front.0 front.1 r.points (unit_of front.0 r.points)) (spot r) point count
    → due r ≡ Ok (parts.Point point, record r { unread = drop count r.unread; taken = r.taken + count; points = suc r.points })
point_due r front point count some few h =
    due_point r front some few ∙ ap (handed (with_point r)) h.is
    ∙ ap (λ (s : Reading). Ok (parts.Point point, record s { points = suc r.points })) (further r point count h)

pub end_due :
    (f : Option Front) (r : Reading) (letters count : ℕ) → r.front ≡ f → (f ≡ None → ⊥)
    → IfSome f (λ front. front.0.points ≤ r.points) → Handed end_at (spot r) letters count
    → due r ≡ Ok (parts.End, record r { unread = drop count r.unread; taken = r.taken + count; ended = true })
end_due None r letters count is some all h = absurd (some refl)
end_due (Some front) r letters count is some all h =
    due_end r front is all ∙ ap (handed (with_end r)) h.is
    ∙ ap (λ (s : Reading). Ok (parts.End, record s { ended = true })) (further r letters count h)

-- ---- the bytes of a reader

pub drop_bytes : (count : ℕ) (bytes : List ℕ) → IsBytes bytes → IsBytes (drop count bytes)
drop_bytes zero bytes are = are
drop_bytes (suc count) [] are = are
drop_bytes (suc count) (b ∷ bytes) are = drop_bytes count bytes (record { each = λ i. are.each (suc i) })

pub start_within :
    (bytes : List ℕ) (start count : ℕ) → start ≤ length bytes → count ≤ length (drop start bytes)
    → start + count ≤ length bytes
start_within bytes start count within fits = omega (arith, fits, length-drop start bytes)

pub size_within :
    (bytes : List ℕ) (start taken count most : ℕ) → start ≤ length bytes → count ≤ length (drop start bytes)
    → taken + length (drop start bytes) ≤ most → (taken + count) + length (drop (start + count) bytes) ≤ most
size_within bytes start taken count most within fits size =
    omega (arith, fits, size, length-drop start bytes, length-drop (start + count) bytes)

-- ---- what was read of a reader's bytes

pub header_reads :
    (r now : Reading) (unread : List ℕ) (front : Front) (count : ℕ) → r ≡ now → unread ≡ now.unread → r.taken ≡ 0
    → IsBytes r.unread → handed_out (starts_at 0 unread) header_at ≡ Ok (front, count)
    → Handed header_at (spot r) front count
header_reads r now unread front count same is none bytes e =
    let there : unread ≡ r.unread = is ∙ ap (λ (s : Reading). s.unread) (sym same) in
    let at : starts_at 0 unread ≡ spot r = λ i. starts_at (sym none i) (there i) in
    header_handed (spot r) front count bytes (ap (λ (s : Spot). handed_out s header_at) (sym at) ∙ e)

pub point_reads :
    (r now : Reading) (unread : List ℕ) (front : Front) (point : Point) (count : ℕ) → r ≡ now → unread ≡ now.unread
    → IsHeader front.0 → AreShared (is_first front.0) front.1 → IsBytes r.unread
    → handed_out (starts_at r.taken unread) (point_at front.0 front.1 r.points (unit_of front.0 r.points)) ≡ Ok (point, count)
    → Handed (point_at front.0 front.1 r.points (unit_of front.0 r.points)) (spot r) point count
point_reads r now unread front point count same is header table bytes e =
    let there : unread ≡ r.unread = is ∙ ap (λ (s : Reading). s.unread) (sym same) in
    point_handed front r.points (unit_of front.0 r.points) (spot r) point count header table bytes
    (ap (λ (u : List ℕ). handed_out (starts_at r.taken u) (point_at front.0 front.1 r.points (unit_of front.0 r.points))) (sym there) ∙ e)

pub end_reads :
    (r now : Reading) (unread : List ℕ) (letters count : ℕ) → r ≡ now → unread ≡ now.unread → IsBytes r.unread
    → handed_out (starts_at r.taken unread) end_at ≡ Ok (letters, count) → Handed end_at (spot r) letters count
end_reads r now unread letters count same is bytes e =
    let there : unread ≡ r.unread = is ∙ ap (λ (s : Reading). s.unread) (sym same) in
    end_handed (spot r) letters count bytes (ap (λ (u : List ℕ). handed_out (starts_at r.taken u) end_at) (sym there) ∙ e)
