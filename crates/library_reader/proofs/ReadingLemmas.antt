-- What a reading hands out is what reading all bytes at once gives.
use Rattle.std.proofs.Common.{◌≡◌, ◌<◌, ◌≤◌, ◌+◌, ◌-◌, ℕ, suc, List, [], ◌∷◌, ◌++◌, length, Bool, true, false, Option, Some, None, Result, Ok, Err, refl, sym, ap, subst, ◌∙◌, arith, append_assoc, append-nil, length-append}
use Rattle.std.proofs.lemmas.List.{length_push}
use Rattle.std.specs.Prelude.{◌==◌, nat_lt, if◌then◌else◌}
use Rattle.std.proofs.lemmas.Bool.{le-ltb, ltb-true, ltb-false, eqb-false, ne_eqb}
use Rattle.livepoint_format.specs.declared.fault.LibraryFault.{LibraryFault}
use Rattle.livepoint_format.specs.declared.fault.LibraryFault.TheVariants as faults
use Rattle.livepoint_format.specs.Decoding.{header_at, point_at, end_at, point_after, whole_at, ended, library_of}
use Rattle.livepoint_format.specs.Format.{unit_of}
use Rattle.livepoint_format.specs.Growing.{longer, Stays, Grows}
use Rattle.livepoint_format.specs.Reading.{Reader, Spot, onward, items, starts_at, done}
use Rattle.livepoint_format.specs.Values.{Point, Whole}
use Rattle.livepoint_format.proofs.Growth.{header_grows, point_grows, end_grows}
use Rattle.library_reader.specs.declared.part.Part.{Part}
use Rattle.library_reader.specs.declared.part.Part.TheVariants as parts
use Rattle.library_reader.specs.Laws.{AreOf, IsCut, IsLast, IsReadingOf, IsSettled, IsSettledBy, library_at, library_by, others, points_in, still, whole_of}
use Rattle.library_reader.specs.Reader.{Front, Reading, due, due_behind, fed, final_fault, fault_by, fresh, handed, next_by, next_part, part_or_more, refused, spot, with_end, with_header, with_point}

-- all bytes with more behind them, read at once
abbrev read_all : List ℕ → List ℕ → Result Whole LibraryFault
read_all bytes more = ended (whole_at (starts_at 0 (bytes ++ more)))

-- ---- a piece comes in

same_piece :
    (f : Option LibraryFault) (piece more : List ℕ) (points : List Point) (r : Reading)
    → library_by f r points (piece ++ more) ≡ library_by f (fed piece r) points more
same_piece (Some fault) piece more points r = refl
same_piece None piece more points r =
    ap (λ (rest : List ℕ). ended (still r.ended r.front points (record { place = r.taken; rest = rest })))
    (sym (append_assoc r.unread piece more))

pub feeds_on :
    (bytes piece : List ℕ) (points : List Point) (r : Reading) → IsReadingOf bytes points r
    → IsReadingOf (bytes ++ piece) points (fed piece r)
feeds_on bytes piece points r h = record {
  count = h.count;
  of = h.of;
  is = λ more.
      ap (λ (all : List ℕ). ended (whole_at (starts_at 0 all))) (append_assoc bytes piece more)
      ∙ h.is (piece ++ more) ∙ same_piece r.fault piece more points r;
}

-- ---- the next part

pub no_point : (bytes : List ℕ) (points : List Point) (r : Reading) → IsReadingOf bytes points r → IsReadingOf bytes (points ++ []) r
no_point bytes points r h = subst (λ (p : List Point). IsReadingOf bytes p r) (sym (append-nil points)) h

is_refused :
    (bytes : List ℕ) (points : List Point) (r : Reading) (fault : LibraryFault) → IsReadingOf bytes points r
    → ((more : List ℕ) → read_all bytes more ≡ Err fault)
    → IsReadingOf bytes (points ++ points_in (refused r fault).0) (refused r fault).1
is_refused bytes points r fault h is =
    no_point bytes points (record r { fault = Some fault }) (record { count = h.count; of = h.of; is = is })

-- what comes of reading a part: a value, a cut, or another fault
settled_as :
    (f : Option LibraryFault) (e : Bool) (r : Reading) → r.fault ≡ f → r.ended ≡ e → IsSettledBy f e r → IsSettled r
settled_as f e r sound unended h =
    subst (λ (g : Option LibraryFault). IsSettledBy g r.ended r) (sym sound)
    (subst (λ (d : Bool). IsSettledBy f d r) (sym unended) h)

module _ {A : Type 0} (read : Reader A) (grows : Grows read) (out : A × Spot → Part × Reading) (next : A → Reader Whole)
    (bytes : List ℕ) (points : List Point) (r : Reading) where
  step_by : (result : Result (A × Spot) LibraryFault) → read (spot r) ≡ result
      → ((more : List ℕ) → Stays more (spot r) result (read (longer (spot r) more)))
      → ((more : List ℕ) → read_all bytes more ≡ ended (onward (read (longer (spot r) more)) next))
      → ((x : A) (after : Spot) → ((more : List ℕ) → read_all bytes more ≡ ended (next x (longer after more)))
      → IsReadingOf bytes (points ++ points_in (out (x, after)).0) (out (x, after)).1)
      → IsReadingOf bytes points r
      → IsReadingOf bytes (points ++ points_in (part_or_more r (handed out result)).0) (part_or_more r (handed out result)).1
  step_by (Ok x) e stays all value h =
      value x.0 x.1 (λ more. all more ∙ ap (λ (res : Result (A × Spot) LibraryFault). ended (onward res next)) (stays more))
  step_by (Err (faults.Truncated end)) e stays all value h = no_point bytes points r h
  step_by (Err fault) e stays all value h =
      is_refused bytes points r fault h
      (λ more. all more ∙ ap (λ (res : Result (A × Spot) LibraryFault). ended (onward res next)) (stays more))

  step : ((more : List ℕ) → read_all bytes more ≡ ended (onward (read (longer (spot r) more)) next))
      → ((x : A) (after : Spot) → ((more : List ℕ) → read_all bytes more ≡ ended (next x (longer after more)))
      → IsReadingOf bytes (points ++ points_in (out (x, after)).0) (out (x, after)).1)
      → IsReadingOf bytes points r
      → IsReadingOf bytes (points ++ points_in (part_or_more r (handed out (read (spot r)))).0) (part_or_more r (handed out (read (spot r)))).1
  step all value h = step_by (read (spot r)) refl (grows.stays (spot r)) all value h

  cut_by : (result : Result (A × Spot) LibraryFault) → Stays [] (spot r) result (read (longer (spot r) []))
      → IsCut (handed out result) → ended (onward result next) ≡ Err (faults.Truncated (r.taken + length r.unread))
  cut_by (Ok x) stays cut = absurd cut
  cut_by (Err (faults.Truncated end)) stays cut = ap (λ (n : ℕ). Err (faults.Truncated n)) stays
  cut_by (Err fault) stays cut = absurd cut

  cut_all : ((more : List ℕ) → read_all bytes more ≡ ended (onward (read (longer (spot r) more)) next))
      → IsCut (handed out (read (spot r))) → read_all bytes [] ≡ Err (faults.Truncated (r.taken + length r.unread))
  cut_all all cut =
      let here : longer (spot r) [] ≡ spot r =
      ap (λ (rest : List ℕ). let s : Spot = record { place = r.taken; rest = rest } in s) (append-nil r.unread) in
      all [] ∙ ap (λ (s : Spot). ended (onward (read s) next)) here
      ∙ cut_by (read (spot r)) (grows.stays (spot r) []) cut

  settled_by : (result : Result (A × Spot) LibraryFault) → due r ≡ handed out result → r.fault ≡ None → r.ended ≡ false
      → ((x : A × Spot) → IsLast (out x).0 → IsSettled (out x).1)
      → IsLast (part_or_more r (handed out result)).0 → IsSettled (part_or_more r (handed out result)).1
  settled_by (Ok x) is f e value last = value x last
  settled_by (Err (faults.Truncated end)) is f e value last =
      settled_as None false r f e (subst (λ (d : Result (Part × Reading) LibraryFault). IsCut d) (sym is) tt)
  settled_by (Err fault) is f e value last = tt

-- ---- each part

-- nothing was handed out before the header
none_before : (e : Bool) (points : List Point) → AreOf e None (length points) → points ≡ []
none_before e [] of = refl
none_before e (point ∷ points) of = absurd (omega (arith, of.0))

of_front : (front : Option Front) (e : Bool) (count : ℕ) (x : Front) → front ≡ Some x → AreOf e front count → AreOf e (Some x) count
of_front front e count x is of = subst (λ (f : Option Front). AreOf e f count) is of

header_value :
    (bytes : List ℕ) (points : List Point) (r : Reading) (front : Front) (after : Spot) → r.points ≡ 0 → points ≡ []
    → r.fault ≡ None → r.ended ≡ false
    → ((more : List ℕ) → read_all bytes more ≡ ended (others front front.0.points [] (longer after more)))
    → IsReadingOf bytes (points ++ points_in (with_header r (front, after)).0) (with_header r (front, after)).1
header_value bytes points r front after count nothing sound unended all = rw (nothing, sound, unended) (record {
  count = count;
  of = omega arith;
  is = λ more.
      all more
      ∙ ap (λ (n : ℕ). ended (others front n [] (longer after more))) (let same : front.0.points ≡ front.0.points - 0 = omega arith in same);
})

point_value :
    (bytes : List ℕ) (points : List Point) (r : Reading) (front : Front) (point : Point) (after : Spot)
    → r.front ≡ Some front → r.fault ≡ None → r.ended ≡ false → r.points ≡ length points → length points < front.0.points
    → ((more : List ℕ) → read_all bytes more ≡ ended (others front (front.0.points - suc (length points)) (points ++ point ∷ []) (longer after more)))
    → IsReadingOf bytes (points ++ points_in (with_point r (point, after)).0) (with_point r (point, after)).1
point_value bytes points r front point after is sound unended count few all =
    let longer_by : length (points ++ point ∷ []) ≡ suc (length points) = omega (arith, length_push points point) in
    let within : AreOf false (Some front) (length (points ++ point ∷ [])) = omega (arith, longer_by) in
    record {
      count = ap suc count ∙ sym longer_by;
      of = rw (unended, is) within;
      is = λ more. rw (sound, unended, is, longer_by) (all more);
    }

end_value :
    (bytes : List ℕ) (points : List Point) (r : Reading) (front : Front) (letters : ℕ) (after : Spot)
    → r.front ≡ Some front → r.fault ≡ None → r.points ≡ length points → length points ≡ front.0.points
    → ((more : List ℕ) → read_all bytes more ≡ ended (Ok (whole_of front points, longer after more)))
    → IsReadingOf bytes (points ++ points_in (with_end r (letters, after)).0) (with_end r (letters, after)).1
end_value bytes points r front letters after is sound count full all =
    no_point bytes points (with_end r (letters, after)).1 (record {
      count = count;
      of = rw is full;
      is = λ more. rw (sound, is) (all more);
    })

-- ---- the next part of a reading

onward_twice :
    {A B C : Type 0} (r : Result (A × Spot) LibraryFault) (f : A → Reader B) (g : B → Reader C)
    → onward (onward r f) g ≡ onward r (λ x at. onward (f x at) g)
onward_twice (Ok x) f g = refl
onward_twice (Err fault) f g = refl

others_more :
    (front : Front) (count : ℕ) (points : List Point) (at : Spot)
    → others front (suc count) points at ≡ onward (point_after front.0 front.1 points at) (λ point. others front count (points ++ point ∷ []))
unfolding others items
others_more front count points at =
    onward_twice (point_after front.0 front.1 points at) (λ x after. items (point_after front.0 front.1) count (points ++ x ∷ []) after) _

others_none :
    (front : Front) (points : List Point) (at : Spot)
    → others front 0 points at ≡ onward (end_at at) (λ letters. done (whole_of front points))
unfolding others items
others_none front points at = refl

still_others :
    (points : List Point) (r : Reading) (front : Front) (more : List ℕ) → r.front ≡ Some front → r.fault ≡ None → r.ended ≡ false
    → library_by r.fault r points more ≡ ended (others front (front.0.points - length points) points (longer (spot r) more))
still_others points r front more is sound unended = rw (sound, unended, is) refl

still_whole :
    (points : List Point) (r : Reading) (more : List ℕ) → r.front ≡ None → r.fault ≡ None → r.ended ≡ false
    → library_by r.fault r points more ≡ ended (onward (header_at (longer (spot r) more)) (λ front. others front front.0.points []))
unfolding whole_at others
still_whole points r more is sound unended = rw (sound, unended, is) refl

module _ (bytes : List ℕ) (points : List Point) (r : Reading) (sound : r.fault ≡ None) (unended : r.ended ≡ false)
    (h : IsReadingOf bytes points r) where
  header_all : r.front ≡ None → (more : List ℕ)
      → read_all bytes more ≡ ended (onward (header_at (longer (spot r) more)) (λ front. others front front.0.points []))
  header_all none more = h.is more ∙ still_whole points r more none sound unended

  point_all : (front : Front) → r.front ≡ Some front → length points < front.0.points → (more : List ℕ)
      → read_all bytes more
      ≡ ended (onward (point_at front.0 front.1 r.points (unit_of front.0 r.points) (longer (spot r) more)) (λ point. others front (front.0.points - suc (length points)) (points ++ point ∷ [])))
  point_all front is few more =
      let left : front.0.points - length points ≡ suc (front.0.points - suc (length points)) = omega (arith, few) in
      h.is more ∙ still_others points r front more is sound unended
      ∙ ap (λ (n : ℕ). ended (others front n points (longer (spot r) more))) left
      ∙ ap ended (others_more front (front.0.points - suc (length points)) points (longer (spot r) more))
      ∙ ap (λ (k : ℕ). ended (onward (point_at front.0 front.1 k (unit_of front.0 k) (longer (spot r) more)) (λ point. others front (front.0.points - suc (length points)) (points ++ point ∷ [])))) (sym h.count)

  end_all : (front : Front) → r.front ≡ Some front → length points ≡ front.0.points → (more : List ℕ)
      → read_all bytes more ≡ ended (onward (end_at (longer (spot r) more)) (λ letters. done (whole_of front points)))
  end_all front is full more =
      let left : front.0.points - length points ≡ 0 = omega (arith, full) in
      h.is more ∙ still_others points r front more is sound unended
      ∙ ap (λ (n : ℕ). ended (others front n points (longer (spot r) more))) left
      ∙ ap ended (others_none front points (longer (spot r) more))

  most_points : (front : Front) → r.front ≡ Some front → length points ≤ front.0.points
  most_points front is =
      subst (λ (e : Bool). AreOf e (Some front) (length points)) unended
      (of_front r.front r.ended (length points) front is h.of)

  behind_step : (front : Front) (t : Bool) → nat_lt r.points front.0.points ≡ t → r.front ≡ Some front
      → (let d : Result (Part × Reading) LibraryFault =
      if t then handed (with_point r) (point_at front.0 front.1 r.points (unit_of front.0 r.points) (spot r)) else handed (with_end r) (end_at (spot r)) in
      IsReadingOf bytes (points ++ points_in (part_or_more r d).0) (part_or_more r d).1)
  behind_step front true test is =
      let few : length points < front.0.points = omega (arith, ltb-true r.points front.0.points test, h.count) in
      step (point_at front.0 front.1 r.points (unit_of front.0 r.points)) (point_grows front.0 front.1 r.points (unit_of front.0 r.points))
      (with_point r) (λ point. others front (front.0.points - suc (length points)) (points ++ point ∷ [])) bytes points r
      (point_all front is few) (λ point after all. point_value bytes points r front point after is sound unended h.count few all) h
  behind_step front false test is =
      let full : length points ≡ front.0.points =
      omega (arith, ltb-false r.points front.0.points test, h.count, most_points front is) in
      step end_at end_grows (with_end r) (λ letters. done (whole_of front points)) bytes points r
      (end_all front is full) (λ letters after all. end_value bytes points r front letters after is sound h.count full all) h

  part_step : (f : Option Front) → r.front ≡ f
      → IsReadingOf bytes (points ++ points_in (part_or_more r (due_behind f r)).0) (part_or_more r (due_behind f r)).1
  part_step None is =
      let nothing : points ≡ [] =
      none_before r.ended points (subst (λ (f : Option Front). AreOf r.ended f (length points)) is h.of) in
      let count : r.points ≡ 0 = h.count ∙ ap length nothing in
      step header_at header_grows (with_header r) (λ front. others front front.0.points []) bytes points r
      (header_all is) (λ front after all. header_value bytes points r front after count nothing sound unended all) h
  part_step (Some front) is = behind_step front (nat_lt r.points front.0.points) refl is

  behind_cut : (front : Front) (t : Bool) → nat_lt r.points front.0.points ≡ t → r.front ≡ Some front
      → IsCut (if t then handed (with_point r) (point_at front.0 front.1 r.points (unit_of front.0 r.points) (spot r)) else handed (with_end r) (end_at (spot r)))
      → read_all bytes [] ≡ Err (faults.Truncated (r.taken + length r.unread))
  behind_cut front true test is cut =
      let few : length points < front.0.points = omega (arith, ltb-true r.points front.0.points test, h.count) in
      cut_all (point_at front.0 front.1 r.points (unit_of front.0 r.points)) (point_grows front.0 front.1 r.points (unit_of front.0 r.points))
      (with_point r) (λ point. others front (front.0.points - suc (length points)) (points ++ point ∷ [])) bytes points r
      (point_all front is few) cut
  behind_cut front false test is cut =
      let full : length points ≡ front.0.points =
      omega (arith, ltb-false r.points front.0.points test, h.count, most_points front is) in
      cut_all end_at end_grows (with_end r) (λ letters. done (whole_of front points)) bytes points r (end_all front is full) cut

  part_cut : (f : Option Front) → r.front ≡ f → IsCut (due_behind f r)
      → read_all bytes [] ≡ Err (faults.Truncated (r.taken + length r.unread))
  part_cut None is cut =
      cut_all header_at header_grows (with_header r) (λ front. others front front.0.points []) bytes points r (header_all is) cut
  part_cut (Some front) is cut = behind_cut front (nat_lt r.points front.0.points) refl is cut

-- ---- behind the end

trailing :
    (f : Option Front) (points : List Point) (r : Reading) (more : List ℕ) → r.front ≡ f → r.fault ≡ None → r.ended ≡ true
    → AreOf true f (length points) → (length r.unread == 0) ≡ false
    → library_by r.fault r points more ≡ Err (faults.TrailingBytes r.taken)
trailing None points r more is sound over of some = absurd cc
trailing (Some front) points r more is sound over of some =
    let left : (length (r.unread ++ more) == 0) ≡ false =
    ne_eqb (length (r.unread ++ more)) 0
    (λ e. eqb-false (length r.unread) 0 some (omega (arith, e, length-append r.unread more))) in
    rw (sound, over, is, left) refl

of_over : (points : List Point) (r : Reading) → r.ended ≡ true → AreOf r.ended r.front (length points) → AreOf true r.front (length points)
of_over points r over of = subst (λ (e : Bool). AreOf e r.front (length points)) over of

end_step :
    (bytes : List ℕ) (points : List Point) (r : Reading) (t : Bool) → (length r.unread == 0) ≡ t → r.fault ≡ None
    → r.ended ≡ true → IsReadingOf bytes points r
    → (let d : Part × Reading = if t then (parts.End, r) else refused r (faults.TrailingBytes r.taken) in
    IsReadingOf bytes (points ++ points_in d.0) d.1)
end_step bytes points r true test sound over h = no_point bytes points r h
end_step bytes points r false test sound over h =
    is_refused bytes points r (faults.TrailingBytes r.taken) h
    (λ more. h.is more ∙ trailing r.front points r more refl sound over (of_over points r over h.of) test)

next_by_is :
    (bytes : List ℕ) (points : List Point) (r : Reading) (f : Option LibraryFault) (e : Bool) → r.fault ≡ f → r.ended ≡ e
    → IsReadingOf bytes points r → IsReadingOf bytes (points ++ points_in (next_by f e r).0) (next_by f e r).1
next_by_is bytes points r (Some fault) e sound over h = no_point bytes points r h
next_by_is bytes points r None true sound over h = end_step bytes points r (length r.unread == 0) refl sound over h
next_by_is bytes points r None false sound over h = part_step bytes points r sound over h r.front refl

pub next_is :
    (bytes : List ℕ) (points : List Point) (r : Reading) → IsReadingOf bytes points r
    → IsReadingOf bytes (points ++ points_in (next_part r).0) (next_part r).1
unfolding next_part
next_is bytes points r h = next_by_is bytes points r r.fault r.ended refl refl h

-- ---- what settles a reading

end_settles :
    (r : Reading) (t : Bool) → r.fault ≡ None → r.ended ≡ true
    → IsSettled (if t then (let d : Part × Reading = (parts.End, r) in d) else refused r (faults.TrailingBytes r.taken)).1
end_settles r true sound over = settled_as None true r sound over tt
end_settles r false sound over = tt

behind_settles :
    (r : Reading) (front : Front) (t : Bool) → r.fault ≡ None → r.ended ≡ false
    → due r ≡ (if t then handed (with_point r) (point_at front.0 front.1 r.points (unit_of front.0 r.points) (spot r)) else handed (with_end r) (end_at (spot r)))
    → (let d : Part × Reading = part_or_more r (if t then handed (with_point r) (point_at front.0 front.1 r.points (unit_of front.0 r.points) (spot r)) else handed (with_end r) (end_at (spot r))) in
    IsLast d.0 → IsSettled d.1)
behind_settles r front true sound over is last =
    settled_by (point_at front.0 front.1 r.points (unit_of front.0 r.points)) (point_grows front.0 front.1 r.points (unit_of front.0 r.points))
    (with_point r) (λ point. done (whole_of front [])) [] [] r _ is sound over (λ x l. absurd l) last
behind_settles r front false sound over is last =
    settled_by end_at end_grows (with_end r) (λ letters. done (whole_of front [])) [] [] r _ is sound over
    (λ x l. settled_as None true (with_end r x).1 sound refl tt) last

part_settles :
    (r : Reading) (f : Option Front) → r.front ≡ f → r.fault ≡ None → r.ended ≡ false → due r ≡ due_behind f r
    → IsLast (part_or_more r (due_behind f r)).0 → IsSettled (part_or_more r (due_behind f r)).1
part_settles r None is sound over same last =
    settled_by header_at header_grows (with_header r) (λ front. done (whole_of front [])) [] [] r _ same sound over (λ x l. absurd l) last
part_settles r (Some front) is sound over same last =
    behind_settles r front (nat_lt r.points front.0.points) sound over same last

settles_by :
    (r : Reading) (f : Option LibraryFault) (e : Bool) → r.fault ≡ f → r.ended ≡ e
    → IsLast (next_by f e r).0 → IsSettled (next_by f e r).1
settles_by r (Some fault) e sound over last = settled_as (Some fault) e r sound over tt
settles_by r None true sound over last = end_settles r (length r.unread == 0) sound over
settles_by r None false sound over last = part_settles r r.front refl sound over refl last

pub next_settles : (r : Reading) → IsLast (next_part r).0 → IsSettled (next_part r).1
unfolding next_part
next_settles r last = settles_by r r.fault r.ended refl refl last

-- ---- where no more bytes come

in_time : (bytes : List ℕ) → length bytes ≤ 1073741824 → library_of bytes ≡ ended (whole_at (starts_at 0 bytes))
unfolding library_of
in_time bytes short = rw (le-ltb 1073741824 (length bytes) short) refl

all_is : (bytes : List ℕ) → length bytes ≤ 1073741824 → library_of bytes ≡ read_all bytes []
all_is bytes short =
    in_time bytes short ∙ ap (λ (all : List ℕ). ended (whole_at (starts_at 0 all))) (sym (append-nil bytes))

over_is :
    (f : Option Front) (points : List Point) (r : Reading) (t : Bool) → (length r.unread == 0) ≡ t → r.front ≡ f → r.fault ≡ None
    → r.ended ≡ true → AreOf true f (length points)
    → library_by r.fault r points []
    ≡ library_at (if t then None else Some (faults.TrailingBytes r.taken)) f points
over_is None points r t test is sound over of = absurd cc
over_is (Some front) points r true test is sound over of =
    let left : (length (r.unread ++ []) == 0) ≡ true = ap (λ (l : List ℕ). length l == 0) (append-nil r.unread) ∙ test in
    rw (sound, over, is, left) refl
over_is (Some front) points r false test is sound over of = trailing (Some front) points r [] is sound over of test

ends_by :
    (bytes : List ℕ) (points : List Point) (r : Reading) (f : Option LibraryFault) (e : Bool) → r.fault ≡ f → r.ended ≡ e
    → IsReadingOf bytes points r → IsSettledBy f e r → read_all bytes [] ≡ library_at (fault_by f e r) r.front points
ends_by bytes points r (Some fault) e sound over h settled = h.is [] ∙ rw sound refl
ends_by bytes points r None true sound over h settled =
    h.is [] ∙ over_is r.front points r (length r.unread == 0) refl refl sound over (of_over points r over h.of)
ends_by bytes points r None false sound over h settled = part_cut bytes points r sound over h r.front refl settled

pub ends_is :
    (bytes : List ℕ) (points : List Point) (r : Reading) → IsReadingOf bytes points r → IsSettled r
    → length bytes ≤ 1073741824 → library_of bytes ≡ library_at (final_fault r) r.front points
ends_is bytes points r h settled short =
    all_is bytes short ∙ ends_by bytes points r r.fault r.ended refl refl h settled

pub faulty_is :
    (bytes more : List ℕ) (points : List Point) (r : Reading) (fault : LibraryFault) → IsReadingOf bytes points r
    → r.fault ≡ Some fault → length (bytes ++ more) ≤ 1073741824 → library_of (bytes ++ more) ≡ Err fault
faulty_is bytes more points r fault h is short = in_time (bytes ++ more) short ∙ h.is more ∙ rw is refl

pub starts_is : IsReadingOf [] [] fresh
starts_is = record { count = refl; of = (refl, refl); is = λ more. refl }
