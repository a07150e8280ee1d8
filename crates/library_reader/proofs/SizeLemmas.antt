-- No byte is made or lost between what is unread and what was read.
use Rattle.std.proofs.Common.{◌≡◌, ◌+◌, length, Bool, true, false, Option, Some, None, Result, Ok, Err, IfOk, refl, sym, ap, subst, ◌∙◌}
use Rattle.std.specs.Option.{is_some}
use Rattle.std.specs.Prelude.{◌==◌, nat_lt, if◌then◌else◌}
use Rattle.livepoint_format.specs.declared.fault.LibraryFault.{LibraryFault}
use Rattle.livepoint_format.specs.declared.fault.LibraryFault.TheVariants as faults
use Rattle.livepoint_format.specs.Decoding.{header_at, point_at, end_at}
use Rattle.livepoint_format.specs.Format.{unit_of}
use Rattle.livepoint_format.specs.Growing.{Grows}
use Rattle.livepoint_format.specs.Reading.{Reader, Spot}
use Rattle.livepoint_format.proofs.Growth.{header_grows, point_grows, end_grows}
use Rattle.smarts_base.specs.declared.refusal.NoMemory.{NoMemory as Want}
use Rattle.library_reader.specs.Calls.{HandsNext}
use Rattle.library_reader.specs.declared.part.Part.{Part}
use Rattle.library_reader.specs.declared.part.Part.TheVariants as parts
use Rattle.library_reader.specs.Laws.{IsFrontBehind}
use Rattle.library_reader.specs.Reader.{Front, Reading, came_in, due_behind, handed, next_by, next_part, part_or_more, refused, spot, with_end, with_header, with_point}

module _ {A : Type 0} (read : Reader A) (grows : Grows read) (out : A × Spot → Part × Reading) (r : Reading)
    (out_is : (x : A × Spot) → came_in (out x).1 ≡ x.1.place + length x.1.rest) where
  part_size : (result : Result (A × Spot) LibraryFault) → read (spot r) ≡ result
      → came_in (part_or_more r (handed out result)).1 ≡ came_in r
  part_size (Ok x) e = out_is x ∙ grows.sum (spot r) x.0 x.1 e
  part_size (Err (faults.Truncated end)) e = refl
  part_size (Err fault) e = refl

behind_size :
    (r : Reading) (front : Front) (t : Bool)
    → came_in (part_or_more r (if t then handed (with_point r) (point_at front.0 front.1 r.points (unit_of front.0 r.points) (spot r)) else handed (with_end r) (end_at (spot r)))).1
    ≡ came_in r
behind_size r front true =
    part_size (point_at front.0 front.1 r.points (unit_of front.0 r.points)) (point_grows front.0 front.1 r.points (unit_of front.0 r.points))
    (with_point r) r (λ x. refl) (point_at front.0 front.1 r.points (unit_of front.0 r.points) (spot r)) refl
behind_size r front false = part_size end_at end_grows (with_end r) r (λ x. refl) (end_at (spot r)) refl

due_size : (r : Reading) (f : Option Front) → came_in (part_or_more r (due_behind f r)).1 ≡ came_in r
due_size r None = part_size header_at header_grows (with_header r) r (λ x. refl) (header_at (spot r)) refl
due_size r (Some front) = behind_size r front (nat_lt r.points front.0.points)

end_size :
    (r : Reading) (t : Bool)
    → came_in (if t then (let d : Part × Reading = (parts.End, r) in d) else refused r (faults.TrailingBytes r.taken)).1 ≡ came_in r
end_size r true = refl
end_size r false = refl

size_by : (r : Reading) (f : Option LibraryFault) (e : Bool) → came_in (next_by f e r).1 ≡ came_in r
size_by r (Some fault) e = refl
size_by r None true = end_size r (length r.unread == 0)
size_by r None false = due_size r r.front

pub next_size : (r : Reading) → came_in (next_part r).1 ≡ came_in r
unfolding next_part
next_size r = size_by r r.fault r.ended

-- ---- the header stays

module _ {A : Type 0} (out : A × Spot → Part × Reading) (r : Reading)
    (out_is : (x : A × Spot) → IsFrontBehind (out x).0 r.front (out x).1.front) where
  part_front : (result : Result (A × Spot) LibraryFault)
      → IsFrontBehind (part_or_more r (handed out result)).0 r.front (part_or_more r (handed out result)).1.front
  part_front (Ok x) = out_is x
  part_front (Err (faults.Truncated end)) = refl
  part_front (Err fault) = refl

behind_front :
    (r : Reading) (front : Front) (t : Bool) → r.front ≡ Some front
    → (let d : Part × Reading = part_or_more r (if t then handed (with_point r) (point_at front.0 front.1 r.points (unit_of front.0 r.points) (spot r)) else handed (with_end r) (end_at (spot r))) in IsFrontBehind d.0 r.front d.1.front)
behind_front r front true is =
    part_front (with_point r) r (λ x. (ap is_some is, refl)) (point_at front.0 front.1 r.points (unit_of front.0 r.points) (spot r))
behind_front r front false is = part_front (with_end r) r (λ x. refl) (end_at (spot r))

due_front :
    (r : Reading) (f : Option Front) → r.front ≡ f
    → (let d : Part × Reading = part_or_more r (due_behind f r) in IsFrontBehind d.0 r.front d.1.front)
due_front r None is = part_front (with_header r) r (λ x. (is, refl)) (header_at (spot r))
due_front r (Some front) is = behind_front r front (nat_lt r.points front.0.points) is

end_front :
    (r : Reading) (t : Bool)
    → (let d : Part × Reading = (if t then (let d : Part × Reading = (parts.End, r) in d) else refused r (faults.TrailingBytes r.taken)) in IsFrontBehind d.0 r.front d.1.front)
end_front r true = refl
end_front r false = refl

front_by : (r : Reading) (f : Option LibraryFault) (e : Bool) → IsFrontBehind (next_by f e r).0 r.front (next_by f e r).1.front
front_by r (Some fault) e = refl
front_by r None true = end_front r (length r.unread == 0)
front_by r None false = due_front r r.front refl

next_front : (r : Reading) → IsFrontBehind (next_part r).0 r.front (next_part r).1.front
unfolding next_part
next_front r = front_by r r.fault r.ended

pub kept_front : (result : Result Part Want) (new old : Reading) → HandsNext result new old → IfOk result (λ part. IsFrontBehind part old.front new.front)
kept_front (Ok part) new old is =
    subst (λ (d : Part × Reading). IsFrontBehind d.0 old.front d.1.front) is (next_front old)
kept_front (Err want) new old is = tt

pub kept_size : (result : Result Part Want) (new old : Reading) → HandsNext result new old → came_in new ≡ came_in old
kept_size (Ok part) new old is = ap (λ (p : Part × Reading). came_in p.1) (sym is) ∙ next_size old
kept_size (Err want) new old is = ap came_in is
