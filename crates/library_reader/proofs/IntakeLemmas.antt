-- What is read of a source, step by step.
use Rattle.std.proofs.Common.{◌≡◌, ◌<◌, ◌≤◌, ◌+◌, ℕ, List, [], ◌∷◌, ◌++◌, length, Bool, true, false, Option, Some, None, Result, Ok, Err, refl, sym, ap, subst, ◌∙◌, arith, append_assoc, append-nil, length-append}
use Rattle.std.proofs.lemmas.Bool.{lt-ltb}
use Rattle.std.specs.List.{All}
use Rattle.std.specs.Prelude.{◌==◌, nat_lt, if◌then◌else◌, IfOk, IfSome}
use Rattle.livepoint_format.specs.declared.fault.LibraryFault.{LibraryFault}
use Rattle.livepoint_format.specs.declared.fault.LibraryFault.TheVariants as faults
use Rattle.livepoint_format.specs.Decoding.{header_at, point_at, end_at, library_of}
use Rattle.livepoint_format.specs.Format.{IsPoint, unit_of}
use Rattle.livepoint_format.specs.Reading.{Spot}
use Rattle.livepoint_format.specs.Values.{Point, Whole}
use Rattle.smarts_io.proofs.Pieces.{gives_more}
use Rattle.smarts_io.specs.Bytes.{Gives, IsAtEnd}
use Rattle.smarts_io.specs.declared.reading.ReadError.{ReadError}
use Rattle.library_reader.specs.declared.part.Part.{Part}
use Rattle.library_reader.specs.declared.part.Part.TheVariants as parts
use Rattle.library_reader.proofs.ReadingLemmas.{ends_is, faulty_is, feeds_on, next_is, next_settles, no_point}
use Rattle.library_reader.specs.Intake.{AreAll, HasRead, IsHandedOn, IsOver, IsPiece, IsStepped}
use Rattle.library_reader.specs.Laws.{AreOf, IsLast, IsMidFront, IsReadingOf, IsSettled, library_at, points_in}
use Rattle.library_reader.specs.Reader.{Front, Reading, came_in, due_behind, fault_by, fed, final_fault, handed, last_part, next_by, next_part, part_or_more, refused, spot, with_end, with_header, with_point}

gives_none : (rest : Option (List ℕ)) → Gives rest [] rest
gives_none None = refl
gives_none (Some bytes) = refl

-- ---- what was handed out of what came in

pub settled_at : (r new : Reading) (part : Part) → next_part r ≡ (part, new) → IsLast part → IsSettled new
settled_at r new part is last =
    subst (λ (d : Part × Reading). IsLast d.0 → IsSettled d.1) is (next_settles r) last

-- a fault stays
abbrev IsKept : Part → Reading → Type 0
IsKept (parts.Fault fault) new = new.fault ≡ Some fault
IsKept part new = Unit {0}

module _ {A : Type 0} (out : A × Spot → Part × Reading) (r : Reading) (out_is : (x : A × Spot) → IsKept (out x).0 (out x).1) where
  part_kept : (result : Result (A × Spot) LibraryFault)
      → IsKept (part_or_more r (handed out result)).0 (part_or_more r (handed out result)).1
  part_kept (Ok x) = out_is x
  part_kept (Err (faults.Truncated end)) = tt
  part_kept (Err fault) = refl

behind_kept :
    (r : Reading) (front : Front) (t : Bool)
    → (let d : Part × Reading = part_or_more r (if t then handed (with_point r) (point_at front.0 front.1 r.points (unit_of front.0 r.points) (spot r)) else handed (with_end r) (end_at (spot r))) in IsKept d.0 d.1)
behind_kept r front true =
    part_kept (with_point r) r (λ x. tt) (point_at front.0 front.1 r.points (unit_of front.0 r.points) (spot r))
behind_kept r front false = part_kept (with_end r) r (λ x. tt) (end_at (spot r))

due_kept : (r : Reading) (f : Option Front) → (let d : Part × Reading = part_or_more r (due_behind f r) in IsKept d.0 d.1)
due_kept r None = part_kept (with_header r) r (λ x. tt) (header_at (spot r))
due_kept r (Some front) = behind_kept r front (nat_lt r.points front.0.points)

end_kept :
    (r : Reading) (t : Bool)
    → (let d : Part × Reading = (if t then (let d : Part × Reading = (parts.End, r) in d) else refused r (faults.TrailingBytes r.taken)) in IsKept d.0 d.1)
end_kept r true = tt
end_kept r false = refl

kept_by :
    (r : Reading) (f : Option LibraryFault) (e : Bool) → r.fault ≡ f → IsKept (next_by f e r).0 (next_by f e r).1
kept_by r (Some fault) e is = is
kept_by r None true is = end_kept r (length r.unread == 0)
kept_by r None false is = due_kept r r.front

next_kept : (r : Reading) → IsKept (next_part r).0 (next_part r).1
unfolding next_part
next_kept r = kept_by r r.fault r.ended refl

pub fault_at : (r new : Reading) (fault : LibraryFault) → next_part r ≡ (parts.Fault fault, new) → new.fault ≡ Some fault
fault_at r new fault is = subst (λ (d : Part × Reading). IsKept d.0 d.1) is (next_kept r)

-- nothing was read, and nothing handed out
pub read_nothing : (r : Reading) (rest : Option (List ℕ)) → HasRead r r rest rest [] []
read_nothing r rest = record {
  gives = gives_none rest;
  on = λ bytes first h.
      subst (λ (all : List ℕ). IsReadingOf all (first ++ []) r) (sym (append-nil bytes)) (no_point bytes first r h);
  size = omega arith;
}

-- nothing was read for it
pub read_none :
    (r new : Reading) (part : Part) (rest : Option (List ℕ)) → next_part r ≡ (part, new) → came_in new ≡ came_in r
    → HasRead r new rest rest (points_in part) []
read_none r new part rest is size = record {
  gives = gives_none rest;
  on = λ bytes first h.
      subst (λ (all : List ℕ). IsReadingOf all (first ++ points_in part) new) (sym (append-nil bytes))
      (subst (λ (d : Part × Reading). IsReadingOf bytes (first ++ points_in d.0) d.1) is (next_is bytes first r h));
  size = omega (arith, size);
}

-- ---- one step after another

more_bytes :
    (bytes first second : List ℕ) (before some more : List Point) (new : Reading)
    → IsReadingOf ((bytes ++ first) ++ second) ((before ++ some) ++ more) new
    → IsReadingOf (bytes ++ (first ++ second)) (before ++ (some ++ more)) new
more_bytes bytes first second before some more new h =
    subst (λ (points : List Point). IsReadingOf (bytes ++ (first ++ second)) points new) (append_assoc before some more)
    (subst (λ (all : List ℕ). IsReadingOf all ((before ++ some) ++ more) new) (append_assoc bytes first second) h)

pub read_behind :
    (r mid new : Reading) (before between after : Option (List ℕ)) (some more : List Point) (first second : List ℕ)
    → HasRead r mid before between some first → HasRead mid new between after more second
    → HasRead r new before after (some ++ more) (first ++ second)
read_behind r mid new before between after some more first second one two = record {
  gives = gives_more before between after first second one.gives two.gives;
  on = λ bytes handed h.
      more_bytes bytes first second handed some more new (two.on (bytes ++ first) (handed ++ some) (one.on bytes handed h));
  size = omega (arith, one.size, two.size, length-append first second);
}

pub over_behind :
    (r mid : Reading) (before between after : Option (List ℕ)) (some : List Point)
    (expected : List Point → Result Whole LibraryFault) (first second : List ℕ)
    → HasRead r mid before between some first → IsOver mid between after expected second
    → IsOver r before after (λ handed. expected (handed ++ some)) (first ++ second)
over_behind r mid before between after some expected first second one two = record {
  gives = gives_more before between after first second one.gives two.gives;
  whole = λ few. two.whole (omega (arith, few, one.size, length-append first second));
  most = omega (arith, two.most, one.size, length-append first second);
  library = λ bytes handed h size.
      ap library_of (sym (append_assoc bytes first second))
      ∙ two.library (bytes ++ first) (handed ++ some) (one.on bytes handed h) (omega (arith, size, one.size, length-append bytes first));
}

over_more :
    (r mid : Reading) (before between after : Option (List ℕ)) (expected : List Point → Result Whole LibraryFault)
    (first second : List ℕ) → HasRead r mid before between [] first → IsOver mid between after expected second
    → IsOver r before after expected (first ++ second)
over_more r mid before between after expected first second one two =
    let over = over_behind r mid before between after [] expected first second one two in
    record {
      gives = over.gives;
      whole = over.whole;
      most = over.most;
      library = λ bytes handed h size. over.library bytes handed h size ∙ ap expected (append-nil handed);
    }

all_before :
    (r mid : Reading) (before between : Option (List ℕ)) (first : List ℕ) → HasRead r mid before between [] first
    → mid.front ≡ r.front → AreAll mid → AreAll r
all_before r mid before between first one front all bytes points h =
    let there : IfSome mid.front (λ f. length (points ++ []) ≡ f.0.points) = all (bytes ++ first) (points ++ []) (one.on bytes points h) in
    subst (λ (f : Option Front). IfSome f (λ f. length points ≡ f.0.points)) front
    (subst (λ (all : List Point). IfSome mid.front (λ f. length all ≡ f.0.points)) (append-nil points) there)

pub handed_more :
    (part : Part) (r mid new : Reading) (before between after : Option (List ℕ)) (first : List ℕ)
    → HasRead r mid before between [] first → mid.front ≡ r.front → IsHandedOn part mid new between after
    → IsHandedOn part r new before after
handed_more parts.Header r mid new before between after first one front h =
    (first ++ h.0, read_behind r mid new before between after [] [] first h.0 one h.1)
handed_more (parts.Point point) r mid new before between after first one front h =
    (first ++ h.0, read_behind r mid new before between after [] (point ∷ []) first h.0 one h.1)
handed_more parts.More r mid new before between after first one front h = absurd h
handed_more parts.End r mid new before between after first one front h = (
  first ++ h.0,
  subst (λ (f : Option Front). IsOver r before after (library_at None f) (first ++ h.0)) front
      (over_more r mid before between after (library_at None mid.front) first h.0 one h.1),
  all_before r mid before between first one front h.2,
)
handed_more (parts.Fault fault) r mid new before between after first one front h =
    (first ++ h.0, over_more r mid before between after (λ handed. Err fault) first h.0 one h.1)

pub stepped_more :
    (part : Option Part) (r mid new : Reading) (before between after : Option (List ℕ)) (first : List ℕ)
    → HasRead r mid before between [] first → mid.front ≡ r.front → IsStepped part mid new between after
    → IsStepped part r new before after
stepped_more (Some part) r mid new before between after first one front h =
    handed_more part r mid new before between after first one front h
stepped_more None r mid new before between after first one front h = (
  first ++ h.0,
  record {
    read = read_behind r mid new before between after [] [] first h.0 one h.1.read;
    front = h.1.front ∙ front;
  },
  omega (arith, h.2, length-append first h.0),
  h.3,
)

-- ---- the end and a fault hand out no point

pub last_points :
    (part : Part) (front : Option Front) → IsLast part
    → IfSome front (λ f. All (λ point. IsPoint f.0 point.unit point) (points_in part))
last_points parts.Header front last = absurd last
last_points (parts.Point point) front last = absurd last
last_points parts.More None last = tt
last_points parts.More (Some front) last = λ k d fits. absurd (omega (arith, fits))
last_points parts.End None last = tt
last_points parts.End (Some front) last = λ k d fits. absurd (omega (arith, fits))
last_points (parts.Fault fault) None last = tt
last_points (parts.Fault fault) (Some front) last = λ k d fits. absurd (omega (arith, fits))

pub last_front : (part : Part) (old new : Option Front) → IsLast part → IsMidFront part old new
last_front parts.Header old new last = absurd last
last_front (parts.Point point) old new last = absurd last
last_front parts.More old new last = tt
last_front parts.End old new last = tt
last_front (parts.Fault fault) old new last = tt

pub took_stepped :
    (result : Result (Option Part) ReadError) (r shown mid new : Reading) (part : Part) (before after : Option (List ℕ))
    → r ≡ shown → next_part r ≡ (part, mid) → came_in mid ≡ came_in r → points_in part ≡ [] → mid.front ≡ r.front
    → IfOk result (λ p. IsStepped p mid new before after) → IfOk result (λ p. IsStepped p shown new before after)
took_stepped (Ok p) r shown mid new part before after same is size quiet front h =
    subst (λ (s : Reading). IsStepped p s new before after) same
    (stepped_more p r mid new before before after []
    (subst (λ (points : List Point). HasRead r mid before before points []) quiet (read_none r mid part before is size)) front h)
took_stepped (Err e) r shown mid new part before after same is size quiet front h = tt

pub refused_handed :
    (part : Part) (r shown mid new : Reading) (fault : LibraryFault) (before after : Option (List ℕ))
    → r ≡ shown → next_part r ≡ (parts.Fault fault, mid) → came_in mid ≡ came_in r → mid.front ≡ r.front
    → IsHandedOn part mid new before after → IsHandedOn part shown new before after
refused_handed part r shown mid new fault before after same is size front h =
    subst (λ (s : Reading). IsHandedOn part s new before after) same
    (handed_more part r mid new before before after [] (read_none r mid (parts.Fault fault) before is size) front h)

pub handed_none :
    (r shown new : Reading) (part : Part) (rest : Option (List ℕ)) → r ≡ shown → next_part r ≡ (part, new)
    → came_in new ≡ came_in r → (given : List ℕ) × HasRead shown new rest rest (points_in part) given
handed_none r shown new part rest same is size =
    ([], subst (λ (s : Reading). HasRead s new rest rest (points_in part) []) same (read_none r new part rest is size))

pub took_points :
    (result : Result (Option Part) ReadError) (front : Option Front) → IfOk result (λ p. IfSome p IsLast)
    → IfOk result (λ p. IfSome p (λ p. IfSome front (λ f. All (λ point. IsPoint f.0 point.unit point) (points_in p))))
took_points (Ok (Some part)) front last = last_points part front last
took_points (Ok None) front last = tt
took_points (Err e) front last = tt

pub took_front :
    (result : Result (Option Part) ReadError) (old new : Option Front) → IfOk result (λ p. IfSome p IsLast)
    → IfOk result (λ p. IfSome p (λ p. IsMidFront p old new))
took_front (Ok (Some part)) old new last = last_front part old new last
took_front (Ok None) old new last = tt
took_front (Err e) old new last = tt

-- ---- what one read gives

size_fed : (r : Reading) (given : List ℕ) → came_in (fed given r) ≡ came_in r + length given
size_fed r given = omega (arith, length-append r.unread given)

pub came_more :
    (count room : ℕ) (given : List ℕ) (old new : Reading) → IsPiece count room given old new → 0 < count → count ≤ room
    → came_in new ≡ came_in old + count
came_more count room given old new is some few =
    ap came_in (is.came some few) ∙ omega (arith, size_fed old given, is.count_is)

pub stepped_fed :
    (count room : ℕ) (given : List ℕ) (old new : Reading) (before after : Option (List ℕ)) → IsPiece count room given old new
    → 0 < count → count ≤ room → came_in old + room ≤ 1073741824 → Gives before given after
    → IsStepped None old new before after
stepped_fed count room given old new before after is some few most gives =
    let there : new ≡ fed given old = is.came some few in
    let size : came_in new ≡ came_in old + count = came_more count room given old new is some few in (
      given,
      record {
        read = record {
          gives = gives;
          on = λ bytes first h.
              subst (IsReadingOf (bytes ++ given) (first ++ [])) (sym there)
              (no_point (bytes ++ given) first (fed given old) (feeds_on bytes given first old h));
          size = omega (arith, size, is.count_is);
        };
        front = ap (λ (r : Reading). r.front) there;
      },
      omega (arith, some, is.count_is),
      omega (arith, size, few, most),
    )

too_large : (bytes : List ℕ) → length bytes ≡ 1073741825 → library_of bytes ≡ Err (faults.TooLarge 1073741825)
unfolding library_of
too_large bytes size =
    rw (lt-ltb 1073741824 (length bytes) (omega (arith, size))) (ap (λ (n : ℕ). Err (faults.TooLarge n)) size)

pub too_many :
    (r new : Reading) (before after : Option (List ℕ)) (given : List ℕ) (count : ℕ) → Gives before given after
    → count ≡ came_in r + length given → count ≡ 1073741825
    → IsHandedOn (parts.Fault (faults.TooLarge count)) r new before after
too_many r new before after given count gives all full = (
  given,
  record {
    gives = gives;
    whole = λ few. absurd (omega (arith, few, all, full));
    most = omega (arith, all, full);
    library = λ bytes first h size.
        too_large (bytes ++ given) (omega (arith, size, all, full, length-append bytes given))
        ∙ ap (λ (n : ℕ). Err (faults.TooLarge n)) (sym full);
  },
)

pub refused_all :
    (r new : Reading) (before after : Option (List ℕ)) (given : List ℕ) (count : ℕ) (fault : LibraryFault)
    → r.fault ≡ Some fault → Gives before given after → count ≡ came_in r + length given → count ≤ 1073741824
    → IsAtEnd after → IsHandedOn (parts.Fault fault) r new before after
refused_all r new before after given count fault faulty gives all few ended = (
  given,
  record {
    gives = gives;
    whole = λ _. ended;
    most = omega (arith, all, few);
    library = λ bytes first h size.
        faulty_is bytes given first r fault h faulty (omega (arith, size, all, few, length-append bytes given));
  },
)

all_of : (ended : Bool) (front : Option Front) (count : ℕ) → ended ≡ true → AreOf ended front count
    → IfSome front (λ f. count ≡ f.0.points)
all_of true None count is of = tt
all_of true (Some front) count is of = of
all_of false front count is of = cc

ended_of : (fault : Option LibraryFault) (ended : Bool) (r : Reading) → fault_by fault ended r ≡ None → ended ≡ true
ended_of (Some fault) ended r is = cc
ended_of None true r is = refl
ended_of None false r is = cc

all_came : (r : Reading) → final_fault r ≡ None → AreAll r
all_came r is bytes first h = all_of r.ended r.front (length first) (ended_of r.fault r.ended r is) h.of

-- nothing came: what all bytes are is settled
settled_is :
    (f : Option LibraryFault) (r new : Reading) (before after : Option (List ℕ)) → final_fault r ≡ f → IsSettled r
    → came_in r ≤ 1073741824 → Gives before [] after → IsAtEnd after → IsHandedOn (last_part f) r new before after
settled_is None r new before after is settled few gives ended = (
  [],
  record {
    gives = gives;
    whole = λ _. ended;
    most = omega (arith, few);
    library = λ bytes first h size.
        ap library_of (append-nil bytes) ∙ ends_is bytes first r h settled (omega (arith, size, few))
        ∙ ap (λ (g : Option LibraryFault). library_at g r.front first) is;
  },
  all_came r is,
)
settled_is (Some fault) r new before after is settled few gives ended = (
  [],
  record {
    gives = gives;
    whole = λ _. ended;
    most = omega (arith, few);
    library = λ bytes first h size.
        ap library_of (append-nil bytes) ∙ ends_is bytes first r h settled (omega (arith, size, few))
        ∙ ap (λ (g : Option LibraryFault). library_at g r.front first) is;
  },
)

no_bytes : (given : List ℕ) (before after : Option (List ℕ)) → 0 ≡ length given → Gives before given after → Gives before [] after
no_bytes [] before after size gives = gives
no_bytes (b ∷ given) before after size gives = absurd (omega (arith, size))

pub finished :
    (part : Part) (r shown new : Reading) (before after : Option (List ℕ)) (given : List ℕ) → part ≡ last_part (final_fault shown)
    → shown ≡ r → IsSettled r → came_in r ≤ 1073741824 → 0 ≡ length given → Gives before given after → IsAtEnd after
    → IsHandedOn part r new before after
finished part r shown new before after given is same settled few size gives ended =
    subst (λ (p : Part). IsHandedOn p r new before after) (sym (is ∙ ap (λ (s : Reading). last_part (final_fault s)) same))
    (settled_is (final_fault r) r new before after refl settled few (no_bytes given before after size gives) ended)
