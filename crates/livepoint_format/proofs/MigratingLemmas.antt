-- What a library of version 2 keeps of the one that it comes from.
use Rattle.std.proofs.Common.{◌≡◌, ℕ, List, [], length, refl, sym, ap, ◌∙◌, arith}
use Rattle.live_words.specs.Follow.{Follow}
use Rattle.live_words.specs.Words.{IsPair}
use Rattle.live_points.specs.Sharing.{ranks}
use Rattle.live_points.proofs.SharingLemmas.{sharing_is_one}
use Rattle.livepoint_format.specs.Values.{Head, Point, Whole}
use Rattle.livepoint_format.specs.Format.{IsHeader, IsPoint, IsWhole, unit_of}
use Rattle.livepoint_format.specs.Migrating.{IsMigrated}
use Rattle.livepoint_format.proofs.Follows.{follow_weaker}

second_header : (h : Head) → IsHeader h → IsHeader (record h { version = 2 })
second_header h is = record {
  version = (omega arith, omega arith);
  instructions = is.instructions;
  unit = is.unit;
  warm = is.warm;
  every = is.every;
  offset = is.offset;
  points = is.points;
  heap_low = is.heap_low;
  seed = is.seed;
  places = is.places;
  few_kinds = is.few_kinds;
  kinds = is.kinds;
}

second_point : (h : Head) (unit : ℕ) (p : Point) → IsPoint h unit p → IsPoint (record h { version = 2 }) unit p
second_point h unit p is = record {
  unit = is.unit;
  pc = is.pc;
  registers = is.registers;
  count = is.count;
  fit = is.fit;
  brk = is.brk;
  words = is.words;
  few = is.few;
  places = is.places;
  images = is.images;
}

pub second_points :
    (h : Head) (points : List Point) → Follow (λ before. IsPoint h (unit_of h (length before))) [] points
    → Follow (λ before. IsPoint (record h { version = 2 }) (unit_of (record h { version = 2 }) (length before))) [] points
second_points h points are =
    follow_weaker (λ before. IsPoint h (unit_of h (length before)))
    (λ before. IsPoint (record h { version = 2 }) (unit_of (record h { version = 2 }) (length before)))
    (λ before p is. second_point h (unit_of h (length before)) p is) [] points are

second_whole :
    (l : Whole) (shared : List (ℕ × ℕ)) → IsWhole l → Follow (IsPair ranks) [] shared
    → IsWhole (record { head = record l.head { version = 2 }; shared = shared; points = l.points })
second_whole l shared is are = record {
  header = second_header l.head is.header;
  table = are;
  count = is.count;
  points = second_points l.head l.points is.points;
}

parts_are : (new : Whole) (head : Head) (points : List Point) → new.head ≡ head → new.points ≡ points
    → new ≡ record { head = head; shared = new.shared; points = points }
parts_are new head points same known = λ i. record { head = same i; shared = new.shared; points = known i }

pub migrated_whole : (old new : Whole) → IsWhole old → IsMigrated old new → IsWhole new
migrated_whole old new is from =
    rw (parts_are new _ _ from.head from.points) (second_whole old new.shared is from.shared.order)

pub migrated_one : (old new other : Whole) → IsMigrated old new → IsMigrated old other → new ≡ other
migrated_one old new other one two =
    let head : new.head ≡ other.head = one.head ∙ sym two.head in
    let shared : new.shared ≡ other.shared = sharing_is_one old.points new.shared other.shared one.shared two.shared in
    let points : new.points ≡ other.points = one.points ∙ sym two.points in
    λ i. record { head = head i; shared = shared i; points = points i }

-- a migrated library is what it becomes
stays : (old new : Whole) → IsMigrated old new → IsMigrated new new
stays old new from = record {
  head = from.head ∙ ap (λ (h : Head). record h { version = 2 }) (sym from.head);
  shared = rw from.points from.shared;
  points = refl;
}

pub migrated_again : (old new other : Whole) → IsMigrated old new → IsMigrated new other → other ≡ new
migrated_again old new other first next = migrated_one new other new next (stays old new first)
