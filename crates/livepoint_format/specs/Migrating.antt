-- A library of either version as one of version 2.
use Rattle.std.specs.Prelude.{◌≡◌}
use Rattle.live_points.specs.Sharing.{IsSharing}
use Rattle.livepoint_format.specs.Values.{Whole}
use Rattle.livepoint_format.specs.Format.{IsWhole}

-- in version 2, with the pairs that its points share for its table, and all else as it was
pub record IsMigrated (old new : Whole) : Type 0 where
  pub head : new.head ≡ record old.head { version = 2 }
  pub shared : IsSharing old.points new.shared
  pub points : new.points ≡ old.points

pub record Migrations : Type 0 where
  -- what a library becomes is one of the grammar, and there is only one such
  pub whole : (old new : Whole) → IsWhole old → IsMigrated old new → IsWhole new
  pub one : (old new other : Whole) → IsMigrated old new → IsMigrated old other → new ≡ other
  -- once more changes nothing
  pub again : (old new other : Whole) → IsMigrated old new → IsMigrated new other → other ≡ new
