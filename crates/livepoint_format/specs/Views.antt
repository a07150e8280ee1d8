-- Headers and libraries as the values that their bytes tell.
use Rattle.std.specs.Prelude.{◌<◌, ◌^◌, [], length}
use Rattle.live_points.specs.declared.header.Header.{Header}
use Rattle.live_words.specs.Follow.{Follow}
use Rattle.live_words.specs.Words.{IsPair}
use Rattle.livepoint_format.specs.declared.shared.Shared.TheInside.{Inside as SharedInside}
use Rattle.livepoint_format.specs.declared.words.WordParts.{WordParts}
use Rattle.livepoint_format.specs.Shared.{Parts}
use Rattle.livepoint_format.specs.Values.{Head}
use Rattle.live_points.specs.Sharing.{ranks}

-- the budget isn't told
abbrev pub head_of : Header → Head
head_of h = record {
  version = h.version;
  instructions = h.length;
  points = h.points;
  unit = h.design.unit;
  warm = h.design.warm;
  every = h.design.every;
  offset = h.design.offset;
  heap_low = h.heap_low;
  seed = h.design.seed;
  places = h.records.places;
  kinds = h.records.kinds;
}

-- pairs in order, fewer than a number can count
pub record IsSharedTable (fields : SharedInside) : Type 0 where
  pub ranked : Follow (IsPair ranks) [] fields.pairs.items
  pub few : length fields.pairs.items < 2 ^ 32

abbrev pub parts_view : WordParts → Parts
parts_view p = record { own = p.own.items; runs = p.runs.items }
