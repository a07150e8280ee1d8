-- Words in a region.
use Rattle.std.specs.Prelude.{ℕ, List, ◌++◌}
use Rattle.desk_region.specs.Region.{RegionValue}

-- with these more in use
abbrev pub with_more : RegionValue → List ℕ → RegionValue
with_more region words = record region { words = region.words ++ words }
