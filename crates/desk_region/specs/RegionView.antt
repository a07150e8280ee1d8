-- A region whose words in use are a vector's.
use Rattle.std.specs.Prelude.{◌≤◌, vec_len, vec_capacity}
use Rattle.desk_region.specs.declared.region.Region.TheInside.{Inside}
use Rattle.desk_region.specs.Region.{RegionValue}

abbrev pub region_of : Inside → RegionValue
region_of fields = record { words = fields.words.items; size = fields.size }

-- there is room for all words
pub record HasRoom (fields : Inside) : Type 0 where
  pub within : vec_len fields.words ≤ fields.size
  pub room : fields.size ≤ vec_capacity fields.words
