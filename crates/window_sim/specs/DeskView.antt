-- What a desk keeps from window to window.
use Rattle.std.specs.Prelude.{◌≡◌, ◌≤◌, ◌+◌, ◌*◌, ℕ, []}
use Rattle.desk_region.specs.Region.{RegionValue}
use Rattle.sample_design.specs.declared.design.Design.{Design}
use Rattle.window_sim.specs.Built.{IsReady}
use Rattle.window_sim.specs.Desk.{Setup, IsServed}
use Rattle.window_sim.specs.declared.desk.Desk.TheInside.{Inside}

abbrev pub setup_of : Inside → Setup
setup_of fields = record { header = fields.header.now; config = fields.config.now }

-- the region isn't in use, and has room for the longest window of the design. Each of its instructions touches at
-- most two words of memory, which take four slots, and its marks take two words; beside them lies the scratch
pub record HasRoom (design : Design) (scratch : ℕ) (region : RegionValue) : Type 0 where
  pub free : region.words ≡ []
  pub size : 6 * (design.warm + design.unit) + scratch ≤ region.size

pub record IsDesk (fields : Inside) : Type 0 where
  pub served : IsServed (setup_of fields)
  pub ready : IsReady fields.config.now fields.engine.warm fields.engine.ruu.widths
  pub room : HasRoom fields.header.now.design fields.scratch fields.region
