-- The configurations that a processor may have, and what is wrong with another.
use Rattle.std.specs.Prelude.{◌≡◌, ◌≤◌, ◌<◌}
use Rattle.lru_plain.specs.Shape.{Shape, IsShape}
use Rattle.predictor.specs.Kind.{IsKind}
use Rattle.hierarchy.specs.declared.config.Config.{Config}
use Rattle.hierarchy.specs.declared.config.ConfigFault.{ConfigFault}
use Rattle.hierarchy.specs.declared.config.ConfigFault.TheVariants.{OutOfRange, LsqOverRuu}
use Rattle.hierarchy.specs.declared.places.Places.{Places}
use Rattle.hierarchy.specs.declared.widths.Widths.{Widths}
use Rattle.hierarchy.specs.Widths.{AreWidths, AreLatencies}

-- a cache has lines of 16 to 256 bytes
pub record IsCacheShape (g : Shape) : Type 0 where
  pub shape : IsShape g
  pub line : g.line_log ≤ 8

-- a TLB has pages of 4096 bytes
pub record IsTlbShape (g : Shape) : Type 0 where
  pub shape : IsShape g
  pub page : g.line_log ≡ 12

pub record ArePlaces (places : Places Shape) : Type 0 where
  pub l1i : IsCacheShape places.l1i
  pub l1d : IsCacheShape places.l1d
  pub l2 : IsCacheShape places.l2
  pub itlb : IsTlbShape places.itlb
  pub dtlb : IsTlbShape places.dtlb

-- each width is in its own range, whichever of the unit and the queue is larger: the others are
-- fine with the smallest queue, which no unit is smaller than
pub record AreInRange (w : Widths) : Type 0 where
  pub others : AreWidths (record w { lsq = 2 })
  pub lsq : (2 ≤ w.lsq) × (w.lsq ≤ 128)

-- each field is in its own range
pub record IsInRange (c : Config) : Type 0 where
  pub places : ArePlaces c.places
  pub predictor : IsKind c.kind
  pub widths : AreInRange c.widths
  pub latencies : AreLatencies c.latencies

-- a configuration that can be used
pub record IsConfig (c : Config) : Type 0 where
  pub places : ArePlaces c.places
  pub predictor : IsKind c.kind
  pub widths : AreWidths c.widths
  pub latencies : AreLatencies c.latencies

-- the fault is the first that the configuration has
abbrev pub IsFirstFault : Config → ConfigFault → Type 0
IsFirstFault c OutOfRange = ¬ IsInRange c
IsFirstFault c LsqOverRuu = IsInRange c × (c.widths.ruu < c.widths.lsq)
