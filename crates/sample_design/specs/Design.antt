-- What a usable design is, and what is wrong with another.
use Rattle.std.specs.Prelude.{◌^◌, ◌<◌, ◌≤◌}
use Rattle.sample_design.specs.declared.design.Design.{Design}
use Rattle.sample_design.specs.declared.design.DesignCheck.{DesignCheck}
use Rattle.sample_design.specs.declared.design.DesignCheck.TheVariants.{OutOfRange, OffsetNotBelowEvery}

-- each number is in its range
pub record IsInRange (design : Design) : Type 0 where
  pub unit_least : 16 ≤ design.unit
  pub unit_most : design.unit ≤ 10000
  pub warm_most : design.warm ≤ 100000
  pub every_least : 1 ≤ design.every
  pub every_most : design.every ≤ 1000000
  pub offset_most : design.offset ≤ 999999
  pub seed_most : design.seed ≤ 10 ^ 18
  pub budget_least : 1 ≤ design.budget
  pub budget_most : design.budget ≤ 2 ^ 36

pub record IsUsable (design : Design) : Type 0 where
  pub ranges : IsInRange design
  pub offset : design.offset < design.every

-- the fault is the first that the design has
abbrev pub IsFirstFault : Design → DesignCheck → Type 0
IsFirstFault design OutOfRange = ¬ IsInRange design
IsFirstFault design OffsetNotBelowEvery = IsInRange design × (design.every ≤ design.offset)
