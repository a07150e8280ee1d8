-- The widths and latencies that a processor may have.
use Rattle.std.specs.Prelude.{◌≤◌}
use Rattle.hierarchy.specs.declared.widths.Widths.{Widths}
use Rattle.hierarchy.specs.declared.widths.Latencies.{Latencies}

-- each width is in its range, and the load and store queue is no larger than the register update unit
pub record AreWidths (w : Widths) : Type 0 where
  pub fetch : (1 ≤ w.fetch) × (w.fetch ≤ 8)
  pub dispatch : (1 ≤ w.dispatch) × (w.dispatch ≤ 8)
  pub issue : (1 ≤ w.issue) × (w.issue ≤ 8)
  pub retire : (1 ≤ w.retire) × (w.retire ≤ 8)
  pub queue : (1 ≤ w.queue) × (w.queue ≤ 32)
  pub ruu : (4 ≤ w.ruu) × (w.ruu ≤ 256)
  pub lsq : (2 ≤ w.lsq) × (w.lsq ≤ 128)
  pub lsq_within : w.lsq ≤ w.ruu
  pub penalty : (1 ≤ w.penalty) × (w.penalty ≤ 64)
  pub forward : (1 ≤ w.forward) × (w.forward ≤ 16)
  pub alus : (1 ≤ w.alus) × (w.alus ≤ 8)
  pub muls : (1 ≤ w.muls) × (w.muls ≤ 8)
  pub divs : (1 ≤ w.divs) × (w.divs ≤ 8)
  pub loads : (1 ≤ w.loads) × (w.loads ≤ 8)
  pub stores : (1 ≤ w.stores) × (w.stores ≤ 8)
  pub branches : (1 ≤ w.branches) × (w.branches ≤ 8)

-- each latency is in its range
pub record AreLatencies (l : Latencies) : Type 0 where
  pub mul : (1 ≤ l.mul) × (l.mul ≤ 16)
  pub div : (1 ≤ l.div) × (l.div ≤ 64)
  pub l1 : (1 ≤ l.l1) × (l.l1 ≤ 16)
  pub l2 : (1 ≤ l.l2) × (l.l2 ≤ 100)
  pub mem : (1 ≤ l.mem) × (l.mem ≤ 1000)
  pub tlb : l.tlb ≤ 200
