use Rattle.std.proofs.Common.{◌≡◌, ◌≤◌, ◌<◌, ◌*◌, ◌+◌, min, arith, refl, ◌∙◌}
use Rattle.rv_machine.proofs.UnderWayLemmas.{is_spent}
use Rattle.turbosmarts.proofs.IsMeasuringLemmas.{measuring_start}
use Rattle.turbosmarts.proofs.IsPartLemmas.{come_first, unit_begins}
use Rattle.turbosmarts.proofs.BudgetLemmas.{in_loop, after_loop, come_kept, units_at_exit, exited_in, trapped_in, way_on, units_on, part_shown}
use Rattle.turbosmarts.proofs.ProcessorLemmas.{can_tell}
use Rattle.turbosmarts.proofs.measuring.measure.Goals as goal

pub loop-unit-init : goal.loop-unit-init
loop-unit-init g c =
    let none : min (0 * c.args.design.now.unit) c.args.design.now.budget ≡ 0 = omega arith in
    record {
      begun = 0;
      way = rw none (come_first (g.P.Processor.shown c.args.processor.now) _ c.requires.running c.requires.shown);
      units = λ h.
          rw (c.new-meter.ensures.next, c.new-meter.ensures.cycles)
          (measuring_start _ _ _ c.requires.design.ranges.offset_most);
      size_is = c.from-size.ensures;
      config = refl;
      longest = refl;
    }

pub take-requires-clause-shown : goal.take-requires-clause-shown
take-requires-clause-shown g c = λ whole.
    let size = c.from-size.ensures in
    let some : 0 < c.args.design.now.unit = omega (arith, c.requires.design.ranges.unit_least) in
    let below = in_loop _ _ _ _ _ size c.div_ceil-unit-end.ensures some c.loop-unit-test.true in
    let begins = unit_begins (g.P.Processor.shown c.loop-unit.processor) (g.P.Processor.shown c.begin_unit.new.self) _ _ _ _ c.loop-unit.invariant.way c.begin_unit.ensures.shown in
    let part = c.in_ok-part.ensures.part _ _ _ begins in
    let longest = c.in_ok-part.ensures.longest ∙ c.begin_unit.ensures.longest ∙ c.loop-unit.invariant.longest in
    can_tell _ _ _ _ _ _ c.requires.design (rw longest c.requires.longest) whole
    (part_shown (g.P.Processor.shown c.run_part.new.processor) _ _ _ _ _ below part.shown)

pub returns-in-Exited-clause-outcome : goal.returns-in-Exited-clause-outcome
returns-in-Exited-clause-outcome g c =
    let size = c.from-size.ensures in
    let some : 0 < c.args.design.now.unit = omega (arith, c.requires.design.ranges.unit_least) in
    let below = in_loop _ _ _ _ _ size c.div_ceil-unit-end.ensures some c.loop-unit-test.true in
    let begins = unit_begins (g.P.Processor.shown c.loop-unit.processor) (g.P.Processor.shown c.begin_unit.new.self) _ _ _ _ c.loop-unit.invariant.way c.begin_unit.ensures.shown in
    let part = c.in_ok-part.ensures.part _ _ _ begins in
    let ends = rw c.in-Exited.is at part.ends in
    rw c.from.ensures (exited_in c.args.whole.now _ _ _ _ _ _ _ size below c.min-len.ensures part.ran ends)

pub returns-in-Exited-clause-units : goal.returns-in-Exited-clause-units
returns-in-Exited-clause-units g c = λ code len same.
    let size = c.from-size.ensures in
    let some : 0 < c.args.design.now.unit = omega (arith, c.requires.design.ranges.unit_least) in
    let below = in_loop _ _ _ _ _ size c.div_ceil-unit-end.ensures some c.loop-unit-test.true in
    let begins = unit_begins (g.P.Processor.shown c.loop-unit.processor) (g.P.Processor.shown c.begin_unit.new.self) _ _ _ _ c.loop-unit.invariant.way c.begin_unit.ensures.shown in
    let part = c.in_ok-part.ensures.part _ _ _ begins in
    let within : c.in_ok-part.part.ran ≤ c.args.design.now.unit = omega (arith, part.ran, c.min-len.ensures) in
    let config = c.in_ok-part.ensures.config ∙ c.begin_unit.ensures.config ∙ c.loop-unit.invariant.config in
    let units = rw (← config) at (c.loop-unit.invariant.units (omega arith)) in
    let measured = rw config at (c.in_ok-take.ensures.measured _ units (part_shown (g.P.Processor.shown c.run_part.new.processor) _ _ _ _ _ below part.shown)) in
    let is : c.loop-unit.unit * c.from-size.result + c.from.result ≡ len = cc in
    rw c.into_cycles.ensures
    (units_at_exit _ _ _ _ _ _ _ _ _ size some within measured (rw (← c.from.ensures) is))

pub returns-in-Trapped-clause-outcome : goal.returns-in-Trapped-clause-outcome
returns-in-Trapped-clause-outcome g c =
    let size = c.from-size.ensures in
    let some : 0 < c.args.design.now.unit = omega (arith, c.requires.design.ranges.unit_least) in
    let below = in_loop _ _ _ _ _ size c.div_ceil-unit-end.ensures some c.loop-unit-test.true in
    let begins = unit_begins (g.P.Processor.shown c.loop-unit.processor) (g.P.Processor.shown c.begin_unit.new.self) _ _ _ _ c.loop-unit.invariant.way c.begin_unit.ensures.shown in
    let part = c.in_ok-part.ensures.part _ _ _ begins in
    let ends = rw c.in-Trapped.is at part.ends in
    rw c.from.ensures (trapped_in c.args.whole.now _ _ _ _ _ _ _ size below c.min-len.ensures ends.0 ends.1)

pub loop-unit-preserved : goal.loop-unit-preserved
loop-unit-preserved g c =
    let size = c.from-size.ensures in
    let some : 0 < c.args.design.now.unit = omega (arith, c.requires.design.ranges.unit_least) in
    let below = in_loop _ _ _ _ _ size c.div_ceil-unit-end.ensures some c.loop-unit-test.true in
    let begins = unit_begins (g.P.Processor.shown c.loop-unit.processor) (g.P.Processor.shown c.begin_unit.new.self) _ _ _ _ c.loop-unit.invariant.way c.begin_unit.ensures.shown in
    let part = c.in_ok-part.ensures.part _ _ _ begins in
    let ends = rw c.in-Full.is at part.ends in
    let config = c.in_ok-part.ensures.config ∙ c.begin_unit.ensures.config ∙ c.loop-unit.invariant.config in
    let longest = c.in_ok-part.ensures.longest ∙ c.begin_unit.ensures.longest ∙ c.loop-unit.invariant.longest in
    let units = rw (← config) at (c.loop-unit.invariant.units (omega arith)) in
    let measured = rw config at (c.in_ok-take.ensures.measured _ units (part_shown (g.P.Processor.shown c.run_part.new.processor) _ _ _ _ _ below part.shown)) in
    record {
      begun = min (c.loop-unit.unit * c.args.design.now.unit) c.args.design.now.budget;
      way = way_on _ _ _ _ _ _ _ _ size below c.min-len.ensures (come_kept (g.P.Processor.shown c.run_part.new.processor) (g.P.Processor.shown c.take.new.processor) _ _ _ _ ends.1 c.in_ok-take.ensures.shown);
      units = λ within. units_on _ _ _ _ _ _ _ _ _ size c.min-len.ensures ends.0 measured within;
      size_is = size;
      config = c.in_ok-take.ensures.config ∙ config;
      longest = c.in_ok-take.ensures.longest ∙ longest;
    }

pub returns-clause-outcome : goal.returns-clause-outcome
returns-clause-outcome g c =
    let some : 0 < c.args.design.now.unit = omega (arith, c.requires.design.ranges.unit_least) in
    is_spent _ _ _ _ c.loop-unit.invariant.way.way
    (after_loop _ _ _ _ _ c.from-size.ensures c.div_ceil-unit-end.ensures some c.loop-unit-test.false)
