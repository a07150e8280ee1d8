use Rattle.std.proofs.Common.{sym, ap, ◌∙◌, refl, arith}
use Rattle.rv_exec.specs.Machine.{State}
use Rattle.turbosmarts.proofs.IsPartLemmas.{part_begins, part_goes_on, part_exits, part_traps, part_full, events_more}
use Rattle.turbosmarts.proofs.measuring.run_part.Goals as goal

pub loop-done-init : goal.loop-done-init
loop-done-init g c = record {
  running = c.requires.running;
  config = refl;
  longest = refl;
  way = λ start at begun way. part_begins _ _ _ _ _ refl way;
}

pub returns-in-Err-Trap-clause-part : goal.returns-in-Err-Trap-clause-part
returns-in-Err-Trap-clause-part g c = λ start at begun way.
    let step = rw c.in-Err-Trap.field-0-is at c.in-Err-Trap.ensures.advances in
    let same = rw c.in-Err-Trap.field-0-is at c.in-Err-Trap.ensures.unchanged in
    rw same (part_traps _ _ _ _ _ _ _ _ (c.loop-done.invariant.way start at begun way) step c.loop-done-test.true)

pub returns-in-Some-clause-part : goal.returns-in-Some-clause-part
returns-in-Some-clause-part g c = λ start at begun way.
    let before = c.loop-done.invariant.way start at begun way in
    let exit = sym (ap (λ (s : State). s.exit) c.core.ensures) ∙ c.in-Some.is in
    let step = c.in-Ok.ensures.advances in
    let shown = g.met.P.Processor.is_shown _ _ _ step.shown in
    let more = events_more _ _ _ _ _ _ before step.advances in
    let sees = shown.2 step.well_formed begun _ before.shown.shown in
    part_exits _ _ _ _ _ _ _ _ _ _ before step.advances exit c.loop-done-test.true (rw more sees)

pub loop-done-preserved : goal.loop-done-preserved
loop-done-preserved g c =
    let running = sym (ap (λ (s : State). s.exit) c.core.ensures) ∙ c.in_default.is in
    let step = c.in-Ok.ensures.advances in
    let shown = g.met.P.Processor.is_shown _ _ _ step.shown in
    record {
      running = running;
      config = shown.0 ∙ c.loop-done.invariant.config;
      longest = shown.1 ∙ c.loop-done.invariant.longest;
      way = λ start at begun way.
          let before = c.loop-done.invariant.way start at begun way in
          let more = events_more _ _ _ _ _ _ before step.advances in
          let sees = shown.2 step.well_formed begun _ before.shown.shown in
          part_goes_on _ _ _ _ _ _ _ _ before step.advances running (rw more sees);
    }

pub returns-clause-part : goal.returns-clause-part
returns-clause-part g c = λ start at begun way.
    part_full _ _ _ _ _ _ (c.loop-done.invariant.way start at begun way) (omega arith)

pub advance_watched-requires-clause-watch : goal.advance_watched-requires-clause-watch
advance_watched-requires-clause-watch g c =
    g.met.P.Processor.can_watch _ (rw c.loop-done.invariant.config c.requires.config)
