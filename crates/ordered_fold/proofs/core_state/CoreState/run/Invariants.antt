use Rattle.std.proofs.Common.{◌≡◌, drop, fold}
use Rattle.ordered_fold.specs.Machine.{core_step}
use Rattle.ordered_fold.proofs.core_state.CoreState.run.Given as goal

-- what is left to do leads to the same as all from the start
abbrev pub invariant-loop-event : goal.invariant-loop-event
invariant-loop-event l = record {
  start : l.self.start ≡ l.fn.self.start;
  answers : l.self.answers ≡ l.fn.self.answers;
  run : fold (core_step l.fn.self.start l.fn.self.answers) l.self.core (drop l.event-index l.events)
      ≡ fold (core_step l.fn.self.start l.fn.self.answers) l.fn.self.core l.events;
}
