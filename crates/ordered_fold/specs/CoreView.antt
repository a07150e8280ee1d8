-- What the fields of a machine with its answers stand for.
use Rattle.ordered_fold.specs.declared.core_state.CoreState.TheInside.{Inside}
use Rattle.ordered_fold.specs.CoreRun.{CoreRun}
use Rattle.ordered_fold.specs.MachineView.{core_of}

abbrev pub core_run_of : Inside → CoreRun
core_run_of fields = record {
  start = fields.start;
  answers = fields.answers.items;
  core = core_of fields.machine;
}
