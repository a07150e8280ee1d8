use Rattle.std.proofs.Common.{◌≡◌, ◌*◌, length, take, All}
use Rattle.hierarchy.specs.Marked.{IsMarked}
use Rattle.hierarchy.specs.Trace.{IsAnnotated}
use Rattle.rv_exec.specs.Machine.{state}
use Rattle.window_sim.specs.Built.{IsBuilt}
use Rattle.window_sim.specs.Marks.{marks_in}
use Rattle.window_sim.proofs.running.run_window.Given as goal

abbrev pub invariant-loop-i : goal.invariant-loop-i
invariant-loop-i g l = record {
  sound : g.M.Memory.sound l.memory;
  built : IsBuilt l.config l.warm;
  room : length l.words ≡ 2 * l.len;
  marked : All IsMarked (marks_in (take (2 * l.i) l.words));
  annotated : IsAnnotated l.config.latencies l.fn.warm
      (state l.fn.core (g.M.Memory.words l.fn.memory) (g.M.Memory.buffers l.fn.memory)) l.i
      (marks_in (take (2 * l.i) l.words))
      (state l.core (g.M.Memory.words l.memory) (g.M.Memory.buffers l.memory)) l.warm;
}
