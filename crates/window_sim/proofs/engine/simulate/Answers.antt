use Rattle.std.proofs.Common.{arith, ◌∙◌, ◌+◌}
use Rattle.window_sim.specs.HeldAnswers.{window_sized}
use Rattle.window_sim.proofs.AnswersLemmas.{packed_trace, window_timed, window_faulted}
use Rattle.window_sim.proofs.engine.simulate.Goals as goal

pub time-cycles-requires-clause-trace : goal.time-cycles-requires-clause-trace
time-cycles-requires-clause-trace c =
    (packed_trace c.run_window.new.words c.args.window (c.args.header.now.design.warm + c.args.header.now.design.unit)
    (rw c.requires.window (window_sized c.args.header.now.design c.args.point.now.unit c.requires.served.design))
    (c.run_window.auto.words ∙ c.requires.marks) c.in-Ok.ensures.marked).0

pub overflow_cast-result : goal.overflow_cast-result
overflow_cast-result c =
    let packed =
    packed_trace c.run_window.new.words c.args.window (c.args.header.now.design.warm + c.args.header.now.design.unit)
    (rw c.requires.window (window_sized c.args.header.now.design c.args.point.now.unit c.requires.served.design))
    (c.run_window.auto.words ∙ c.requires.marks) c.in-Ok.ensures.marked in
    omega (arith, c.time-cycles.ensures.most packed.1)

pub returns-in-Ok-clause-answer : goal.returns-in-Ok-clause-answer
returns-in-Ok-clause-answer c =
    let core = c.core_at-core.ensures in
    window_timed c.args.header.now c.args.config.now c.args.point.now c.args.window _ c.core_at-core.result _ _ _
    c.requires.window c.warm.ensures.state
    (record {
      pc = core.pc;
      regs = core.regs;
      brk = core.brk;
      heap_low = core.heap_low;
      exit = core.exit;
      words_are = c.over-memory.ensures.words;
    })
    c.in-Ok.ensures.trace c.time-cycles.ensures.cycles

pub returns-in-Err-clause-answer : goal.returns-in-Err-clause-answer
returns-in-Err-clause-answer c =
    let core = c.core_at-core.ensures in
    window_faulted c.args.header.now c.args.config.now c.args.point.now c.args.window _ c.core_at-core.result _ _
    c.requires.window c.warm.ensures.state
    (record {
      pc = core.pc;
      regs = core.regs;
      brk = core.brk;
      heap_low = core.heap_low;
      exit = core.exit;
      words_are = c.over-memory.ensures.words;
    })
    c.in-Err.ensures.trace
