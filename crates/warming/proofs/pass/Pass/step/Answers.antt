use Rattle.std.proofs.Common.{◌≡◌, ◌+◌, refl, arith}
use Rattle.warming.proofs.PassingLemmas.{goes, never_traps, early, passing_more}
use Rattle.warming.proofs.pass.Pass.step.Goals as goal

pub advance-requires : goal.advance-requires
advance-requires c = (goes c.args.self.now (c.args.self.now.at + 1) (omega arith) c.requires).running

pub unreachable-requires : goal.unreachable-requires
unreachable-requires c =
    let step = rw c.in-Err-Trap.field-0-is at c.in-Err-Trap.ensures.advances in
    never_traps c.args.self.now.whole.state c.in-Err-Trap.field-0-0.kind
    (goes c.args.self.now (c.args.self.now.at + 1) (omega arith) c.requires) step.0

pub learn-requires-clause-early : goal.learn-requires-clause-early
learn-requires-clause-early c = early c.args.self.now (c.args.self.now.at + 1) (omega arith) c.requires

pub returns-clause-passing : goal.returns-clause-passing
returns-clause-passing c = λ start records begins before.
    passing_more start records begins c.args.self.now _ c.in-Ok.event
    (record {
      running = (goes c.args.self.now (c.args.self.now.at + 1) (omega arith) c.requires).running;
      went = c.in-Ok.ensures.advances.0;
      at = refl;
      learnt = c.learn.ensures;
      noted = c.in_ok-note.ensures;
    }) before
