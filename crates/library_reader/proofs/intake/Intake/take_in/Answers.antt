use Rattle.std.proofs.Common.{rules, sym, ap, ◌∙◌, arith}
use Rattle.library_reader.specs.Reader.{came_in}
use Rattle.library_reader.proofs.IntakeLemmas.{came_more, finished, stepped_fed, too_many}
use Rattle.library_reader.proofs.intake.Intake.take_in.Goals as goal

pub invariant_of-self : goal.invariant_of-self
invariant_of-self g c = record {
  count = c.self.invariant.count ∙ ap came_in (sym c.in_err-count.ensures.kept);
  most = c.self.invariant.most;
  room = search rules;
}

pub invariant_of-self-then-count-eq0 : goal.invariant_of-self-then-count-eq0
invariant_of-self-then-count-eq0 g c = record {
  count = c.self.invariant.count ∙ ap came_in (sym (c.in_ok-count.ensures.given.2.none_came (omega arith)));
  most = c.self.invariant.most;
  room = search rules;
}

pub returns-then-count-eq0-clause-stepped : goal.returns-then-count-eq0-clause-stepped
returns-then-count-eq0-clause-stepped g c =
    let given = c.in_ok-count.ensures.given in
    finished c.finish.result c.args.self.now c.fill.new.reader c.finish.new.self _ _ given.0 c.finish.ensures.part
    (given.2.none_came (omega arith) ∙ c.self.view_is) c.requires
    (omega (arith, c.self.invariant.count, c.self.invariant.most, ap came_in c.self.view_is))
    (omega (arith, given.2.count_is)) given.1 (c.in_ok-count.ensures.end (omega arith))

pub invariant_of-self-then-count-room : goal.invariant_of-self-then-count-room
invariant_of-self-then-count-room g c = record {
  count = c.self.invariant.count ∙ ap came_in (sym (c.in_ok-count.ensures.given.2.over (omega arith)));
  most = c.self.invariant.most;
  room = search rules;
}

pub returns-then-count-room-clause-stepped : goal.returns-then-count-room-clause-stepped
returns-then-count-room-clause-stepped g c =
    let given = c.in_ok-count.ensures.given in
    too_many c.args.self.now c.args.self.now _ _ given.0 _ given.1
    (omega (arith, given.2.count_is, c.self.invariant.count, ap came_in c.self.view_is))
    (search rules)

pub invariant_of-self-2 : goal.invariant_of-self-2
invariant_of-self-2 g c =
    let given = c.in_ok-count.ensures.given in
    record {
      count = omega (arith, c.self.invariant.count, came_more c.in_ok-count.count _ given.0 c.self.inside.reader c.fill.new.reader given.2 (omega arith) (omega arith));
      most = omega (arith, c.self.invariant.most);
      room = search rules;
    }

pub returns-clause-stepped : goal.returns-clause-stepped
returns-clause-stepped g c =
    let given = c.in_ok-count.ensures.given in
    rw (← c.self.view_is)
    (stepped_fed c.in_ok-count.count _ given.0 c.self.inside.reader c.fill.new.reader _ _ given.2 (omega arith) (omega arith)
    (omega (arith, c.self.invariant.count, c.self.invariant.most)) given.1)
