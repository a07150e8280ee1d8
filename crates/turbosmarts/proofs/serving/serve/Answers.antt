use Rattle.std.proofs.Common.{◌≡◌}
use Rattle.turbosmarts.proofs.EndingLemmas.{answered_given}
use Rattle.turbosmarts.proofs.serving.serve.Goals as goal

pub returns-clause-ends : goal.returns-clause-ends
returns-clause-ends g c = record {
  answered = λ a. answered_given c.args.command.now _ _ c.answer-answer.result _ _ c.answer-answer.ensures.served
      c.give.ensures.gives c.give.ensures.lines (c.give.ensures.answered a);
  read_asked = λ e. c.answer-answer.ensures.asked (c.give.ensures.read_fault e);
  read_cause = λ e. c.answer-answer.ensures.failed (c.give.ensures.read_fault e);
  write_cause = c.give.ensures.write_cause;
  unwritten = c.give.ensures.unwritten;
  unread = c.answer-answer.ensures.unread;
  unread_count = c.answer-answer.ensures.unread_count;
  told_fault = c.give.ensures.told_fault;
}
