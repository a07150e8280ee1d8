use Rattle.std.proofs.Common.{ℕ, List}
use Rattle.turbosmarts.specs.Telling.{TakesFront}
use Rattle.turbosmarts.proofs.EndingLemmas.{determined_answered, done_answered, cut_answered, has_told, told_status, told_written, told_done, told_front, told_short, told_read, told_lines}
use Rattle.turbosmarts.proofs.top.turbosmarts.Goals as goal

pub returns-clause-answered : goal.returns-clause-answered
returns-clause-answered g c = λ a.
    has_told _ _ _ _ _
    (λ (text : List ℕ). TakesFront text (g.F.Sink.taken c.args.lines.now) (g.F.Sink.taken c.tell.new.lines) (g.F.Sink.faults c.args.lines.now) (g.F.Sink.faults c.tell.new.lines))
    (c.end_of-end.ensures.ends.answered a) (rw c.text-length.ensures.text at c.tell.ensures)

pub returns-clause-status : goal.returns-clause-status
returns-clause-status g c = λ d.
    told_status _ _ _ _ _ (c.end_of-end.ensures.ends.answered (determined_answered _ d)) d

pub returns-clause-written : goal.returns-clause-written
returns-clause-written g c = λ d.
    told_written _ _ _ _ _ (c.end_of-end.ensures.ends.answered (determined_answered _ d)) d

pub returns-clause-write_done : goal.returns-clause-write_done
returns-clause-write_done g c = λ taken e.
    told_done _ _ _ _ _ (c.end_of-end.ensures.ends.answered (cut_answered _ taken e)) taken e

pub returns-clause-write_front : goal.returns-clause-write_front
returns-clause-write_front g c = λ taken e.
    told_front _ _ _ _ _ (c.end_of-end.ensures.ends.answered (cut_answered _ taken e)) taken e

pub returns-clause-write_short : goal.returns-clause-write_short
returns-clause-write_short g c = λ taken e.
    told_short _ _ _ _ _ (c.end_of-end.ensures.ends.answered (cut_answered _ taken e)) taken e

pub returns-clause-read : goal.returns-clause-read
returns-clause-read g c = λ a. told_read _ _ _ _ _ (c.end_of-end.ensures.ends.answered a)

pub returns-clause-lines_done : goal.returns-clause-lines_done
returns-clause-lines_done g c = λ e.
    let has = has_told _ _ _ _ _
    (λ (text : List ℕ). TakesFront text (g.F.Sink.taken c.args.lines.now) (g.F.Sink.taken c.tell.new.lines) (g.F.Sink.faults c.args.lines.now) (g.F.Sink.faults c.tell.new.lines))
    (c.end_of-end.ensures.ends.answered (done_answered _ e)) (rw c.text-length.ensures.text at c.tell.ensures) in
    told_lines _ _ _ _ _ has e
