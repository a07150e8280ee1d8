use Rattle.std.proofs.Common.{subst}
use Rattle.ruu_timing.specs.Flight.{IsNoted}
use Rattle.ruu_timing.specs.Times.{timed_of}
use Rattle.ruu_timing.proofs.KeptLemmas.{kept_next}
use Rattle.ruu_timing.proofs.flight.Flight.push_one.Goals as goal

pub returns-clause-kept : goal.returns-clause-kept
returns-clause-kept c = λ earlier kept few.
    let noted : IsNoted c.args.w.now c.args.self.now c.note.new.self (timed_of c.args.w.now earlier c.args.mark.now) =
    subst (λ x. IsNoted c.args.w.now c.args.self.now c.note.new.self x) (c.cycles_of-cycles.ensures.value earlier kept) c.note.ensures in
    kept_next c.args.w.now earlier c.args.mark.now c.args.self.now c.note.new.self c.requires.widths c.requires.mark few kept noted
