use Rattle.ruu_timing.proofs.KeptLemmas.{kept_none}
use Rattle.ruu_timing.proofs.flight.Flight.restart.Goals as goal

pub returns : goal.returns
returns c =
    let slots = c.clear.ensures.slots in
    let size = c.next_start-self.ensures.size in
    kept_none c.args.w.now c.clear.new.self c.requires.widths c.clear.ensures.cleared (rw (slots, size) c.requires.flight.power)
    (rw (slots, size) c.requires.flight.wide) (rw (slots, size) c.requires.flight.size)
    (rw (slots, c.clear.ensures.start) c.next_start-self.ensures.before)
    (rw slots c.next_start-self.ensures.sevens) (rw c.clear.ensures.start c.next_start-self.ensures.start)
