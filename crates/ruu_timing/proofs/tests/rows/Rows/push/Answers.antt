use Rattle.std.proofs.Common.{◌≡◌, ◌<◌, ◌∷◌, List, length, reverse, arith}
use Rattle.std.proofs.lemmas.List.{reverse-append}
use Rattle.ruu_timing.specs.declared.timed.Timed.{Timed}
use Rattle.ruu_timing.specs.Timed.{AreTimed}
use Rattle.ruu_timing.specs.Times.{timed_of}
use Rattle.ruu_timing.proofs.TimedLemmas.{next_timed}
use Rattle.ruu_timing.proofs.tests.rows.Rows.push.Goals as goal

pub invariant_of-self : goal.invariant_of-self
invariant_of-self c =
    let earlier : List Timed = reverse c.self.inside.timed.items in
    let same : earlier ≡ c.args.self.now = c.self.view_is in
    let room : length earlier < 110000 = rw same c.requires.room in
    let next : AreTimed (timed_of c.args.w.now earlier c.args.mark ∷ earlier) =
    next_timed c.args.w.now earlier c.args.mark c.requires.widths c.requires.mark c.self.invariant.1 room in (
      omega (arith, c.self.invariant.0, c.push_reserved.ensures.capacity),
      rw (c.push_reserved.ensures.items, c.timed_of-timed.ensures, reverse-append, ← same) next,
    )
