use Rattle.std.proofs.Common.{◌≡◌, ◌+◌, ◌-◌, ◌<◌, List, length, refl, ◌∙◌, ap, arith}
use Rattle.hierarchy.specs.declared.marked.Marked.{Marked}
use Rattle.ruu_timing.specs.declared.timed.Timed.{Timed}
use Rattle.ruu_timing.specs.Times.{cycles}
use Rattle.ruu_timing.proofs.TimesLemmas.{length_times, total_known, total_least, total_most}
use Rattle.ruu_timing.proofs.tests.plain.PlainRuu.time.Goals as goal

pub overflow_sub-result : goal.overflow_sub-result
overflow_sub-result g c =
    rw (c.retirement_back.ensures.value, c.retirement_back-2.ensures.value)
    (total_known c.time_all.new.self (c.len.result - c.args.skip + 1) c.retirement_back.ensures.timed (omega arith))

pub returns-clause-cycles : goal.returns-clause-cycles
unfolding cycles
returns-clause-cycles g c =
    rw (c.retirement_back.ensures.value, c.retirement_back-2.ensures.value, c.time_all.ensures, c.len.ensures, c.self.view_is) refl

pub returns-clause-least : goal.returns-clause-least
returns-clause-least g c = λ far.
    let items : List Marked = g.T.Trace.items c.args.trace.now in
    let count : length c.time_all.new.self ≡ length items =
    ap (λ (l : List Timed). length l) c.time_all.ensures ∙ length_times c.self.inside.widths items in
    let some : 0 < length c.time_all.new.self = omega (arith, c.requires.within) in
    rw (c.retirement_back.ensures.value, c.retirement_back-2.ensures.value)
    (total_least c.time_all.new.self (c.len.result - c.args.skip + 1) c.retirement_back.ensures.timed some (omega arith))

pub returns-clause-most : goal.returns-clause-most
returns-clause-most g c = λ near.
    rw (c.retirement_back.ensures.value, c.retirement_back-2.ensures.value)
    (total_most c.time_all.new.self (c.len.result - c.args.skip + 1) c.retirement_back.ensures.timed (omega arith))
