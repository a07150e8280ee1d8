use Rattle.turbosmarts.proofs.OutOfOrderLemmas.{has_window, marked_told}
use Rattle.turbosmarts.proofs.out_of_order.OutOfOrderProcessor.cycles.Goals as goal

pub overflow_sub-from : goal.overflow_sub-from
overflow_sub-from c =
    let can = c.requires.shown in
    let has = has_window _ _ _ _ _ _ _ _ can.shown can.end can.timeable in
    rw c.len.ensures.len has.fits

pub time-requires : goal.time-requires
time-requires c =
    let can = c.requires.shown in
    rw c.len.ensures.len (has_window _ _ _ _ _ _ _ _ can.shown can.end can.timeable).trace

pub returns-clause-value : goal.returns-clause-value
returns-clause-value c = λ begun es shown end.
    marked_told _ _ _ _ _ _ _ _ _ shown end c.requires.shown.timeable
    (rw c.len.ensures.len at c.time.ensures.cycles)

pub returns-clause-range : goal.returns-clause-range
returns-clause-range c =
    let can = c.requires.shown in
    let len = (has_window _ _ _ _ _ _ _ _ can.shown can.end can.timeable).len in
    let least = rw (c.len.ensures.len, len) at c.time.ensures.least in
    let most = rw (c.len.ensures.len, len) at c.time.ensures.most in
    (least can.timeable.least, most can.timeable.most)
