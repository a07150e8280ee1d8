use Rattle.std.proofs.Common.{sym, ap, arith}
use Rattle.std.specs.Prelude.{is_some}
use Rattle.live_words.proofs.SlotsLemmas.{loaded, not_loaded, nowhere_loaded, owned, written, still_slots}
use Rattle.live_words.proofs.slots.store.Goals as goal

pub returns-then-slots-place-eq0-clause-held : goal.returns-then-slots-place-eq0-clause-held
returns-then-slots-place-eq0-clause-held c =
    sym (ap is_some
    (not_loaded c.args.slots.now c.args.addr c.in-Some.place c.requires c.in-Some.ensures.some c.if-slots-place-eq0.true))

pub returns-else-slots-place-eq0-clause-held : goal.returns-else-slots-place-eq0-clause-held
returns-else-slots-place-eq0-clause-held c =
    sym (ap is_some
    (loaded c.args.slots.now c.args.addr c.in-Some.place c.requires c.in-Some.ensures.some c.if-slots-place-eq0.false))

pub returns-else-slots-place-eq0-clause-words : goal.returns-else-slots-place-eq0-clause-words
returns-else-slots-place-eq0-clause-words c =
    rw c.slot_of.ensures
    (written c.args.slots.now c.args.addr c.in-Some.place c.args.value c.requires c.in-Some.ensures.some
    (omega (arith, c.ranges.value.fits)))

pub returns-else-slots-place-eq0-clause-slots : goal.returns-else-slots-place-eq0-clause-slots
returns-else-slots-place-eq0-clause-slots c =
    rw c.slot_of.ensures
    (still_slots c.args.slots.now c.args.addr c.in-Some.place c.args.value c.requires c.in-Some.ensures.some
    (c.requires.aligned c.in-Some.place c.args.addr c.in-Some.ensures.some.within
    (owned c.args.slots.now c.args.addr c.in-Some.place c.in-Some.ensures.some c.if-slots-place-eq0.false))
    (omega (arith, c.ranges.value.fits)))

pub returns-in-None-clause-held : goal.returns-in-None-clause-held
returns-in-None-clause-held c =
    sym (ap is_some (nowhere_loaded c.args.slots.now c.args.addr c.in-None.ensures.none))
