use Rattle.std.proofs.Common.{sym, ◌∙◌}
use Rattle.live_words.proofs.SlotsLemmas.{loaded, not_loaded, nowhere_loaded}
use Rattle.live_words.proofs.slots.load.Goals as goal

pub returns-in_err-slot-clause-value : goal.returns-in_err-slot-clause-value
returns-in_err-slot-clause-value c =
    c.from_residual.ensures ∙ sym (nowhere_loaded c.args.slots.now c.args.addr c.in_err-slot.ensures.none)

pub returns-then-slot-eq0-clause-value : goal.returns-then-slot-eq0-clause-value
returns-then-slot-eq0-clause-value c =
    sym (not_loaded c.args.slots.now c.args.addr c.in_ok-slot.field-0 c.requires c.in_ok-slot.ensures.some c.if-slot-eq0.true)

pub returns-clause-value : goal.returns-clause-value
returns-clause-value c =
    sym (loaded c.args.slots.now c.args.addr c.in_ok-slot.field-0 c.requires c.in_ok-slot.ensures.some c.if-slot-eq0.false)
