use Rattle.std.proofs.Common.{arith}
use Rattle.live_words.proofs.SlotsLemmas.{not_full, taken_set, written, still_slots}
use Rattle.live_words.proofs.slots.put.Goals as goal

pub prove-unreachable-requires : goal.prove-unreachable-requires
prove-unreachable-requires c = not_full c.args.slots.now c.args.pair.0 c.requires.room c.in-None.ensures.none

pub returns-in-Some-clause-slots : goal.returns-in-Some-clause-slots
returns-in-Some-clause-slots c =
    rw c.slot_of.ensures
    (still_slots c.args.slots.now c.args.pair.0 c.in-Some.place c.args.pair.1 c.requires.slots c.in-Some.ensures.some
    c.requires.aligned (omega arith))

pub returns-in-Some-clause-words : goal.returns-in-Some-clause-words
returns-in-Some-clause-words c =
    rw c.slot_of.ensures
    (written c.args.slots.now c.args.pair.0 c.in-Some.place c.args.pair.1 c.requires.slots c.in-Some.ensures.some
    (omega arith))

pub returns-in-Some-clause-taken : goal.returns-in-Some-clause-taken
returns-in-Some-clause-taken c = taken_set c.args.slots.now c.in-Some.place c.slot_of.result
