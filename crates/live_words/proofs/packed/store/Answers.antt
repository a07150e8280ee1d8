use Rattle.std.proofs.Common.{sym, ap, arith}
use Rattle.std.specs.Prelude.{is_some}
use Rattle.live_words.proofs.PackedLemmas.{loaded, not_loaded, written, still_packed}
use Rattle.live_words.proofs.packed.store.Goals as goal

pub returns-in-Some-clause-held : goal.returns-in-Some-clause-held
returns-in-Some-clause-held c =
    sym (ap is_some
    (loaded c.args.packed.now c.in-Some.place c.args.addr c.requires c.in-Some.ensures.some.0 c.in-Some.ensures.some.1))

pub returns-in-Some-clause-words : goal.returns-in-Some-clause-words
returns-in-Some-clause-words c =
    rw c.packed_pair.ensures
    (written c.args.packed.now c.in-Some.place c.args.addr c.args.value c.requires c.in-Some.ensures.some.0
    c.in-Some.ensures.some.1 (omega (arith, c.ranges.value.fits)))

pub returns-in-Some-clause-packed : goal.returns-in-Some-clause-packed
returns-in-Some-clause-packed c =
    rw c.packed_pair.ensures
    (still_packed c.args.packed.now c.in-Some.place c.args.addr c.args.value c.requires c.in-Some.ensures.some.0
    c.in-Some.ensures.some.1 (omega (arith, c.ranges.addr.fits)) (omega (arith, c.ranges.value.fits)))

pub returns-in-None-clause-held : goal.returns-in-None-clause-held
returns-in-None-clause-held c = sym (ap is_some (not_loaded c.args.packed.now c.args.addr c.in-None.ensures.none))
