use Rattle.std.proofs.Common.{sym}
use Rattle.live_words.proofs.PackedLemmas.{loaded, not_loaded, aligned_at}
use Rattle.live_words.proofs.packed.load.Goals as goal

pub returns-in-Some-clause-value : goal.returns-in-Some-clause-value
returns-in-Some-clause-value c =
    sym (loaded c.args.packed.now c.in-Some.place c.args.addr c.requires c.in-Some.ensures.some.0 c.in-Some.ensures.some.1)

pub returns-in-Some-clause-aligned : goal.returns-in-Some-clause-aligned
returns-in-Some-clause-aligned c = λ _.
    aligned_at c.args.packed.now c.in-Some.place c.args.addr c.requires c.in-Some.ensures.some.0 c.in-Some.ensures.some.1

pub returns-in-None-clause-value : goal.returns-in-None-clause-value
returns-in-None-clause-value c = sym (not_loaded c.args.packed.now c.args.addr c.in-None.ensures.none)
