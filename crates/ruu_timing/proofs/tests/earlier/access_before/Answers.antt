use Rattle.std.proofs.Common.{rules, tests}
use Rattle.std.proofs.lemmas.Iterator.Consumers.{nth_from_yields_List, YieldsList-from_filter}
use Rattle.std.proofs.lemmas.Iterator.Adapters.{YieldsList-from_rev_slice}
use Rattle.ruu_timing.specs.Times.{accesses}
use Rattle.ruu_timing.proofs.tests.earlier.access_before.Goals as goal

pub returns : goal.returns
returns c =
    nth_from_yields_List _ _ _ c.nth.ensures.ran
    (YieldsList-from_filter _ accesses (YieldsList-from_rev_slice c.args.earlier.now cc)
    c.filter.ensures.closure (λ x r q k. search (rules, tests)))
