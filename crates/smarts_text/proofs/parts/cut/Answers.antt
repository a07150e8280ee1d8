use Rattle.smarts_text.proofs.PartsLemmas.{uncut, cut_at}
use Rattle.smarts_text.proofs.parts.cut.Goals as goal

pub returns-in-Some-clause-split : goal.returns-in-Some-clause-split
returns-in-Some-clause-split c =
    cut_at _ _ c.in-Some.before c.in-Some.behind c.in-Some.ensures.cases c.requires

pub returns-in-None-clause-split : goal.returns-in-None-clause-split
returns-in-None-clause-split c = uncut _ _ c.in-None.ensures.cases c.requires
