use Rattle.ruu_timing.proofs.TimesLemmas.{issues_at_first}
use Rattle.ruu_timing.proofs.laws.issue_law.Goals as goal

pub returns : goal.returns
returns c = issues_at_first
