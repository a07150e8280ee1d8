use Rattle.std.proofs.Common.{◌∙◌, sym}
use Rattle.live_words.proofs.windows.Windows.len.Goals as goal

pub returns : goal.returns
returns c = c.count_covered.ensures ∙ sym c.since.ensures.once
