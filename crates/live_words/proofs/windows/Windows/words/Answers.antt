use Rattle.std.proofs.Common.{◌∙◌, ap}
use Rattle.rv_exec.specs.Memory.{Words}
use Rattle.live_words.specs.Words.{pairs_of}
use Rattle.live_words.proofs.windows.Windows.words.Goals as goal

pub returns : goal.returns
returns c =
    c.in_ok-finish.ensures
    ∙ ap (λ (words : Words). pairs_of words) (c.in_ok-collector.ensures ∙ c.since.ensures.words)
