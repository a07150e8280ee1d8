use Rattle.std.proofs.Common.{◌∙◌, ap}
use Rattle.std.proofs.lemmas.List.Sorted.{All-permutation}
use Rattle.rv_exec.specs.Memory.{Words}
use Rattle.live_words.specs.Collector.{IsWord}
use Rattle.live_words.specs.Words.{pairs_of}
use Rattle.live_words.proofs.CollectorLemmas.{sorted_words, sorted_same}
use Rattle.live_words.proofs.collector.Collector.finish.Goals as goal

pub from_rising-requires : goal.from_rising-requires
from_rising-requires c =
    rw c.in_ok-listed.ensures
    (sorted_words _ (All-permutation IsWord _ _ c.sort_keys.ensures.reordered.0 c.self.invariant)
    c.in_ok-sort_keys.ensures.sorted c.sort_keys.ensures.unique)

pub returns : goal.returns
returns c =
    c.from_rising.ensures
    ∙ sorted_same c.self.inside.first.entries c.in_ok-listed.field-0.items
    (rw c.in_ok-listed.ensures
    (sorted_words _ (All-permutation IsWord _ _ c.sort_keys.ensures.reordered.0 c.self.invariant)
    c.in_ok-sort_keys.ensures.sorted c.sort_keys.ensures.unique))
    (rw c.in_ok-listed.ensures c.sort_keys.ensures.reordered.2)
    ∙ ap (λ (words : Words). pairs_of words) c.self.view_is
