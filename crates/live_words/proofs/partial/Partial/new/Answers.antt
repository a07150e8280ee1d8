use Rattle.std.proofs.Common.{arith, ◌≡◌, map}
use Rattle.std.proofs.lemmas.Grind.{common_steps}
use Rattle.desk_region.specs.Span.{words_at, with_words_from}
use Rattle.live_words.specs.Packed.{packed_pair}
use Rattle.live_words.proofs.PackedLemmas.{packed_words}
use Rattle.live_words.proofs.partial.Partial.new.Goals as goal

pub returns-clause-held : goal.returns-clause-held
returns-clause-held c = grind (arith, common_steps)

pub returns-clause-packed : goal.returns-clause-packed
returns-clause-packed c =
    let held : words_at c.in_ok-span.span (with_words_from c.in_ok-span.span.start c.pack.new.packed c.carve.new.self.words)
    ≡ map packed_pair c.args.words.now = returns-clause-held c in
    rw held (packed_words c.args.words.now c.len.ensures.words)
