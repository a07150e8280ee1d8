use Rattle.std.proofs.Common.{refl, sym, ◌∙◌}
use Rattle.std.proofs.lemmas.Bool.{false≢true}
use Rattle.live_words.proofs.WordsLemmas.{none_risen, more_risen, not_risen, all_risen, words_rise}
use Rattle.live_words.proofs.words.first_misplaced.Goals as goal

pub loop-index-init : goal.loop-index-init
loop-index-init c = none_risen c.args.pairs.now

pub returns-then-not-may_follow-clause-value : goal.returns-then-not-may_follow-clause-value
returns-then-not-may_follow-clause-value c =
    sym (not_risen c.args.pairs.now c.loop-index.index c.loop-index.least c.loop-index.invariant c.loop-index-test.true
    (λ both. false≢true (sym c.if-not-may_follow.true ∙ c.may_follow.ensures.value.1 both)))

pub loop-index-preserved : goal.loop-index-preserved
loop-index-preserved c =
    rw c.from-least.ensures
    (more_risen c.args.pairs.now c.loop-index.index c.loop-index.least _ c.loop-index.invariant c.loop-index-test.true
    refl c.may_follow.ensures.fits (c.may_follow.ensures.value.0 c.if-not-may_follow.false))

pub returns-then-not-may_follow-clause-words : goal.returns-then-not-may_follow-clause-words
returns-then-not-may_follow-clause-words c = (
  λ none. absurd (cc),
  λ words.
      returns-then-not-may_follow-clause-value c ∙ words_rise c.args.pairs.now words,
)

pub returns-clause-words : goal.returns-clause-words
returns-clause-words c = (
  λ _. all_risen c.args.pairs.now c.loop-index.index c.loop-index.least c.loop-index-test.false c.loop-index.invariant,
  λ _. refl,
)
