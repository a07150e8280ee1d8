use Rattle.std.proofs.Common.{refl, sym, ◌∙◌}
use Rattle.livepoint_format.proofs.PairsLemmas.{none_ranked, more_ranked, unranked_at, all_ranked, ranked_none}
use Rattle.livepoint_format.proofs.shared.first_unranked.Goals as goal

pub loop-index-init : goal.loop-index-init
loop-index-init c = none_ranked c.args.pairs.now

pub returns-then-not-ranks-clause-value : goal.returns-then-not-ranks-clause-value
returns-then-not-ranks-clause-value c =
    sym (unranked_at c.args.pairs.now c.loop-index.index _ c.loop-index.invariant c.loop-index-test.true refl
    (sym c.ranks.ensures.value ∙ c.if-not-ranks.true))

pub returns-then-not-ranks-clause-ranked : goal.returns-then-not-ranks-clause-ranked
returns-then-not-ranks-clause-ranked c = (
  λ none. absurd (cc),
  λ ranked. returns-then-not-ranks-clause-value c ∙ ranked_none c.args.pairs.now ranked,
)

pub loop-index-preserved : goal.loop-index-preserved
loop-index-preserved c =
    more_ranked c.args.pairs.now c.loop-index.index _ c.loop-index.invariant c.loop-index-test.true refl
    c.ranks.ensures.fits (sym c.ranks.ensures.value ∙ c.if-not-ranks.false)

pub returns-clause-value : goal.returns-clause-value
returns-clause-value c =
    sym (ranked_none c.args.pairs.now (all_ranked c.args.pairs.now c.loop-index.index c.loop-index-test.false c.loop-index.invariant))

pub returns-clause-ranked : goal.returns-clause-ranked
returns-clause-ranked c = (
  λ none. all_ranked c.args.pairs.now c.loop-index.index c.loop-index-test.false c.loop-index.invariant,
  λ ranked. refl,
)
