use Rattle.std.proofs.Common.{sym, ap, ◌∙◌, arith}
use Rattle.std.proofs.lemmas.Bool.{false≢true}
use Rattle.predictor.specs.Tables.{Tables}
use Rattle.window_sim.proofs.BuiltLemmas.{kinds_compared, none_among, image_at, image_kind}
use Rattle.window_sim.proofs.start.image.Goals as goal

pub returns-then-eq-clause-image : goal.returns-then-eq-clause-image
returns-then-eq-clause-image c =
    let same = sym (kinds_compared c.args.kind c.at.result) ∙ sym c.eq.ensures ∙ c.if-eq.true in
    sym (image_at c.args.kind c.at.result c.args.kinds.now c.args.images.now c.loop-place.place c.at-then-eq.result.now
    c.loop-place.invariant c.at.ensures same c.at-then-eq.ensures)

pub returns-then-eq-clause-kind : goal.returns-then-eq-clause-kind
returns-then-eq-clause-kind c =
    ap (λ (image : Tables). image.kind) (returns-then-eq-clause-image c)
    ∙ image_kind c.args.kind c.args.kinds.now c.args.images.now c.requires.kinds c.requires.among

pub unreachable-requires : goal.unreachable-requires
unreachable-requires c =
    let none = none_among c.args.kind c.args.kinds.now
    (λ j other below is. c.loop-place.invariant j other
    (omega (arith, below, c.len-place-end.ensures.value, c.loop-place-test.false)) is) in
    false≢true (sym none ∙ c.requires.among)
