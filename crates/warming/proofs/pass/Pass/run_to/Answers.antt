use Rattle.std.proofs.Common.{◌+◌, ◌∙◌, ap, arith}
use Rattle.warming.proofs.PassingLemmas.{can_still, can_less}
use Rattle.warming.proofs.pass.Pass.run_to.Goals as goal

pub step-requires : goal.step-requires
step-requires c =
    can_less c.loop.self c.args.at (c.loop.self.at + 1) (omega (arith, c.loop.invariant.at))
    (can_still c.args.self.now c.loop.self c.args.at c.loop.invariant.passing c.requires.run)

pub loop-preserved : goal.loop-preserved
loop-preserved c = record {
  passing = λ start records begins before. c.in_ok-step.ensures.passing start records begins (c.loop.invariant.passing start records begins before);
  at = c.in_ok-step.ensures.at ∙ ap (λ n. n + 1) c.loop.invariant.at;
  count = c.in_ok-step.ensures.count ∙ c.loop.invariant.count;
  ended = c.in_ok-step.ensures.ended ∙ c.loop.invariant.ended;
}
