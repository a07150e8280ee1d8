use Rattle.std.proofs.Common.{◌≡◌, ◌<◌, ◌^◌, ℕ, List, subst, All}
use Rattle.warming.proofs.learning.image.Goals as goal

pub returns-clause-image : goal.returns-clause-image
returns-clause-image c = record {
  image = c.in_ok-image.ensures.image;
  targets = subst (λ (ps : List (ℕ × ℕ)). All (λ (p : ℕ × ℕ). (p.0 < 2 ^ 32) × (p.1 < 2 ^ 32)) ps) c.targets.ensures.value c.pairs_fit.ensures;
  stack = subst (λ (ns : List ℕ). All (λ (n : ℕ). n < 2 ^ 32) ns) c.stack.ensures.value c.numbers_fit.ensures;
}
