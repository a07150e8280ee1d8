use Rattle.std.proofs.Common.{◌<◌, sym, ap, ◌∙◌, arith, ℕ, []}
use Rattle.ordered_fold.specs.declared.front.Front.{Front}
use Rattle.ordered_fold.specs.Front.{front_of, is_going}
use Rattle.turbosmarts.proofs.FoldingLemmas.{with_next, ended_whole, all_whole, still_going, reported_push, no_sums}
use Rattle.turbosmarts.proofs.folding.fold_in_order.Goals as goal

pub loop-k-init : goal.loop-k-init
loop-k-init c = record {
  fold = c.new-front.ensures.fold ∙ ap (λ (n : ℕ). front_of n c.args.test.now []) c.len.ensures;
  going = cc (c.new-front.ensures.value);
  sound = c.new-front.ensures.sound;
  total_is = ap (λ (f : Front). f.total) c.new-front.ensures.value ∙ c.len.ensures;
  number = ap (λ (f : Front). f.sums.n) c.new-front.ensures.value ∙ no_sums;
}

pub returns-then-not-is_going-clause-fold : goal.returns-then-not-is_going-clause-fold
returns-then-not-is_going-clause-fold c =
    let next = with_next _ _ _ _ _ _ _ _ (omega arith) c.at.ensures c.loop-k.invariant.fold c.push.ensures.fold in
    ended_whole _ _ _ _ _ next (ap is_going (sym c.ending.ensures) ∙ sym c.if-not-is_going.ensures)

pub returns-then-not-is_going-clause-measured : goal.returns-then-not-is_going-clause-measured
returns-then-not-is_going-clause-measured c = omega (arith, ap (λ (f : Front). f.sums.n) c.push.ensures.value)

pub returns-then-not-is_going-clause-reported : goal.returns-then-not-is_going-clause-reported
returns-then-not-is_going-clause-reported c =
    reported_push c.loop-k.front _ _ _ c.push.ensures.value c.ending.ensures (sym c.if-not-is_going.ensures)

pub loop-k-preserved : goal.loop-k-preserved
loop-k-preserved c = record {
  fold = with_next _ _ _ _ _ _ _ _ (omega arith) c.at.ensures c.loop-k.invariant.fold c.push.ensures.fold;
  going = still_going _ (ap is_going (sym c.ending.ensures) ∙ sym c.if-not-is_going.ensures);
  sound = c.push.ensures.sound;
  total_is = ap (λ (f : Front). f.total) c.push.ensures.value ∙ c.loop-k.invariant.total_is;
  number = omega (arith, ap (λ (f : Front). f.sums.n) c.push.ensures.value);
}

pub returns-clause-fold : goal.returns-clause-fold
returns-clause-fold c = all_whole _ _ _ _ c.loop-k.k _ (omega arith) c.loop-k.invariant.fold

pub returns-clause-measured : goal.returns-clause-measured
returns-clause-measured c = omega (arith, c.loop-k.invariant.number)

pub returns-clause-reported : goal.returns-clause-reported
returns-clause-reported c =
    let folding = c.loop-k.invariant in
    let room : c.loop-k.front.sums.n < c.loop-k.front.total = folding.sound.room folding.going in
    absurd (omega (arith, folding.number, folding.total_is))
