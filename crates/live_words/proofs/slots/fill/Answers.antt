use Rattle.std.proofs.Common.{◌≡◌, ℕ, ◌-◌, List, [], arith, refl, sym, ap, ◌∙◌}
use Rattle.std.proofs.Math.Seq.{drop-length}
use Rattle.live_words.specs.Slots.{taken}
use Rattle.live_words.specs.Words.{memory_of}
use Rattle.live_words.proofs.CollectorLemmas.{all_words}
use Rattle.live_words.proofs.SlotsLemmas.{none_taken, free_slots}
use Rattle.live_words.proofs.slots.fill.Goals as goal

pub loop-index-init : goal.loop-index-init
loop-index-init c =
    let none : taken c.args.slots.now ≡ [] = none_taken c.args.slots.now c.requires.free in
    record {
      slots = free_slots c.args.slots.now c.requires.few c.requires.free;
      long = refl;
      room = rw none (omega arith);
      words = ap (λ (pairs : List (ℕ × ℕ)). memory_of pairs) (none ∙ sym (drop-length c.args.pairs.now));
    }

pub put-requires-clause-aligned : goal.put-requires-clause-aligned
put-requires-clause-aligned c =
    (all_words c.args.pairs.now c.requires.words (c.loop-index.index - 1) (0, 0)
    (omega (arith, c.loop-index-test.true, c.loop-index.invariant.room))).aligned
