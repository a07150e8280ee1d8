use Rattle.std.proofs.Common.{◌≡◌, true, false, rules, arith, sym, ap, subst, ◌∙◌}
use Rattle.std.specs.Slots.{slots_items}
use Rattle.confidence.specs.Answer.{IsValidAnswer}
use Rattle.ordered_fold.specs.Front.{is_going, pushed}
use Rattle.claim_table.specs.Board.{list_at}
use Rattle.claim_table.proofs.ClosingLemmas.{folds_word, fold_none, ends_whole}
use Rattle.claim_table.proofs.closing.fold_words.Goals as goal

pub loop-k-init : goal.loop-k-init
loop-k-init g c = fold_none c.args.start (list_at g.L.Listed.lists c.args.which)

pub returns-then-not-is_going : goal.returns-then-not-is_going
returns-then-not-is_going g c =
    let over : is_going c.loop-k.front.ending ≡ false = search rules in
    ends_whole c.args.start (list_at g.L.Listed.lists c.args.which) c.loop-k.k c.args.size c.loop-k.front c.loop-k.invariant over c.requires.size

pub push-requires-clause-sound : goal.push-requires-clause-sound
push-requires-clause-sound g c =
    let goes : is_going c.loop-k.front.ending ≡ true = search rules in
    (folds_word c.args.start (list_at g.L.Listed.lists c.args.which) (slots_items c.args.closed.now.words) c.loop-k.k c.loop-k.front c.word-word.result
    c.requires.batch c.requires.cells (omega (arith, c.requires.size)) c.loop-k.invariant goes c.word-word.ensures).sound

pub push-requires-clause-answer : goal.push-requires-clause-answer
push-requires-clause-answer g c =
    let goes : is_going c.loop-k.front.ending ≡ true = search rules in
    subst IsValidAnswer (sym c.answer_of.ensures)
    (folds_word c.args.start (list_at g.L.Listed.lists c.args.which) (slots_items c.args.closed.now.words) c.loop-k.k c.loop-k.front c.word-word.result
    c.requires.batch c.requires.cells (omega (arith, c.requires.size)) c.loop-k.invariant goes c.word-word.ensures).valid

pub loop-k-preserved : goal.loop-k-preserved
loop-k-preserved g c =
    let goes : is_going c.loop-k.front.ending ≡ true = search rules in
    c.push.ensures.value ∙ ap (pushed c.loop-k.front) c.answer_of.ensures
    ∙ (folds_word c.args.start (list_at g.L.Listed.lists c.args.which) (slots_items c.args.closed.now.words) c.loop-k.k c.loop-k.front c.word-word.result
    c.requires.batch c.requires.cells (omega (arith, c.requires.size)) c.loop-k.invariant goes c.word-word.ensures).next
