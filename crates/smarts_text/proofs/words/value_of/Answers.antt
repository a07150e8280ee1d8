use Rattle.std.proofs.Common.{◌≡◌, ◌++◌, ◌∙◌, string_bytes, sym, Some, None, arith, refl}
use Rattle.smarts_text.proofs.WordsLemmas.{value_at, value_past}
use Rattle.smarts_text.specs.Words.{value_in}
use Rattle.smarts_text.proofs.words.value_of.Goals as goal

pub returns-in-Some : goal.returns-in-Some
returns-in-Some c =
    let said : value_in (c.args.prefix.now ++ c.args.name.now) (string_bytes c.word-item.result) ≡ Some c.in-Some.value.now =
    rw (← c.as_str.ensures.value) (sym c.in-Some.ensures) in
    let here = value_at string_bytes c.args.words.now c.loop-word.word-index c.word-item.result (c.args.prefix.now ++ c.args.name.now) (omega arith) c.word-item.is in
    sym (c.loop-word.invariant ∙ here ∙ rw said refl)

pub loop-word-preserved : goal.loop-word-preserved
loop-word-preserved c =
    let said : value_in (c.args.prefix.now ++ c.args.name.now) (string_bytes c.word-item.result) ≡ None =
    rw (← c.as_str.ensures.value) (sym c.in_default.ensures) in
    let here = value_at string_bytes c.args.words.now c.loop-word.word-index c.word-item.result (c.args.prefix.now ++ c.args.name.now) (omega arith) c.word-item.is in
    c.loop-word.invariant ∙ here ∙ rw said refl

pub returns : goal.returns
returns c =
    sym (c.loop-word.invariant ∙ value_past string_bytes c.args.words.now c.loop-word.word-index (c.args.prefix.now ++ c.args.name.now) (omega arith))
