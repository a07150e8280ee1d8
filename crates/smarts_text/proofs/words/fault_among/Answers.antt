use Rattle.std.proofs.Common.{◌≡◌, map, Some, None, string_bytes, sym, ◌∙◌, refl, arith, below_more}
use Rattle.smarts_text.specs.Words.{fault_at}
use Rattle.smarts_text.proofs.WordsLemmas.{fault_here, first_found, none_found}
use Rattle.smarts_text.proofs.words.fault_among.Goals as goal

pub returns-in-Some-clause-first : goal.returns-in-Some-clause-first
returns-in-Some-clause-first c =
    let here = fault_here string_bytes c.args.words.now c.args.groups.now c.loop-k.k c.index-words-k.result (omega arith) c.index-words-k.is in
    let said : fault_at c.args.groups.now (map string_bytes c.args.words.now) c.loop-k.k ≡ Some c.in-Some.kind =
    here ∙ rw (← c.as_str.ensures.value) (sym c.in-Some.ensures) in
    sym (first_found string_bytes c.args.words.now c.args.groups.now c.loop-k.k c.in-Some.kind (omega arith) c.loop-k.invariant said)

pub loop-k-preserved : goal.loop-k-preserved
loop-k-preserved c =
    let here = fault_here string_bytes c.args.words.now c.args.groups.now c.loop-k.k c.index-words-k.result (omega arith) c.index-words-k.is in
    let said : fault_at c.args.groups.now (map string_bytes c.args.words.now) c.loop-k.k ≡ None =
    here ∙ rw (← c.as_str.ensures.value) (sym c.in_default.ensures) in
    below_more _ _ c.loop-k.invariant (rw said refl)

pub returns-clause-first : goal.returns-clause-first
returns-clause-first c =
    sym (none_found string_bytes c.args.words.now c.args.groups.now (λ j h. c.loop-k.invariant j (omega arith)))
