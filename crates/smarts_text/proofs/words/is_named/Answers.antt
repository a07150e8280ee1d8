use Rattle.std.proofs.Common.{◌≡◌, ◌≢◌, ◌++◌, List, ℕ, Some, None, sym}
use Rattle.std.proofs.lemmas.Bool.Decides.{Decides-eqb}
use Rattle.std.proofs.lemmas.Slice.Eq.{strip_prefix_is}
use Rattle.smarts_text.proofs.WordsLemmas.{named_some, named_none}
use Rattle.smarts_text.proofs.words.is_named.Goals as goal

pub returns-in-Some : goal.returns-in-Some
returns-in-Some c =
    let parts : c.as_bytes.result.now ≡ c.as_bytes-2.result.now ++ c.in-Some.rest.now =
    strip_prefix_is Decides-eqb c.as_bytes.result.now c.as_bytes-2.result.now (Some c.in-Some.rest) c.in-Some.ensures.cases in
    named_some _ _ _ c.in-Some.rest.now _
    (rw (c.as_bytes.ensures.value, c.as_bytes-2.ensures.value) at parts)
    (rw c.as_bytes-in-Some.ensures.value at c.eq.ensures)

pub returns-in-None : goal.returns-in-None
returns-in-None c =
    let lacks : (rest : List ℕ) → c.as_bytes.result.now ≢ c.as_bytes-2.result.now ++ rest =
    strip_prefix_is Decides-eqb c.as_bytes.result.now c.as_bytes-2.result.now None c.in-None.ensures.cases in
    sym (named_none _ _ _ (λ rest. rw (c.as_bytes.ensures.value, c.as_bytes-2.ensures.value) at (lacks rest)))
