-- The block of an image: its words, with zeros behind them.
use Rattle.std.proofs.Common.{◌≡◌, ◌+◌, ◌-◌, ℕ, List, ◌++◌, length, take, arith, ap, ◌∙◌, refl}
use Rattle.std.proofs.lemmas.List.{take_all}
use Rattle.rv_machine.specs.Start.{zeros}

pub filled :
    (words items : List ℕ) (count len size more : ℕ)
    → items ≡ take count words → length words ≡ count → len ≡ length items → size ≡ count + more
    → items ++ zeros (size - len) ≡ words ++ zeros more
filled words items count len size more is all known sum =
    let same : items ≡ words = is ∙ take_all count words (omega arith) in
    let here : length items ≡ length words = ap length same in
    let rest : size - len ≡ more = omega arith in
    rw (rest, same) refl
