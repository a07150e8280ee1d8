-- How the merge goes: the sets' entries are put into one short list, from the last set to the first.
use Rattle.std.specs.Prelude.{◌≢◌, ℕ, List, [], ◌∷◌, take}
use Rattle.recency_record.specs.declared.entry.Entry.{Entry}
use Rattle.std.specs.List.{AllByRecursion}
use Rattle.recency_record.specs.Slots.{placed}

-- what a list of the most recent entries becomes, when the entries of one more set are put into it, from its
-- last to its first
abbrev pub poured : ℕ → List Entry → List Entry → List Entry
poured ways [] list = list
poured ways (e ∷ es) list = take ways (placed e (poured ways es list))

-- no block comes twice
abbrev pub AreApart : List Entry → Type 0
AreApart [] = Unit {0}
AreApart (e ∷ es) = AllByRecursion (λ later. later.block ≢ e.block) es × AreApart es
