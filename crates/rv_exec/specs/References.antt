-- What the instructions of a list have referred to.
use Rattle.std.specs.Prelude.{ℕ, ◌-◌, ◌%◌, Option, Some, None, List, [], ◌∷◌, ◌++◌, map, filter}
use Rattle.std.specs.FinMap.{find}
use Rattle.std.specs.Ordering.{nat_cmp}
use Rattle.rv_exec.specs.declared.event.DataRef.{DataRef}
use Rattle.rv_exec.specs.declared.event.Event.{Event}
use Rattle.rv_exec.specs.Event.{is_transfer}

-- the pc of each instruction
unfoldable pub fetches : List Event → List ℕ
fetches events = map (λ e. e.pc) events

abbrev pub data_of : Option DataRef → List ℕ
data_of None = []
data_of (Some d) = d.addr ∷ []

-- the address of each load and store
unfoldable pub data_refs : List Event → List ℕ
data_refs [] = []
data_refs (e ∷ es) = data_of e.access ++ data_refs es

-- both, each pc before the data address of the same instruction
unfoldable pub all_refs : List Event → List ℕ
all_refs [] = []
all_refs (e ∷ es) = e.pc ∷ data_of e.access ++ all_refs es

-- the control events: the branches and jumps
unfoldable pub transfers : List Event → List Event
transfers events = filter (λ e. is_transfer e.control) events

-- the address of the word that holds the data
abbrev pub place_of : DataRef → ℕ
place_of d = d.addr - d.addr % 4

abbrev pub data_word : Option DataRef → List (ℕ × ℕ)
data_word None = []
data_word (Some d) = (place_of d, d.before) ∷ []

-- the words that instructions find in memory, each with its address: what each fetches, and what
-- its load or store finds
unfoldable pub words_found : List Event → List (ℕ × ℕ)
words_found [] = []
words_found (e ∷ es) = (e.pc, e.fetched) ∷ data_word e.access ++ words_found es

-- the first value that they find at the address of a word, if they touch it
abbrev pub first_found : List Event → ℕ → Option ℕ
first_found events addr = find nat_cmp addr (words_found events)
