-- Laws of the words that a window touches.
use Rattle.std.specs.Prelude.{◌≡◌, ℕ, None, List, map}
use Rattle.rv_exec.specs.Laws.{RunsTheSame}
use Rattle.rv_exec.specs.Machine.{State}
use Rattle.rv_exec.specs.Runs.{run_of}
use Rattle.live_words.specs.LiveWords.{live_words, first_values}
use Rattle.live_words.specs.Packed.{packed_pair, ArePacked, held_words}
use Rattle.live_words.specs.Words.{AreWords, memory_of, pairs_of}

-- a run that goes on is the same over the words alone that it touches
abbrev pub LiveWordsSuffice : Type 0
LiveWordsSuffice =
    (m : State) (n : ℕ) → (run_of m n).halt ≡ None
    → RunsTheSame m n (live_words m.words (run_of m n).events)

-- what a run finds first are those words, as they are at its start
abbrev pub FirstValuesAreTheStart : Type 0
FirstValuesAreTheStart =
    (m : State) (n : ℕ) → first_values (run_of m n).events ≡ live_words m.words (run_of m n).events

-- words that are held are those by rising address
abbrev pub WordsAreHeld : Type 0
WordsAreHeld = (pairs : List (ℕ × ℕ)) → AreWords pairs → pairs_of (memory_of pairs) ≡ pairs

-- packed words are in order, and the memory of these pairs is that of the words
abbrev pub PackedAreHeld : Type 0
PackedAreHeld =
    (pairs : List (ℕ × ℕ)) → AreWords pairs
    → ArePacked (map packed_pair pairs) × (held_words (map packed_pair pairs) ≡ memory_of pairs)
