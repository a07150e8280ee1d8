-- The words that a window needs of the memory at its start.
use Rattle.std.specs.Prelude.{is_some, List}
use Rattle.std.specs.FinMap as map
use Rattle.rv_exec.specs.declared.event.Event.{Event}
use Rattle.rv_exec.specs.Memory.{Words}
use Rattle.rv_exec.specs.References.{words_found, first_found}
use Rattle.live_words.specs.Words.{memory_of}

-- of these words, those alone that instructions touch
unfoldable pub live_words : Words → List Event → Words
live_words words events = map.retain_keys words (λ addr. is_some (first_found events addr))

-- what instructions find first at each address that they touch
unfoldable pub first_values : List Event → Words
first_values events = memory_of (words_found events)
