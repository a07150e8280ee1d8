-- The words of many windows at once.
use Rattle.std.specs.Prelude.{ℕ, nat_lt, if◌then◌else◌, List, [], ◌∷◌, ◌++◌, length, map, slice_index_or}
use Rattle.std.specs.List.{range_with_len}
use Rattle.rv_exec.specs.Memory.{Words}
use Rattle.live_words.specs.Collector.{with_first}
use Rattle.live_words.specs.Words.{memory_of}

-- what each window has found, in the order in which they started, and how many of the first have ended
pub record WindowsValue : Type 0 where
  pub windows : List Words
  pub ended : ℕ

abbrev pub window_at : WindowsValue → ℕ → Words
window_at value k = slice_index_or value.windows k (memory_of [])

-- the words of a window after a touch: those of before, where it has ended, and else with this one, where they have
-- none at its address
abbrev pub window_after : WindowsValue → ℕ → ℕ → ℕ → Words
window_after value addr word k =
    if nat_lt k value.ended then window_at value k else with_first (window_at value k) addr word

abbrev pub with_touch : WindowsValue → ℕ → ℕ → WindowsValue
with_touch value addr word =
    record value { windows = map (window_after value addr word) (range_with_len 0 (length value.windows)) }

-- with one more window, which has found nothing
abbrev pub with_window : WindowsValue → WindowsValue
with_window value = record value { windows = value.windows ++ memory_of [] ∷ [] }
