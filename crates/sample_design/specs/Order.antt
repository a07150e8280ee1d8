-- The order in which the units are visited: a shuffle by exchanges.
use Rattle.std.specs.Prelude.{◌+◌, ◌-◌, ◌%◌, ℕ, zero, suc, List, swap}
use Rattle.std.specs.List.{range_with_len}
use Rattle.smarts_base.specs.Draws.{next_state, drawn}

-- the list after the exchanges of the places i down to 1, each with a drawn place that is at
-- most as high, where the first draw is from this state
unfoldable pub exchanged : ℕ → ℕ → List ℕ → List ℕ
exchanged zero state places = places
exchanged (suc i) state places =
    exchanged i (next_state state) (swap places (suc i) (drawn state % (suc i + 1)))

-- the order of n points
unfoldable pub order_of : ℕ → ℕ → List ℕ
order_of n seed = exchanged (n - 1) seed (range_with_len 0 n)
