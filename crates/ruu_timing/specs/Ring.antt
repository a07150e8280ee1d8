-- Rings of 256 places that hold what is kept of the latest instructions, by their number modulo the size.
use Rattle.std.specs.Prelude.{◌≡◌, ◌≤◌, ℕ, ◌+◌, ◌-◌, ◌%◌, List, length, get_or, Option, None}
use Rattle.ruu_timing.specs.declared.timed.Timed.{Timed}
use Rattle.ruu_timing.specs.Times.{back}

-- the place of the ring that holds the k-th of so many back
abbrev pub ring_place : ℕ → ℕ → ℕ
ring_place count k = (count + 256 - k) % 256

-- what a ring of times says of it
abbrev pub time_back : List ℕ → ℕ → ℕ → ℕ
time_back ring count k = get_or ring (ring_place count k) 0

-- a ring holds what is kept of the latest 256 of a list
pub record IsRing {Y : Type 0} (of : Option Timed → Y) (xs : List Timed) (ring : List Y) : Type 0 where
  pub size : length ring ≡ 256
  pub each : (k : ℕ) → 1 ≤ k → k ≤ 256 → get_or ring (ring_place (length xs) k) (of None) ≡ of (back xs k)
