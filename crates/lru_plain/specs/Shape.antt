-- The shape of a cache, and where an address goes in it.
use Rattle.std.specs.Prelude.{◌≡◌, ℕ, ◌/◌, ◌%◌, ◌^◌, ◌≤◌, ◌⊎◌}

-- the logarithms to base 2 of the bytes of a line and of the number of sets, and the ways
pub record Shape : Type 0 where
  pub line_log : ℕ
  pub sets_log : ℕ
  pub ways : ℕ

-- the shapes that there are: lines of 16 to 256 bytes, or pages of 4096
pub record IsShape (g : Shape) : Type 0 where
  pub line : ((4 ≤ g.line_log) × (g.line_log ≤ 8)) ⊎ (g.line_log ≡ 12)
  pub sets : g.sets_log ≤ 12
  pub least : 1 ≤ g.ways
  pub most : g.ways ≤ 16

-- the number of sets
abbrev pub sets_of : Shape → ℕ
sets_of g = 2 ^ g.sets_log

-- the number of the line that an address lies in
abbrev pub block_of : Shape → ℕ → ℕ
block_of g addr = addr / 2 ^ g.line_log

-- the set that a block belongs to
abbrev pub home_of : Shape → ℕ → ℕ
home_of g block = block % sets_of g
