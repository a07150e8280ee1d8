-- Words of which only a front is filled.
use Rattle.std.specs.Prelude.{ℕ, ◌-◌, ◌≤◌, List, ◌++◌, vec_len, vec_capacity}
use Rattle.rv_machine.specs.declared.block.Block.TheInside.{Inside}
use Rattle.rv_machine.specs.Start.{zeros}

-- zeros are behind the front
abbrev pub words_in : Inside → List ℕ
words_in block = block.front.items ++ zeros (block.size - vec_len block.front)

-- there is room to fill all
pub record HasRoom (block : Inside) : Type 0 where
  pub within : vec_len block.front ≤ block.size
  pub room : block.size ≤ vec_capacity block.front
