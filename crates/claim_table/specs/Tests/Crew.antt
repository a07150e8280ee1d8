-- A pass that was split off another and hasn't been split or joined, between two turns.
use Rattle.std.specs.Prelude.{◌≡◌, None}
use Rattle.claim_table.specs.Shown.{BoardShown, PassShown, IsPassOf}

pub record IsOne (board : BoardShown) (pass : PassShown) : Type 0 where
  pub pass_is : IsPassOf board pass
  pub hand : pass.view.seat.hand ≡ None
  pub spare : pass.view.spare ≡ 0
  pub merged : pass.view.merged ≡ 1
