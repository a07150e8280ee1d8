-- What contracts see of a board and of a pass.
use Rattle.std.specs.Prelude.{◌≡◌, ◌+◌, ℕ, Bool, true, false, Option, List, [], length}
use Rattle.atomic_table.specs.Seated.{TableId}
use Rattle.confidence.specs.declared.answer.Answer.{Answer}
use Rattle.ordered_fold.specs.declared.front.Front.{Front}
use Rattle.ordered_fold.specs.Batch.{IsBatch}
use Rattle.claim_table.specs.declared.rule.Key.{Key}
use Rattle.claim_table.specs.declared.rule.View.{View}
use Rattle.claim_table.specs.Board.{list_at}
use Rattle.claim_table.specs.Steps.{Holding}

-- which answers it reports, how many they are, and the front that the fold goes on from
pub record BoardShown : Type 0 where
  pub table : TableId
  pub which : ℕ
  pub size : ℕ
  pub start : Front

pub record PassShown : Type 0 where
  pub table : TableId
  pub id : ℕ
  pub view : View

-- the pass is one of the board's
pub record IsPassOf (board : BoardShown) (pass : PassShown) : Type 0 where
  pub table : pass.table ≡ board.table
  pub which : pass.view.which ≡ board.which
  pub start : pass.view.start ≡ board.start

-- what holds of every board
pub record IsSoundBoard (lists : List (List Answer)) (key : Key) (board : BoardShown) : Type 0 where
  pub words : board.table.words ≡ board.size + 3
  pub slots : board.table.slots ≡ 1
  pub which : key.which ≡ board.which
  pub start : key.start ≡ board.start
  pub size : board.size ≡ length (list_at lists board.which)
  pub batch : IsBatch board.start (list_at lists board.which)

-- what holds of a pass between two calls: it holds no front, and what it keeps is what its view tells
pub record IsResting (me : Holding) (hand : Option ℕ) (last : Option ℕ) (past : Bool) (seen_end : Option ℕ) (announced : Bool) : Type 0 where
  pub slots : me.1 ≡ []
  pub live : me.0.seat.live ≡ true
  pub free : me.0.seat.holder ≡ false
  pub hand_is : me.0.seat.hand ≡ hand
  pub last_is : me.0.seat.last ≡ last
  pub past_is : me.0.seat.past ≡ past
  pub seen_is : me.0.seat.seen_end ≡ seen_end
  pub announced_is : me.0.announced ≡ announced
