-- What each call of a pass does, with the answers of its board.
use Rattle.std.specs.Prelude.{◌≡◌, ◌⊎◌, ◌+◌, ◌%◌, ◌<◌, ◌≤◌, ℕ, true, false, nat_lt, if◌then◌else◌, Option, Some, None, List, [], ◌∷◌, length}
use Rattle.confidence.specs.declared.answer.Answer.{Answer}
use Rattle.ordered_fold.specs.declared.ending.Ending.{Ending}
use Rattle.ordered_fold.specs.declared.front.Front.{Front}
use Rattle.ordered_fold.specs.Front.{is_going, IsSound}
use Rattle.ordered_fold.specs.Batch.{pushed_number, count_before_end, IsBatch}
use Rattle.claim_table.specs.declared.claim.Claim.{Claim}
use Rattle.claim_table.specs.declared.claim.Claim.TheVariants.{Point, Past}
use Rattle.claim_table.specs.declared.advance.Advance.{Advance}
use Rattle.claim_table.specs.declared.advance.Advance.TheVariants.{Moved, Busy}
use Rattle.claim_table.specs.declared.rule.View.{View}
use Rattle.claim_table.specs.Board.{IsAlone}
use Rattle.claim_table.specs.Steps.{Holding, answers_of, front_at, next_number, note, drawn_view, refused_view, looking_view, seeing_view}

-- the number drawn, where it is one of an answer
abbrev pub claim_of : ℕ → ℕ → Claim
claim_of size number = if nat_lt number size then Point number else Past number

-- a number was drawn: one behind the pass's last, and the next one where the pass is the only one left
pub record Draws (size : ℕ) (old new : View) (claim : Claim) : Type 0 where
  pub number : ℕ
  pub view : new ≡ drawn_view size number old
  pub claim_is : claim ≡ claim_of size number
  pub later : (last : ℕ) → old.seat.last ≡ Some last → last < number
  pub alone : IsAlone old → number ≡ next_number old.seat.last

-- an empty cell m was found in this call, after the first m answers were folded
pub record Waits (lists : List (List Answer)) (old new : View) : Type 0 where
  pub m : ℕ
  pub step : ℕ
  pub later : old.steps < step
  pub found : new.glanced ≡ note step m 0
  pub within : m < length (answers_of lists old)
  pub held : new.held ≡ m

-- the whole batch is folded
abbrev pub HasAll : List (List Answer) → View → View → Type 0
HasAll lists old new = new.held ≡ length (answers_of lists old)

-- nothing else changes when a pass folds
abbrev pub folded_view : View → View → View
folded_view old new = record old {
  held = new.held;
  announced = new.announced;
  steps = new.steps;
  tried = new.tried;
  glanced = new.glanced;
}

-- the pass had the front, folded what it found, and gave it back
pub record Moves (lists : List (List Answer)) (old new : View) (ending : Ending) : Type 0 where
  pub view : new ≡ folded_view old new
  pub later : old.steps < new.steps
  pub kept : old.announced ≡ true → new.announced ≡ true
  pub front : ending ≡ (front_at lists old new.held).ending
  pub within : new.held ≤ length (answers_of lists old)
  -- it goes on only where the next cell was empty in this call, or the whole batch is folded
  pub going : is_going ending ≡ true → Waits lists old new ⊎ HasAll lists old new
  -- any other ending is that of the whole list, and was announced by this pass
  pub over : is_going ending ≡ false
      → (ending ≡ (front_at lists old (length (answers_of lists old))).ending) × (new.announced ≡ true)
  -- the only pass left folds all that was drawn
  pub alone : IsAlone old → ending ≡ (front_at lists old (next_number old.seat.last)).ending

abbrev pub Advances : List (List Answer) → View → View → Advance → Type 0
Advances lists old new (Moved ending) = Moves lists old new ending
Advances lists old new (Busy found) =
    (new ≡ refused_view found old) × (found % 2 ≡ 1) × (IsAlone old → ⊥)

-- the stop word was 0, and then this pass never announced, or it tells the count before the end
abbrev pub Ends : List (List Answer) → View → View → Option ℕ → Type 0
Ends lists old new None = (new ≡ looking_view 0 old) × (old.announced ≡ false)
Ends lists old new (Some count) =
    (new ≡ seeing_view (count + 1) old)
    × (count ≡ count_before_end old.start (answers_of lists old))
    × (IsAlone old → is_going (front_at lists old (next_number old.seat.last)).ending ≡ false)

-- a pass that holds the lock has this front, and carries this in its slot
pub record HasFront (lists : List (List Answer)) (me : Holding) (carried : Option Front) (front : Front) : Type 0 where
  pub live : me.0.seat.live ≡ true
  pub holder : me.0.seat.holder ≡ true
  pub slots : me.1 ≡ (0, carried) ∷ []
  pub front_is : front ≡ front_at lists me.0 me.0.held
  pub within : me.0.held ≤ length (answers_of lists me.0)
  pub batch : IsBatch me.0.start (answers_of lists me.0)
  pub sound : IsSound front
  pub count : pushed_number front ≡ me.0.start.sums.n + me.0.held
  pub drawn : IsAlone me.0 → me.0.held ≤ next_number me.0.seat.last

-- what folding cells leaves, from the view old of a pass that holds
pub record FoldsCells (lists : List (List Answer)) (old new : View) (front : Front) : Type 0 where
  pub view : new ≡ record old { held = new.held; steps = new.steps; glanced = new.glanced }
  pub later : old.steps ≤ new.steps
  pub going : is_going front.ending ≡ true → Waits lists old new ⊎ HasAll lists old new
  pub alone : IsAlone old → is_going front.ending ≡ true
      → (next_number old.seat.last ≤ new.held) ⊎ HasAll lists old new

-- a pass between two calls with an empty hand
pub record IsAtRest (me : Holding) : Type 0 where
  pub live : me.0.seat.live ≡ true
  pub hand : me.0.seat.hand ≡ None
  pub free : me.0.seat.holder ≡ false
  pub slots : me.1 ≡ []
