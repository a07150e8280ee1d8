-- What the calls of a pass ask of their steps.
use Rattle.std.proofs.Common.{◌≡◌, ◌<◌, ℕ, Bool, Option, Some, None, List, length, arith, sym, ap, subst, ◌∙◌}
use Rattle.std.specs.List.{slice_get}
use Rattle.std.proofs.lemmas.Option.{slice_get_within}
use Rattle.confidence.specs.declared.answer.Answer.{Answer}
use Rattle.ordered_fold.proofs.MachineLemmas.{IsIdle, some_is}
use Rattle.claim_table.specs.Board.{list_at}
use Rattle.claim_table.specs.Steps.{Holding, answers_of}
use Rattle.claim_table.specs.Shown.{BoardShown, PassShown, IsPassOf, IsResting}

-- a pass between two calls with an empty hand is idle
pub resting_idle :
    (me : Holding) (hand last : Option ℕ) (past : Bool) (seen_end : Option ℕ) (announced : Bool)
    → IsResting me hand last past seen_end announced → me.0.seat.hand ≡ None → IsIdle me.0.seat
resting_idle me hand last past seen_end announced is bare =
    record { live = is.live; hand = bare; holder = is.free }

-- the answer to report is that of the number in the hand, which is one of the board's
pub record IsReady (lists : List (List Answer)) (board : BoardShown) (me : Holding) (point : ℕ) (answer : Answer) : Type 0 where
  pub answer_is : slice_get (answers_of lists me.0) point ≡ Some answer
  pub below : point < board.size

pub ready :
    (lists : List (List Answer)) (board : BoardShown) (pass : PassShown) (me : Holding) (point : ℕ)
    (answer : Answer) → IsPassOf board pass → me.0 ≡ pass.view
    → board.size ≡ length (list_at lists board.which) → me.0.seat.hand ≡ Some point
    → ((k : ℕ) × (pass.view.seat.hand ≡ Some k) × (slice_get (answers_of lists pass.view) k ≡ Some answer))
    → IsReady lists board me point answer
ready lists board pass me point answer of same size hand (k, has, is) =
    let number : k ≡ point = some_is k point (sym has ∙ ap (λ v. v.seat.hand) (sym same) ∙ hand) in
    let at_point : slice_get (answers_of lists pass.view) point ≡ Some answer = subst (λ n. slice_get (answers_of lists pass.view) n ≡ Some answer) number is in
    let within : point < length (answers_of lists pass.view) = slice_get_within (answers_of lists pass.view) point answer at_point in
    let long : length (answers_of lists pass.view) ≡ board.size = ap (λ w. length (list_at lists w)) of.which ∙ sym size in
    record {
      answer_is = subst (λ v. slice_get (answers_of lists v) point ≡ Some answer) (sym same) at_point;
      below = omega (arith, within, long);
    }
