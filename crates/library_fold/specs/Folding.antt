-- The answers of all points of a library, folded.
use Rattle.std.specs.Prelude.{◌≡◌, ℕ, List, length, fold, map, Option, Some}
use Rattle.live_points.specs.PointAnswers.{point_answer}
use Rattle.livepoint_format.specs.Values.{Point}
use Rattle.livepoint_format.specs.Views.{head_of}
use Rattle.library_fold.specs.Batches.{HasEnded}
use Rattle.library_reader.specs.Reader.{Front, Reading}
use Rattle.ordered_fold.specs.declared.front.Front.{Front as Fold}
use Rattle.ordered_fold.specs.Front.{folded}
use Rattle.window_sim.specs.Desk.{IsServed, Setup}

-- with the answers of these points, in order
abbrev pub with_answers : Setup → Fold → List Point → Fold
with_answers setup start points = fold folded start (map (point_answer setup.config setup.header) points)

-- the library has ended, and the answers of its points were folded
abbrev pub HasFolded : Setup → Reading → Option (List ℕ) → Option (List ℕ) → Fold → Fold → Type 0
HasFolded setup old before after start end =
    (points : List Point) × HasEnded old before after points × (end ≡ with_answers setup start points)

-- desks for the header that was read
pub record AreFor (setup : Setup) (front : Option Front) : Type 0 where
  pub served : IsServed setup
  pub of : Front
  pub front_is : front ≡ Some of
  pub head : head_of setup.header ≡ of.0
