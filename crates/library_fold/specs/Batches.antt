-- What batches of points were read, and that they belong to the header.
use Rattle.std.specs.Prelude.{◌≡◌, ◌<◌, ◌≤◌, ◌++◌, ℕ, List, [], length, Bool, true, false, Option, Some, None, IfSome}
use Rattle.std.specs.List.{All}
use Rattle.hierarchy.specs.Config.{ArePlaces}
use Rattle.live_points.specs.declared.header.Header.{Header}
use Rattle.livepoint_format.specs.Format.{IsHeader, IsPoint}
use Rattle.livepoint_format.specs.Values.{Point}
use Rattle.livepoint_format.specs.Views.{head_of}
use Rattle.predictor.specs.Kind.{IsKind}
use Rattle.sample_design.specs.Design.{IsUsable}
use Rattle.library_reader.specs.Intake.{HasRead, IsOver}
use Rattle.library_reader.specs.Laws.{IsReadingOf, library_at}
use Rattle.library_reader.specs.Reader.{Front, Reading, fresh}

-- with these there are as many points as the header says
abbrev pub AreAllWith : Reading → List Point → Type 0
AreAllWith old points = (bytes : List ℕ) (first : List Point) → IsReadingOf bytes first old
    → IfSome old.front (λ front. length (first ++ points) ≡ front.0.points)

-- the library has ended behind these points
abbrev pub HasEnded : Reading → Option (List ℕ) → Option (List ℕ) → List Point → Type 0
HasEnded old before after points =
    (given : List ℕ) × IsOver old before after (λ first. library_at None old.front (first ++ points)) given
    × AreAllWith old points

-- these points were read, and more may come
pub record Came (old new : Reading) (before after : Option (List ℕ)) (points : List Point) (given : List ℕ) : Type 0 where
  pub read : HasRead old new before after points given
  pub front : new.front ≡ old.front

abbrev pub HasCome : Reading → Reading → Option (List ℕ) → Option (List ℕ) → List Point → Type 0
HasCome old new before after points = (given : List ℕ) × Came old new before after points given

-- a batch is full unless the library has ended behind it
abbrev pub IsBatchRead : Bool → Reading → Reading → Option (List ℕ) → Option (List ℕ) → List Point → Type 0
IsBatchRead true old new before after points = HasEnded old before after points
IsBatchRead false old new before after points = HasCome old new before after points × (length points ≡ 128)

-- each may stand behind the header as the point of its unit
abbrev pub AreTaken : Option Front → List Point → Type 0
AreTaken front points = IfSome front (λ f. All (λ point. IsPoint f.0 point.unit point) points)

-- with these there are no more points than the header says
abbrev pub HaveRoom : Reading → List Point → Type 0
HaveRoom r points =
    (bytes : List ℕ) (first : List Point) → IsReadingOf bytes first r
    → IfSome r.front (λ front. length (first ++ points) ≤ front.0.points)

-- a header whose points can be folded
pub record IsFoldable (header : Header) : Type 0 where
  pub design : IsUsable header.design
  pub places : ArePlaces header.records.places
  pub kinds : All IsKind header.records.kinds
  pub points : (0 < header.points) × (header.points ≤ 65536)

-- the header came, and no point yet
pub record Started (header : Header) (new : Reading) (before after : Option (List ℕ)) (front : Front) (given : List ℕ) : Type 0 where
  pub read : HasRead fresh new before after [] given
  pub front_is : new.front ≡ Some front
  pub head : head_of header ≡ front.0
  pub header_is : IsHeader front.0
  pub budget : header.design.budget ≡ 1

abbrev pub HasStarted : Header → Reading → Option (List ℕ) → Option (List ℕ) → Type 0
HasStarted header new before after = (front : Front) × (given : List ℕ) × Started header new before after front given
