-- A point that may stand behind a header is one that a desk takes.
use Rattle.std.proofs.Common.{◌≡◌, ◌<◌, take, ◌+◌, ◌^◌, ℕ, List, [], ◌∷◌, length, map, drop, Option, Some, None, refl, sym, ap, subst, ◌∙◌, arith, slice_index}
use Rattle.std.proofs.lemmas.List.{ext_get_or, get_or-map, length-map, length-take}
use Rattle.std.specs.List.{All}
use Rattle.std.specs.Prelude.{slice_index_or, IfSome, IsSome}
use Rattle.livepoint_format.specs.Format.{AreImages, IsImageOf, IsPoint, kind_at}
use Rattle.livepoint_format.specs.Values.{Head, Point}
use Rattle.livepoint_format.specs.Views.{head_of}
use Rattle.live_points.specs.Points.{IsPointOf}
use Rattle.live_words.proofs.FollowLemmas.{follow_at}
use Rattle.predictor.specs.Tables.{Tables}
use Rattle.predictor.specs.declared.kind.PredictorKind.{PredictorKind}
use Rattle.library_reader.specs.Reader.{Front}
use Rattle.library_fold.specs.Batches.{AreTaken}
use Rattle.library_fold.specs.Folding.{AreFor}
use Rattle.window_sim.specs.Desk.{IsTaken, Setup}

length_before : {A : Type 0} (i : ℕ) (xs : List A) → i < length xs → length (take i xs) ≡ i
length_before i xs h = omega (arith, length-take i xs)

kinds_are : (kinds : List PredictorKind) (images : List Tables) → AreImages kinds images → map (λ (t : Tables). t.kind) images ≡ kinds
kinds_are kinds images are =
    ext_get_or (kind_at [] 0) (map (λ (t : Tables). t.kind) images) kinds (length-map images (λ (t : Tables). t.kind) ∙ are.count)
    (λ i h. kind_there i (omega (arith, h, length-map images (λ (t : Tables). t.kind))))
  where
    kind_there : (i : ℕ) → i < length images → slice_index_or (map (λ (t : Tables). t.kind) images) i (kind_at [] 0) ≡ slice_index_or kinds i (kind_at [] 0)
    kind_there i h =
        let d : Tables = record { kind = kind_at [] 0; counters = []; history = 0; targets = []; stack = [] } in
        let image = follow_at (λ before. IsImageOf (kind_at kinds (length before))) [] images i d are.each h in
        get_or-map (λ (t : Tables). t.kind) images i d (kind_at [] 0) h
        ∙ image.kind ∙ ap (kind_at kinds) (length_before i images h)

-- where the header is the one that was read
pub taken_of : (setup : Setup) (h : Head) (point : Point) → head_of setup.header ≡ h → IsPoint h point.unit point → IsTaken setup point
taken_of setup h point same is =
    let here : IsPoint (head_of setup.header) point.unit point =
    subst (λ (head : Head). IsPoint head point.unit point) (sym same) is in
    record {
      of = record {
        l1i = here.places.l1i.shape;
        l1d = here.places.l1d.shape;
        l2 = here.places.l2.shape;
        itlb = here.places.itlb.shape;
        dtlb = here.places.dtlb.shape;
        kinds = kinds_are (head_of setup.header).kinds point.images here.images;
        pc = here.pc.0;
        words = here.few;
      };
      pc = here.pc.1;
      zero = ap (λ (registers : List ℕ). slice_index registers 0) here.registers;
    }

taken_all :
    (setup : Setup) (front : Option Front) (of : Front) (points : List Point) → front ≡ Some of → head_of setup.header ≡ of.0
    → AreTaken front points → All (IsTaken setup) points
taken_all setup front of points is same taken =
    let all : All (λ (point : Point). IsPoint of.0 point.unit point) points = subst (λ (f : Option Front). AreTaken f points) is taken in
    λ k d fits. taken_of setup of.0 (slice_index_or points k d) same (all k d fits)

pub points_taken :
    (setup : Setup) (front : Option Front) (points : List Point) → AreFor setup front → AreTaken front points
    → All (IsTaken setup) points
points_taken setup front points for taken = taken_all setup front for.of points for.front_is for.head taken

pub front_of_desks : (setup : Setup) (front : Option Front) → AreFor setup front → IsSome front
front_of_desks setup front for = subst (λ (f : Option Front). IsSome f) (sym for.front_is) refl
