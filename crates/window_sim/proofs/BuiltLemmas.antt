-- What instructions and points leave of shapes and kinds.
use Rattle.std.proofs.Common.{◌≡◌, ◌<◌, ℕ, zero, suc, List, [], ◌∷◌, length, map, Bool, true, false, Option, Some, None, refl, sym, ap, ◌∙◌, arith, inl, inr}
use denote.Enum.Bare.{sameb}
use Rattle.std.specs.Prelude.{◌==◌, ◌&&◌, slice_get}
use Rattle.std.proofs.lemmas.Bool.{cases_Bool, false≢true}
use Rattle.hierarchy.specs.declared.config.Config.{Config}
use Rattle.hierarchy.specs.declared.places.Places.{Places}
use Rattle.hierarchy.specs.declared.state.State.{State}
use Rattle.hierarchy.specs.Lookup.{after_fetch, after_reference}
use Rattle.hierarchy.specs.State.{after_event}
use Rattle.hierarchy.specs.Warming.{warmed}
use Rattle.live_points.specs.declared.header.Header.{Header}
use Rattle.live_points.specs.declared.point.LivePoint.{LivePoint}
use Rattle.live_points.specs.Kinds.{same_scheme, same_kind, is_among}
use Rattle.live_points.specs.Points.{IsPointOf}
use Rattle.live_points.specs.PointAnswers.{image_of, warm_at}
use Rattle.live_points.specs.Beyond.{IsWithin}
use Rattle.live_points.proofs.PointLemmas.{kinds_are}
use Rattle.lru_plain.specs.Cache.{Cache}
use Rattle.predictor.proofs.Trains.{observed_kind}
use Rattle.predictor.specs.contracts.kind.Scheme.{the_type}
use Rattle.predictor.specs.declared.kind.PredictorKind.{PredictorKind}
use Rattle.predictor.specs.declared.kind.Scheme.{Scheme}
use Rattle.predictor.specs.declared.kind.Scheme.TheVariants.{Bimodal, Gshare}
use Rattle.predictor.specs.Rules.{trained}
use Rattle.predictor.specs.Tables.{Tables}
use Rattle.rv_exec.specs.declared.event.DataRef.{DataRef}
use Rattle.rv_exec.specs.declared.event.Event.{Event}
use Rattle.rv_exec.specs.References.{transfers}
use Rattle.window_sim.specs.Built.{shapes_of, IsBuilt}

-- ---- instructions keep them

referred_shapes : (caches : Places Cache) (access : Option DataRef) → shapes_of (after_reference caches access) ≡ shapes_of caches
referred_shapes caches None = refl
referred_shapes caches (Some d) = refl

pub built_after : (config : Config) (s : State) (e : Event) → IsBuilt config s → IsBuilt config (after_event s e)
unfolding after_event
built_after config s e built = record {
  shapes = referred_shapes (after_fetch s.caches e.pc) e.access ∙ built.shapes;
  kind = observed_kind s.predictor e ∙ built.kind;
}

-- before any instruction they are built as the processor asks
pub warmed_built : (config : Config) → IsBuilt config (warmed config.places config.kind [])
unfolding warmed trained transfers
warmed_built config = record { shapes = refl; kind = refl }

-- ---- images

-- kinds that are compared
schemes_compared : (one other : Scheme) → sameb the_type one other ≡ same_scheme one other
schemes_compared Bimodal Bimodal = refl
schemes_compared Gshare Gshare = refl
schemes_compared Bimodal Gshare = refl
schemes_compared Gshare Bimodal = refl

pub kinds_compared :
    (one other : PredictorKind)
    → (sameb the_type one.scheme other.scheme
    && ((one.bits == other.bits) && ((one.target_log == other.target_log) && (one.depth == other.depth))))
    ≡ same_kind one other
kinds_compared one other =
    ap (λ (b : Bool). b && ((one.bits == other.bits) && ((one.target_log == other.target_log) && (one.depth == other.depth))))
    (schemes_compared one.scheme other.scheme)

-- none of the first so many is this kind
abbrev pub IsNoneOf : PredictorKind → List PredictorKind → ℕ → Type 0
IsNoneOf kind kinds n = (j : ℕ) (other : PredictorKind) → j < n → slice_get kinds j ≡ Some other → same_kind kind other ≡ false

pub none_among :
    (kind : PredictorKind) (kinds : List PredictorKind) → IsNoneOf kind kinds (length kinds)
    → is_among kind kinds ≡ false
none_among kind [] none = refl
none_among kind (k ∷ kinds) none =
    rw (none 0 k (omega arith) refl) (none_among kind kinds (λ j other h is. none (suc j) other (omega arith) is))

pub image_at :
    (kind other : PredictorKind) (kinds : List PredictorKind) (images : List Tables) (place : ℕ) (image : Tables)
    → IsNoneOf kind kinds place → slice_get kinds place ≡ Some other → same_kind kind other ≡ true
    → slice_get images place ≡ Some image → image_of kind kinds images ≡ image
image_at kind other [] images place image none is same stands = cc
image_at kind other (k ∷ kinds) [] place image none is same stands = cc
image_at kind other (k ∷ kinds) (first ∷ images) zero image none is same stands =
    let here : k ≡ other = cc in
    rw (here, same) cc
image_at kind other (k ∷ kinds) (first ∷ images) (suc place) image none is same stands =
    rw (none 0 k (omega arith) refl)
    (image_at kind other kinds images place image (λ j x h at. none (suc j) x (omega arith) at) is same stands)

pub image_kind :
    (kind : PredictorKind) (kinds : List PredictorKind) (images : List Tables)
    → map (λ image. image.kind) images ≡ kinds → is_among kind kinds ≡ true → (image_of kind kinds images).kind ≡ kind
image_kind kind [] images same among = absurd (false≢true among)
image_kind kind (k ∷ kinds) [] same among = refl
image_kind kind (k ∷ kinds) (image ∷ images) same among = elim (cases_Bool (same_kind kind k)) [
  | inl is ↦
      let first : image.kind ≡ k = cc in
      rw is (first ∙ sym (kinds_are kind k is))
  | inr other ↦
      let rest : map (λ (x : Tables). x.kind) images ≡ kinds = cc in
      rw other (image_kind kind kinds images rest (rw other at among))
]

-- the caches and the predictor at the start of a window are built as the processor asks
pub warm_built :
    (config : Config) (header : Header) (point : LivePoint) → IsWithin header.records config → IsPointOf header point
    → IsBuilt config (warm_at config header.records point)
warm_built config header point within of = record {
  shapes = refl;
  kind = image_kind config.kind header.records.kinds point.images of.kinds within.predictor;
}
