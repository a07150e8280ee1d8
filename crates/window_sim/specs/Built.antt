-- What a processor's windows are simulated with.
use Rattle.std.specs.Prelude.{◌≡◌}
use Rattle.hierarchy.specs.declared.config.Config.{Config}
use Rattle.hierarchy.specs.declared.places.Places.{Places}
use Rattle.hierarchy.specs.declared.state.State.{State}
use Rattle.hierarchy.specs.declared.widths.Widths.{Widths}
use Rattle.lru_plain.specs.Cache.{Cache}
use Rattle.lru_plain.specs.Shape.{Shape}

abbrev pub shapes_of : Places Cache → Places Shape
shapes_of caches = record {
  l1i = caches.l1i.shape;
  l1d = caches.l1d.shape;
  l2 = caches.l2.shape;
  itlb = caches.itlb.shape;
  dtlb = caches.dtlb.shape;
}

-- the caches have the processor's shapes, and the predictor is of its kind
pub record IsBuilt (config : Config) (state : State) : Type 0 where
  pub shapes : shapes_of state.caches ≡ config.places
  pub kind : state.predictor.kind ≡ config.kind

-- and timing has its widths
pub record IsReady (config : Config) (state : State) (widths : Widths) : Type 0 where
  pub built : IsBuilt config state
  pub widths_are : widths ≡ config.widths
