-- The caches and the predictor that a list of instructions leaves behind.
use Rattle.std.specs.Prelude.{ℕ, List}
use Rattle.lru_plain.specs.Shape.{Shape}
use Rattle.lru_plain.specs.Cache.{Cache, plain}
use Rattle.predictor.specs.declared.kind.PredictorKind.{PredictorKind}
use Rattle.predictor.specs.Rules.{trained}
use Rattle.rv_exec.specs.References.{fetches, data_refs, all_refs, transfers}
use Rattle.rv_exec.specs.declared.event.Event.{Event}
use Rattle.hierarchy.specs.declared.places.Places.{Places}
use Rattle.hierarchy.specs.declared.state.State.{State}

-- a cache that was empty, after these addresses
abbrev pub cache_after : Shape → List ℕ → Cache
cache_after g addrs = record { shape = g; sets = plain addrs g }

-- caches of these shapes that were empty, after the fetches, the references to data, and both
abbrev pub caches_after : Places Shape → List ℕ → List ℕ → List ℕ → Places Cache
caches_after g fetch_list data_list both = record {
  l1i = cache_after g.l1i fetch_list;
  l1d = cache_after g.l1d data_list;
  l2 = cache_after g.l2 both;
  itlb = cache_after g.itlb fetch_list;
  dtlb = cache_after g.dtlb data_list;
}

-- such caches, and a predictor of this kind that had seen nothing, after these instructions
unfoldable pub warmed : Places Shape → PredictorKind → List Event → State
warmed g kind events = record {
  caches = caches_after g (fetches events) (data_refs events) (all_refs events);
  predictor = trained kind (transfers events);
}
