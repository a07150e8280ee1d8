-- The processor that accepted words ask for, by the keys with a prefix and else without.
use Rattle.std.specs.Prelude.{ℕ, List, Option, option_and_then}
use Rattle.std.specs.Option.{unwrap_or}
use Rattle.std.specs.Result.{result_ok}
use Rattle.hierarchy.specs.declared.config.Config.{Config}
use Rattle.hierarchy.specs.declared.places.Places.{Places}
use Rattle.hierarchy.specs.declared.widths.Latencies.{Latencies}
use Rattle.hierarchy.specs.declared.widths.Widths.{Widths}
use Rattle.lru_plain.specs.Shape.{Shape}
use Rattle.predictor.specs.declared.kind.PredictorKind.{PredictorKind}
use Rattle.predictor.specs.declared.kind.Scheme.TheVariants.{Bimodal}
use Rattle.smarts_text.specs.declared.keys.Form.{Form}
use Rattle.smarts_text.specs.declared.keys.Form.TheVariants.{Cache, Tlb, Kind, Kinds}
use Rattle.smarts_text.specs.Asked.{number_in, is_ruu_in}
use Rattle.smarts_text.specs.Keys as Keys
use Rattle.smarts_text.specs.Keys.{Key}
use Rattle.smarts_text.specs.Shapes.{cache_read, tlb_read, kind_read}
use Rattle.smarts_text.specs.Words.{value_under}

abbrev pub shape : ℕ → ℕ → ℕ → Shape
shape line_log sets_log ways = record { line_log = line_log; sets_log = sets_log; ways = ways }

-- the default of a key that has caches
abbrev pub usual_cache : Form → Shape
usual_cache (Cache line_log sets_log ways) = shape line_log sets_log ways
usual_cache form = shape 4 0 1

-- the default of a key that has TLBs
abbrev pub usual_tlb : Form → Shape
usual_tlb (Tlb sets_log ways) = shape 12 sets_log ways
usual_tlb form = shape 12 0 1

-- the default of a key that has predictors
abbrev pub usual_kind : Form → PredictorKind
usual_kind (Kind usual) = usual
usual_kind (Kinds usual) = usual
usual_kind form = record { scheme = Bimodal; bits = 4; target_log = 2; depth = 0 }

-- what is said of a key that has caches, of one that has TLBs, and of one that has predictors
unfoldable pub cache_asked : List ℕ → List (List ℕ) → Key → Option Shape
cache_asked prefix words key =
    option_and_then (λ text. result_ok (cache_read text)) (value_under prefix key.name words)

unfoldable pub tlb_asked : List ℕ → List (List ℕ) → Key → Option Shape
tlb_asked prefix words key =
    option_and_then (λ text. result_ok (tlb_read text)) (value_under prefix key.name words)

unfoldable pub kind_asked : List ℕ → List (List ℕ) → Key → Option PredictorKind
kind_asked prefix words key =
    option_and_then (λ text. result_ok (kind_read text)) (value_under prefix key.name words)

-- the cache of a key
abbrev pub cache_in : List ℕ → List (List ℕ) → Key → Shape
cache_in prefix words key = unwrap_or (cache_asked prefix words key) (usual_cache key.form)

-- the TLB of a key
abbrev pub tlb_in : List ℕ → List (List ℕ) → Key → Shape
tlb_in prefix words key = unwrap_or (tlb_asked prefix words key) (usual_tlb key.form)

-- the predictor of a key
abbrev pub kind_in : List ℕ → List (List ℕ) → Key → PredictorKind
kind_in prefix words key = unwrap_or (kind_asked prefix words key) (usual_kind key.form)

unfoldable pub places_in : List ℕ → List (List ℕ) → Places Shape
places_in prefix words = record {
  l1i = cache_in prefix words Keys.l1i_key;
  l1d = cache_in prefix words Keys.l1d_key;
  l2 = cache_in prefix words Keys.l2_key;
  itlb = tlb_in prefix words Keys.itlb_key;
  dtlb = tlb_in prefix words Keys.dtlb_key;
}

unfoldable pub widths_in : List ℕ → List (List ℕ) → Widths
widths_in prefix words = record {
  fetch = number_in prefix words Keys.fetch_key;
  dispatch = number_in prefix words Keys.dispatch_key;
  issue = number_in prefix words Keys.issue_key;
  retire = number_in prefix words Keys.retire_key;
  queue = number_in prefix words Keys.queue_key;
  ruu = number_in prefix words Keys.ruu_key;
  lsq = number_in prefix words Keys.lsq_key;
  penalty = number_in prefix words Keys.penalty_key;
  forward = number_in prefix words Keys.fwdlat_key;
  alus = number_in prefix words Keys.alus_key;
  muls = number_in prefix words Keys.muls_key;
  divs = number_in prefix words Keys.divs_key;
  loads = number_in prefix words Keys.loads_key;
  stores = number_in prefix words Keys.stores_key;
  branches = number_in prefix words Keys.branches_key;
}

unfoldable pub latencies_in : List ℕ → List (List ℕ) → Latencies
latencies_in prefix words = record {
  mul = number_in prefix words Keys.mullat_key;
  div = number_in prefix words Keys.divlat_key;
  l1 = number_in prefix words Keys.l1lat_key;
  l2 = number_in prefix words Keys.l2lat_key;
  mem = number_in prefix words Keys.memlat_key;
  tlb = number_in prefix words Keys.tlblat_key;
}

unfoldable pub config_in : List ℕ → List (List ℕ) → Config
config_in prefix words = record {
  ruu = is_ruu_in prefix words;
  places = places_in prefix words;
  kind = kind_in prefix words Keys.predictor_key;
  widths = widths_in prefix words;
  latencies = latencies_in prefix words;
}
