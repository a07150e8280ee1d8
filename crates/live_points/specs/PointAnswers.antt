-- What a live-point answers on a processor.
use Rattle.std.specs.Prelude.{if◌then◌else◌, None, List, [], ◌∷◌}
use Rattle.confidence.specs.declared.answer.Answer.{Answer}
use Rattle.hierarchy.specs.declared.config.Config.{Config}
use Rattle.hierarchy.specs.declared.places.Places.{Places}
use Rattle.hierarchy.specs.declared.state.State as warm
use Rattle.hierarchy.specs.Trace.{trace}
use Rattle.live_words.specs.Words.{memory_of}
use Rattle.lru_plain.specs.Cache.{Cache}
use Rattle.lru_plain.specs.Shape.{Shape}
use Rattle.predictor.specs.declared.kind.PredictorKind.{PredictorKind}
use Rattle.predictor.specs.Tables.{Tables, empty_tables}
use Rattle.rebuild.specs.Merge.{merged}
use Rattle.recency_record.specs.Recency.{Recency}
use Rattle.rv_exec.specs.Machine.{State}
use Rattle.rv_exec.specs.Memory.{Every}
use Rattle.sample_design.specs.Units.{window_of}
use Rattle.unit_answers.specs.Answers.{answer_by}
use Rattle.live_points.specs.declared.header.Header.{Header}
use Rattle.live_points.specs.declared.header.Records.{Records}
use Rattle.live_points.specs.declared.point.LivePoint.{LivePoint}
use Rattle.live_points.specs.Kinds.{same_kind}

-- a cache of this shape, rebuilt from a record
abbrev pub cache_from : Recency → Shape → Cache
cache_from r g = record { shape = g; sets = merged r g }

abbrev pub caches_from : Places Recency → Places Shape → Places Cache
caches_from places g = record {
  l1i = cache_from places.l1i g.l1i;
  l1d = cache_from places.l1d g.l1d;
  l2 = cache_from places.l2 g.l2;
  itlb = cache_from places.itlb g.itlb;
  dtlb = cache_from places.dtlb g.dtlb;
}

-- the image of a kind: the one that stands where the kind does. A kind that isn't listed has learnt nothing
abbrev pub image_of : PredictorKind → List PredictorKind → List Tables → Tables
image_of kind [] images = empty_tables kind
image_of kind (k ∷ kinds) [] = empty_tables kind
image_of kind (k ∷ kinds) (image ∷ images) = if same_kind kind k then image else image_of kind kinds images

-- caches and predictor of a processor at the start of the point's window
abbrev pub warm_at : Config → Records → LivePoint → warm.State
warm_at config records point = record {
  caches = caches_from point.places config.places;
  predictor = image_of config.kind records.kinds point.images;
}

-- the machine there, whose memory holds the point's words alone, and where every write buffer passes
abbrev pub machine_at : Header → LivePoint → State
machine_at header point = record {
  pc = point.pc;
  regs = point.regs;
  brk = point.brk;
  heap_low = header.heap_low;
  exit = None;
  words = memory_of point.words;
  buffers = Every;
}

-- the answer of a point: that of its window's trace from there
unfoldable pub point_answer : Config → Header → LivePoint → Answer
point_answer config header point =
    let window = window_of header.design point.unit in
    answer_by config window.skip
    (trace config.latencies (warm_at config header.records point) (machine_at header point) window.len)
