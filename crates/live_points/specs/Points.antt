-- The live-points of a run.
use Rattle.std.specs.Prelude.{◌≡◌, ◌≤◌, ◌*◌, ◌%◌, ℕ, List, length, map}
use Rattle.hierarchy.specs.declared.places.Places.{Places}
use Rattle.live_words.specs.LiveWords.{live_words}
use Rattle.live_words.specs.Words.{pairs_of}
use Rattle.lru_plain.specs.Shape.{Shape}
use Rattle.predictor.specs.declared.kind.PredictorKind.{PredictorKind}
use Rattle.predictor.specs.Rules.{trained}
use Rattle.predictor.specs.Tables.{Tables}
use Rattle.recency_record.specs.Recency.{Recency, record_of}
use Rattle.rv_exec.specs.declared.event.Event.{Event}
use Rattle.rv_exec.specs.Machine.{State}
use Rattle.rv_exec.specs.References.{fetches, data_refs, all_refs, transfers}
use Rattle.rv_exec.specs.Runs.{run_of}
use Rattle.sample_design.specs.Order.{order_of}
use Rattle.sample_design.specs.Units.{sampled_unit, window_of}
use Rattle.live_points.specs.declared.header.Header.{Header}
use Rattle.live_points.specs.declared.point.LivePoint.{LivePoint}

-- a record for each structure: of the fetches, of the references to data, and of both
abbrev pub records_of : Places Shape → List ℕ → List ℕ → List ℕ → Places Recency
records_of g fetched referred both = record {
  l1i = record_of fetched g.l1i;
  l1d = record_of referred g.l1d;
  l2 = record_of both g.l2;
  itlb = record_of fetched g.itlb;
  dtlb = record_of referred g.dtlb;
}

abbrev pub records_after : Places Shape → List Event → Places Recency
records_after g events = records_of g (fetches events) (data_refs events) (all_refs events)

-- what a predictor of each kind has learnt of the branches and jumps
abbrev pub images_after : List PredictorKind → List Event → List Tables
images_after kinds events = map (λ kind. trained kind (transfers events)) kinds

-- The live-point of a unit: the machine at the start of its window, with the words alone that the window touches,
-- and records and images of all instructions before it.
unfoldable pub point_of : Header → State → ℕ → LivePoint
point_of header start unit =
    let window = window_of header.design unit in
    let before = run_of start window.start in
    record {
      unit = unit;
      pc = before.after.pc;
      regs = before.after.regs;
      brk = before.after.brk;
      words = pairs_of (live_words before.after.words (run_of before.after window.len).events);
      places = records_after header.records.places before.events;
      images = images_after header.records.kinds before.events;
    }

-- those of the sampled units, in the order of visits
unfoldable pub points_of : Header → State → ℕ → List LivePoint
points_of header start count =
    map (λ p. point_of header start (sampled_unit header.design p)) (order_of count header.design.seed)

-- what holds of each point of a header: its records have the header's shapes and its images the header's kinds, in
-- their order; its pc is that of an instruction; and its words are those of addresses that so many instructions touch,
-- at most two for each
pub record IsPointOf (header : Header) (point : LivePoint) : Type 0 where
  pub l1i : point.places.l1i.shape ≡ header.records.places.l1i
  pub l1d : point.places.l1d.shape ≡ header.records.places.l1d
  pub l2 : point.places.l2.shape ≡ header.records.places.l2
  pub itlb : point.places.itlb.shape ≡ header.records.places.itlb
  pub dtlb : point.places.dtlb.shape ≡ header.records.places.dtlb
  pub kinds : map (λ image. image.kind) point.images ≡ header.records.kinds
  pub pc : point.pc % 4 ≡ 0
  pub words : length point.words ≤ 2 * (window_of header.design point.unit).len
