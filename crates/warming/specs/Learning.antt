-- What caches' records and predictors learn of a run.
use Rattle.std.specs.Prelude.{ℕ, ◌<◌, ◌^◌, List, All}
use Rattle.hierarchy.specs.Config.{ArePlaces}
use Rattle.hierarchy.specs.declared.places.Places.{Places}
use Rattle.live_points.specs.declared.header.Records.{Records}
use Rattle.live_points.specs.Points.{records_after, images_after}
use Rattle.predictor.specs.Kind.{IsKind}
use Rattle.predictor.specs.Parts.{IsImage}
use Rattle.predictor.specs.Tables.{Tables}
use Rattle.recency_record.specs.Recency.{Recency, IsRecency}
use Rattle.rv_exec.specs.declared.event.Event.{Event}

-- shapes that caches and TLBs may have, and kinds that there are
pub record AreUsable (records : Records) : Type 0 where
  pub places : ArePlaces records.places
  pub kinds : All IsKind records.kinds

-- a record for each structure, and the tables of a predictor of each kind
pub record Learnt : Type 0 where
  pub places : Places Recency
  pub images : List Tables

-- what they have learnt of these instructions
abbrev pub learnt_of : Records → List Event → Learnt
learnt_of records events = record {
  places = records_after records.places events;
  images = images_after records.kinds events;
}

-- fewer references than the times of records can count
pub record AreEarly (places : Places Recency) : Type 0 where
  pub l1i : places.l1i.time < 2 ^ 62
  pub l1d : places.l1d.time < 2 ^ 62
  pub l2 : places.l2.time < 2 ^ 62
  pub itlb : places.itlb.time < 2 ^ 62
  pub dtlb : places.dtlb.time < 2 ^ 62

-- what holds of the records of all structures
pub record AreRecencies (places : Places Recency) : Type 0 where
  pub l1i : IsRecency places.l1i
  pub l1d : IsRecency places.l1d
  pub l2 : IsRecency places.l2
  pub itlb : IsRecency places.itlb
  pub dtlb : IsRecency places.dtlb

-- an image whose addresses are numbers of 32 bits
pub record IsNumbered (tables : Tables) : Type 0 where
  pub image : IsImage tables
  pub targets : All (λ (e : ℕ × ℕ). (e.0 < 2 ^ 32) × (e.1 < 2 ^ 32)) tables.targets
  pub stack : All (λ address. address < 2 ^ 32) tables.stack
