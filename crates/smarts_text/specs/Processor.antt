-- The processor that accepted words ask for where a library has what they leave out.
use Rattle.std.specs.Prelude.{ℕ, List, IfSome}
use Rattle.std.specs.Option.{unwrap_or}
use Rattle.hierarchy.specs.declared.config.Config.{Config}
use Rattle.hierarchy.specs.Config.{IsCacheShape, IsTlbShape}
use Rattle.hierarchy.specs.Widths.{AreWidths, AreLatencies}
use Rattle.live_points.specs.declared.header.Records.{Records}
use Rattle.livepoint_format.specs.Format.{kind_at}
use Rattle.predictor.specs.Kind.{IsKind}
use Rattle.smarts_text.specs.declared.processor.Asked.{Asked}
use Rattle.smarts_text.specs.Asked.{is_ruu_in}
use Rattle.smarts_text.specs.Configured.{cache_asked, kind_asked, latencies_in, tlb_asked, widths_in}
use Rattle.smarts_text.specs.Keys as Keys

-- what is said of the keys with a prefix, and else of those without
unfoldable pub asked_in : List ℕ → List (List ℕ) → Asked
asked_in prefix words = record {
  ruu = is_ruu_in prefix words;
  places = record {
    l1i = cache_asked prefix words Keys.l1i_key;
    l1d = cache_asked prefix words Keys.l1d_key;
    l2 = cache_asked prefix words Keys.l2_key;
    itlb = tlb_asked prefix words Keys.itlb_key;
    dtlb = tlb_asked prefix words Keys.dtlb_key;
  };
  kind = kind_asked prefix words Keys.predictor_key;
  widths = widths_in prefix words;
  latencies = latencies_in prefix words;
}

-- the processor for a library with these records: a cache or TLB that isn't asked for is the records', a predictor the
-- first of their kinds
unfoldable pub config_for : Asked → Records → Config
config_for asked records = record {
  ruu = asked.ruu;
  places = record {
    l1i = unwrap_or asked.places.l1i records.places.l1i;
    l1d = unwrap_or asked.places.l1d records.places.l1d;
    l2 = unwrap_or asked.places.l2 records.places.l2;
    itlb = unwrap_or asked.places.itlb records.places.itlb;
    dtlb = unwrap_or asked.places.dtlb records.places.dtlb;
  };
  kind = unwrap_or asked.kind (kind_at records.kinds 0);
  widths = asked.widths;
  latencies = asked.latencies;
}

-- all that is asked for is in its range
pub record IsAsked (asked : Asked) : Type 0 where
  pub l1i : IfSome asked.places.l1i IsCacheShape
  pub l1d : IfSome asked.places.l1d IsCacheShape
  pub l2 : IfSome asked.places.l2 IsCacheShape
  pub itlb : IfSome asked.places.itlb IsTlbShape
  pub dtlb : IfSome asked.places.dtlb IsTlbShape
  pub kind : IfSome asked.kind IsKind
  pub widths : AreWidths asked.widths
  pub latencies : AreLatencies asked.latencies
