use Rattle.std.proofs.Common.{◌≡◌, arith, sym, subst}
use Rattle.hierarchy.specs.Config.{IsCacheShape, IsTlbShape}
use Rattle.predictor.specs.Kind.{IsKind}
use Rattle.smarts_text.proofs.ProcessorLemmas.{or_holds}
use Rattle.smarts_text.proofs.processor.Asked.config.Goals as goal

pub returns-clause-config : goal.returns-clause-config
returns-clause-config c =
    let asked = c.requires.asked in
    let places = c.requires.places in
    record {
      places = record {
        l1i = subst IsCacheShape (sym c.unwrap_or.ensures) (or_holds IsCacheShape _ _ asked.l1i places.l1i);
        l1d = subst IsCacheShape (sym c.unwrap_or-2.ensures) (or_holds IsCacheShape _ _ asked.l1d places.l1d);
        l2 = subst IsCacheShape (sym c.unwrap_or-3.ensures) (or_holds IsCacheShape _ _ asked.l2 places.l2);
        itlb = subst IsTlbShape (sym c.unwrap_or-4.ensures) (or_holds IsTlbShape _ _ asked.itlb places.itlb);
        dtlb = subst IsTlbShape (sym c.unwrap_or-5.ensures) (or_holds IsTlbShape _ _ asked.dtlb places.dtlb);
      };
      predictor = subst IsKind (sym c.unwrap_or-6.ensures) (or_holds IsKind _ _ asked.kind
          (rw c.as_slice.ensures.value (c.requires.kinds 0 _ (omega (arith, c.as_slice.ensures.kinds.least)))));
      widths = asked.widths;
      latencies = asked.latencies;
    }
