use Rattle.std.proofs.Common.{◌∙◌, ap, refl}
use Rattle.lru_plain.specs.Shape.{Shape}
use Rattle.lru_plain.specs.Cache.{Cache, plain}
use Rattle.recency_record.specs.Recency.{Recency}
use Rattle.rebuild.specs.Merge.{Fits, merged}
use Rattle.rebuild.proofs.Merging.{rebuilds_plain}
use Rattle.rebuild.proofs.rebuilding.rebuild_from.Goals as goal

pub returns-clause-plain : goal.returns-clause-plain
returns-clause-plain g c = λ addrs was.
    let fits : Fits (g.S.Source.told c.args.source.now).shape c.geometry-small.result =
    rw c.geometry-large.ensures.value at (c.if-not-fits.ensures.0 refl) in
    ap (λ (cache : Cache). cache.sets) c.fill_all.ensures
    ∙ ap (λ (r : Recency). merged r c.geometry-small.result) was
    ∙ rebuilds_plain addrs (g.S.Source.told c.args.source.now).shape c.geometry-small.result fits
    ∙ ap (λ (g : Shape). plain addrs g) c.geometry-small.ensures.value
