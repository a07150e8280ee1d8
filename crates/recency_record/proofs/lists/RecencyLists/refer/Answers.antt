use Rattle.std.proofs.Common.{◌∙◌, ap, arith, refl}
use Rattle.lru_plain.proofs.CacheLemmas.{block_taken}
use Rattle.recency_record.specs.Recency.{Recency, referred}
use Rattle.recency_record.specs.Views.{recency_of_lists}
use Rattle.recency_record.proofs.Referring.{record_more, referred_keeps}
use Rattle.recency_record.proofs.RecordLemmas.{used_referred}
use Rattle.recency_record.proofs.lists.RecencyLists.refer.Goals as goal

pub touch-requires : goal.touch-requires
touch-requires c =
    rw (c.block_of-block.ensures, c.geometry.ensures.value)
    (block_taken c.self.inside.lists.shape c.args.addr c.geometry.ensures.listing.geometry (omega (arith, c.ranges.addr.fits)))

pub invariant_of-self : goal.invariant_of-self
invariant_of-self c =
    rw (
      c.touch.ensures.value,
      c.block_of-block.ensures,
      c.geometry.ensures.value,
      used_referred c.self.inside.lists c.self.inside.time c.args.addr c.self.invariant,
    ) (referred_keeps (recency_of_lists c.self.inside) c.args.addr (omega (arith, c.ranges.addr.fits)) c.self.invariant)

pub returns-clause-step : goal.returns-clause-step
returns-clause-step c =
    rw (
      ← c.self.view_is,
      c.touch.ensures.value,
      c.block_of-block.ensures,
      c.geometry.ensures.value,
      used_referred c.self.inside.lists c.self.inside.time c.args.addr c.self.invariant,
    ) refl

pub returns-clause-record : goal.returns-clause-record
returns-clause-record c = λ addrs g was.
    returns-clause-step c ∙ ap (λ (r : Recency). referred r c.args.addr) was ∙ record_more addrs c.args.addr g
