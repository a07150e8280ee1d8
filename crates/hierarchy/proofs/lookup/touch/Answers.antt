use Rattle.lru_plain.specs.Shape.{block_of}
use Rattle.lru_plain.specs.Cache.{set_for}
use Rattle.hierarchy.proofs.LookupLemmas.{found}
use Rattle.hierarchy.proofs.lookup.touch.Goals as goal

pub returns-clause-hit : goal.returns-clause-hit
returns-clause-hit c =
    found c.touch.result (block_of c.args.cache.now.shape c.args.addr)
    (set_for c.args.cache.now.shape c.args.cache.now.sets c.args.addr) c.touch.ensures.hit
