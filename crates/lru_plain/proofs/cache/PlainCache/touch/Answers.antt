use Rattle.std.proofs.Common.{arith, refl}
use Rattle.lru_plain.proofs.Plains.{plain_more}
use Rattle.lru_plain.proofs.CacheLemmas.{used_touched, has_contains, contains_has, block_taken}
use Rattle.lru_plain.proofs.cache.PlainCache.touch.Goals as goal

pub touch-requires : goal.touch-requires
touch-requires c =
    rw (c.block_of-block.ensures, c.geometry.ensures.value)
    (block_taken c.self.inside.lists.shape c.args.addr c.geometry.ensures.listing.geometry (omega (arith, c.ranges.addr.fits)))

pub returns-clause-hit : goal.returns-clause-hit
returns-clause-hit c =
    rw (← c.self.view_is, c.touch.ensures.hit, c.block_of-block.ensures, c.geometry.ensures.value)
    ((λ h. has_contains _ _ h), (λ h. contains_has _ _ h))

pub returns-clause-sets : goal.returns-clause-sets
returns-clause-sets c =
    rw (← c.self.view_is, c.touch.ensures.value, c.block_of-block.ensures, c.geometry.ensures.value, ← used_touched c.self.inside.lists c.args.addr) refl

pub returns-clause-plain : goal.returns-clause-plain
returns-clause-plain c = λ addrs was.
    rw (plain_more addrs c.args.addr c.args.self.now.shape, ← was, ← c.self.view_is, c.touch.ensures.value, c.block_of-block.ensures, c.geometry.ensures.value)
    (used_touched c.self.inside.lists c.args.addr)
