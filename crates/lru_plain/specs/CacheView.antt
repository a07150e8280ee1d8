-- A cache's lists, seen as its shape and its sets.
use Rattle.lru_plain.specs.declared.cache.PlainCache.TheInside.{Inside}
use Rattle.lru_plain.specs.Cache.{Cache}

abbrev pub cache_of : Inside → Cache
cache_of fields = record { shape = fields.lists.shape; sets = fields.lists.sets }
