-- What caches make of an instruction's references, and how they are after these.
use Rattle.std.specs.Prelude.{ℕ, ◌+◌, ◌==◌, Bool, if◌then◌else◌, Option, Some, None}
use Rattle.std.specs.List.{list_any}
use Rattle.lru_plain.specs.Shape.{block_of}
use Rattle.lru_plain.specs.Cache.{Cache, set_for, touched}
use Rattle.rv_isa.specs.declared.roles.Class.{Class}
use Rattle.rv_isa.specs.declared.roles.Class.TheVariants.{Alu, Mul, Div, Load, Store, Control, Ecall}
use Rattle.rv_exec.specs.declared.event.DataRef.{DataRef}
use Rattle.hierarchy.specs.declared.lookup.Hits.{Hits}
use Rattle.hierarchy.specs.declared.places.Places.{Places}
use Rattle.hierarchy.specs.declared.widths.Latencies.{Latencies}

-- the address's block is in its set
abbrev pub is_hit : Cache → ℕ → Bool
is_hit c addr = list_any (λ b. block_of c.shape addr == b) (set_for c.shape c.sets addr)

-- the cache after a touch of the address
abbrev pub touched_at : Cache → ℕ → Cache
touched_at c addr = record c { sets = touched c.shape c.sets addr }

-- what a fetch finds in the TLB and the cache of instructions, and in the second cache
abbrev pub fetch_hits : Places Cache → ℕ → Hits
fetch_hits caches pc = record {
  tlb = is_hit caches.itlb pc;
  first = is_hit caches.l1i pc;
  second = is_hit caches.l2 pc;
}

-- a fetch touches these three, the second cache even where the first one hits
abbrev pub after_fetch : Places Cache → ℕ → Places Cache
after_fetch caches pc = record caches {
  itlb = touched_at caches.itlb pc;
  l1i = touched_at caches.l1i pc;
  l2 = touched_at caches.l2 pc;
}

-- the same for a reference to data
abbrev pub data_hits : Places Cache → DataRef → Hits
data_hits caches d = record {
  tlb = is_hit caches.dtlb d.addr;
  first = is_hit caches.l1d d.addr;
  second = is_hit caches.l2 d.addr;
}

abbrev pub after_reference : Places Cache → Option DataRef → Places Cache
after_reference caches None = caches
after_reference caches (Some d) = record caches {
  dtlb = touched_at caches.dtlb d.addr;
  l1d = touched_at caches.l1d d.addr;
  l2 = touched_at caches.l2 d.addr;
}

-- the cycles that a reference waits: for a page that the TLB hasn't, and for a line that the first
-- cache hasn't, which takes longer where the second hasn't it either
abbrev pub delay : Latencies → Hits → ℕ
delay l hits =
    (if hits.tlb then 0 else l.tlb)
    + (if hits.first then 0 else (if hits.second then l.l2 else l.mem))

abbrev pub data_delay : Latencies → Option Hits → ℕ
data_delay l None = 0
data_delay l (Some hits) = delay l hits

-- the cycles from issue to completion. A store waits for no cache
abbrev pub latency_of : Latencies → Class → Option Hits → ℕ
latency_of l Mul hits = l.mul
latency_of l Div hits = l.div
latency_of l Load hits = l.l1 + data_delay l hits
latency_of l Alu hits = 1
latency_of l Store hits = 1
latency_of l Control hits = 1
latency_of l Ecall hits = 1
