-- The cycles of a processor that handles one instruction at a time.
use Rattle.std.specs.Prelude.{ℕ, List, drop, sum_by}
use Rattle.rv_isa.specs.declared.roles.Class.{Class}
use Rattle.rv_isa.specs.declared.roles.Class.TheVariants.{Alu, Mul, Div, Load, Store, Control, Ecall}
use Rattle.hierarchy.specs.declared.marked.Marked.{Marked}
use Rattle.hierarchy.specs.declared.widths.Latencies.{Latencies}

-- the cycles of one instruction
abbrev pub scalar_latency : Latencies → Class → ℕ
scalar_latency l Mul = l.mul
scalar_latency l Div = l.div
scalar_latency l Load = l.l1
scalar_latency l Alu = 1
scalar_latency l Store = 1
scalar_latency l Control = 1
scalar_latency l Ecall = 1

-- the sum from `skip` on
abbrev pub scalar_cycles : Latencies → List Marked → ℕ → ℕ
scalar_cycles l ms skip = sum_by (λ m. scalar_latency l m.class) (drop skip ms)
