-- The cycles of a processor that handles one instruction at a time, one instruction further.
use Rattle.std.proofs.Common.{List, Some, add-one, ap, arith, drop, length, refl, suc, sym, ℕ, ◌≡◌, ◌+◌, ◌-◌, ◌*◌, ◌<◌, ◌≤◌, [], ◌∷◌}
use Rattle.std.proofs.Math.Seq.{drop-cons}
use Rattle.std.proofs.lemmas.List.{drop_all, length-drop}
use Rattle.std.proofs.lemmas.List.Sums.{sum_by-cons}
use Rattle.std.proofs.lemmas.Option.{get_or_from_slice_get, slice_get_within}
use Rattle.std.specs.List.{slice_get}
use Rattle.std.specs.Prelude.{sum_by}
use Rattle.hierarchy.specs.Widths.{AreLatencies}
use Rattle.hierarchy.specs.declared.marked.Marked.{Marked}
use Rattle.hierarchy.specs.declared.widths.Latencies.{Latencies}
use Rattle.rv_isa.specs.declared.roles.Class.{Class}
use Rattle.rv_isa.specs.declared.roles.Class.TheVariants.{Alu, Control, Div, Ecall, Load, Mul, Store}
use Rattle.ruu_timing.specs.Scalar.{scalar_cycles, scalar_latency}

pub one_fewer :
    (l : Latencies) (ms : List Marked) (i : ℕ) (m : Marked) → slice_get ms i ≡ Some m
    → scalar_latency l m.class + scalar_cycles l ms (i + 1) ≡ scalar_cycles l ms i
one_fewer l ms i m there =
    let within : i < length ms = slice_get_within ms i m there in
    let rest : drop i ms ≡ m ∷ drop (i + 1) ms =
    rw (add-one, drop-cons ms i m) (ap (λ (x : Marked). x ∷ drop (suc i) ms) (get_or_from_slice_get ms i m m there)) in
    rw rest (sym (sum_by-cons (λ x. scalar_latency l x.class) m (drop (i + 1) ms)))

pub none_left : (l : Latencies) (ms : List Marked) (i : ℕ) → length ms ≤ i → scalar_cycles l ms i ≡ 0
none_left l ms i le = rw (drop_all i ms le) refl

-- each instruction takes from 1 to 64 cycles
latency_within : (l : Latencies) (class : Class) → AreLatencies l → (1 ≤ scalar_latency l class) × (scalar_latency l class ≤ 64)
latency_within l Alu ranges = (omega arith, omega arith)
latency_within l Mul ranges = (ranges.mul.0, omega (arith, ranges.mul.1))
latency_within l Div ranges = ranges.div
latency_within l Load ranges = (ranges.l1.0, omega (arith, ranges.l1.1))
latency_within l Store ranges = (omega arith, omega arith)
latency_within l Control ranges = (omega arith, omega arith)
latency_within l Ecall ranges = (omega arith, omega arith)

sum_within :
    (l : Latencies) (ms : List Marked) → AreLatencies l
    → (length ms ≤ sum_by (λ m. scalar_latency l m.class) ms) × (sum_by (λ m. scalar_latency l m.class) ms ≤ 64 * length ms)
sum_within l [] ranges = (omega arith, omega arith)
sum_within l (m ∷ ms) ranges =
    let first = latency_within l m.class ranges in
    let rest = sum_within l ms ranges in
    let whole = sum_by-cons (λ x. scalar_latency l x.class) m ms in
    (omega (arith, first.0, rest.0), omega (arith, first.1, rest.1))

pub scalar_within :
    (l : Latencies) (ms : List Marked) (skip : ℕ) → AreLatencies l
    → (length ms - skip ≤ scalar_cycles l ms skip) × (scalar_cycles l ms skip ≤ 64 * (length ms - skip))
scalar_within l ms skip ranges =
    let sums = sum_within l (drop skip ms) ranges in
    (omega (arith, sums.0, length-drop skip ms), omega (arith, sums.1, length-drop skip ms))
