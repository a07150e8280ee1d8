-- Marks in their ranges.
use Rattle.std.proofs.Common.{◌≡◌, ◌≤◌, ◌+◌, ℕ, Bool, true, false, List, [], ◌∷◌, All, Option, Some, None, refl, arith, suc, if◌then◌else◌}
use Rattle.std.specs.Prelude.{◌↔◌, IsTrue, IsSome, is_some}
use Rattle.std.specs.Option.{option_map}
use Rattle.std.proofs.lemmas.List.Elements.{All-nil, All-cons}
use Rattle.rv_isa.specs.declared.roles.Class.{Class}
use Rattle.rv_isa.specs.declared.roles.Class.TheVariants.{Alu, Mul, Div, Load, Store, Control, Ecall}
use Rattle.rv_exec.specs.Event.{IsWellFormed, is_memory}
use Rattle.rv_exec.specs.declared.event.DataRef.{DataRef}
use Rattle.rv_exec.specs.declared.event.Event.{Event}
use Rattle.hierarchy.specs.declared.lookup.Hits.{Hits}
use Rattle.hierarchy.specs.declared.state.State.{State}
use Rattle.hierarchy.specs.declared.widths.Latencies.{Latencies}
use Rattle.hierarchy.specs.Marked.{IsMarked, accesses_memory}
use Rattle.hierarchy.specs.Lookup.{delay, latency_of}
use Rattle.hierarchy.specs.State.{mark_of, after_event}
use Rattle.hierarchy.specs.Trace.{marks}
use Rattle.hierarchy.specs.Widths.{AreLatencies}

waits : (tlb l2 mem : ℕ) (a b c : Bool) → tlb ≤ 200 → l2 ≤ 100 → mem ≤ 1000
    → (if a then 0 else tlb) + (if b then 0 else (if c then l2 else mem)) ≤ 1200
waits tlb l2 mem true true c h1 h2 h3 = omega arith
waits tlb l2 mem true false true h1 h2 h3 = omega arith
waits tlb l2 mem true false false h1 h2 h3 = omega arith
waits tlb l2 mem false true c h1 h2 h3 = omega arith
waits tlb l2 mem false false true h1 h2 h3 = omega arith
waits tlb l2 mem false false false h1 h2 h3 = omega arith

delay_most : (l : Latencies) (hits : Hits) → AreLatencies l → delay l hits ≤ 1200
delay_most l hits range = waits l.tlb l.l2 l.mem hits.tlb hits.first hits.second range.tlb range.l2.1 range.mem.1

-- the bounds of a latency
record IsLatency (n : ℕ) : Type 0 where
  least : 1 ≤ n
  most : n ≤ 1216

with_delay : (l1 wait : ℕ) → 1 ≤ l1 → l1 ≤ 16 → wait ≤ 1200 → IsLatency (l1 + wait)
with_delay l1 wait h k w = record { least = omega arith; most = omega arith }

bounded : (n most : ℕ) → 1 ≤ n → n ≤ most → most ≤ 1216 → IsLatency n
bounded n most h k m = record { least = h; most = omega arith }

is_latency : (l : Latencies) (class : Class) (hits : Option Hits) → AreLatencies l → IsLatency (latency_of l class hits)
is_latency l Mul hits range = bounded l.mul 16 range.mul.0 range.mul.1 (omega arith)
is_latency l Div hits range = bounded l.div 64 range.div.0 range.div.1 (omega arith)
is_latency l Load None range = with_delay l.l1 0 range.l1.0 range.l1.1 (omega arith)
is_latency l Load (Some hits) range = with_delay l.l1 (delay l hits) range.l1.0 range.l1.1 (delay_most l hits range)
is_latency l Alu hits range = record { least = omega arith; most = omega arith }
is_latency l Store hits range = record { least = omega arith; most = omega arith }
is_latency l Control hits range = record { least = omega arith; most = omega arith }
is_latency l Ecall hits range = record { least = omega arith; most = omega arith }

same_class : (class : Class) → accesses_memory class ≡ is_memory class
same_class Alu = refl
same_class Mul = refl
same_class Div = refl
same_class Load = refl
same_class Store = refl
same_class Control = refl
same_class Ecall = refl

word_given :
    (b : Bool) (access : Option DataRef) (f : DataRef → ℕ) → is_some access ≡ b
    → IsSome (option_map f access) ↔ IsTrue b
word_given b None f h = rw (← h) (λ x. x, λ x. x)
word_given b (Some d) f h = rw (← h) (λ x. x, λ x. x)

mark_in_range :
    (l : Latencies) (s : State) (e : Event) → AreLatencies l → IsWellFormed e → IsMarked (mark_of l s e)
unfolding mark_of
mark_in_range l s e range formed =
    let latency : IsLatency (mark_of l s e).latency = is_latency l e.class _ range in
    record {
      stall = delay_most l _ range;
      latency_least = latency.least;
      latency_most = latency.most;
      word = rw (same_class e.class) (word_given (is_memory e.class) e.access _ formed.access);
    }

pub marks_in_range :
    (l : Latencies) (s : State) (es : List Event) → AreLatencies l → All IsWellFormed es
    → All IsMarked (marks l s es)
unfolding marks
marks_in_range l s [] range formed = All-nil IsMarked
marks_in_range l s (e ∷ es) range formed =
    All-cons IsMarked _ _ (mark_in_range l s e range (formed 0 e (omega arith)))
    (marks_in_range l (after_event s e) es range (λ i d h. formed (suc i) d (omega arith)))
