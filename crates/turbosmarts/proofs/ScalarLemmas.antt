-- The latencies of the instructions since a unit began.
use Rattle.std.proofs.Common.{◌≡◌, ◌≤◌, ◌+◌, ◌%◌, ◌^◌, ◌++◌, ℕ, zero, suc, List, [], ◌∷◌, Bool, false, length, drop, sum_by, refl, sym, ap, ◌∙◌, arith, zero-add}
use Rattle.std.proofs.Math.Nat.{mod-eq_of_lt, mod-add-mod}
use Rattle.std.proofs.lemmas.List.{drop-drop, drop-append-le, length-append}
use Rattle.std.proofs.lemmas.List.Sums.{sum_by-append, sum_by-cons}
use Rattle.std.proofs.Math.Seq.{drop-length}
use Rattle.confidence.specs.Sums.{IsCycles}
use Rattle.hierarchy.specs.declared.config.Config.{Config}
use Rattle.hierarchy.specs.declared.marked.Marked.{Marked}
use Rattle.hierarchy.specs.declared.state.State.{State}
use Rattle.hierarchy.specs.declared.widths.Latencies.{Latencies}
use Rattle.hierarchy.specs.State.{mark_of, after_event}
use Rattle.hierarchy.specs.Trace.{marks}
use Rattle.hierarchy.specs.Widths.{AreLatencies}
use Rattle.hierarchy.proofs.TraceLemmas.{length-marks}
use Rattle.ruu_timing.proofs.ScalarLemmas.{scalar_within}
use Rattle.ruu_timing.specs.Scalar.{scalar_latency, scalar_cycles}
use Rattle.rv_exec.specs.declared.event.Event.{Event}
use Rattle.sample_design.specs.declared.units.Window.{Window}
use Rattle.turbosmarts.specs.Scalar.{HasSummed, latencies_since}
use Rattle.turbosmarts.specs.Processor.{marks_of, window_cycles, IsAtEnd, IsTimeable}
use Rattle.ruu_timing.specs.Machine.{cycles_by}

-- marking an instruction leaves its class
classes_kept :
    (l : Latencies) (s : State) (es : List Event) (k : ℕ)
    → sum_by (λ m. scalar_latency l m.class) (drop k (marks l s es))
    ≡ sum_by (λ e. scalar_latency l e.class) (drop k es)
unfolding marks mark_of
classes_kept l s [] zero = refl
classes_kept l s [] (suc k) = refl
classes_kept l s (e ∷ es) zero =
    sum_by-cons (λ m. scalar_latency l m.class) (mark_of l s e) (marks l (after_event s e) es)
    ∙ ap (λ (n : ℕ). scalar_latency l e.class + n) (classes_kept l (after_event s e) es zero)
    ∙ sym (sum_by-cons (λ e. scalar_latency l e.class) e es)
classes_kept l s (e ∷ es) (suc k) = classes_kept l (after_event s e) es k

pub summed_none : (config : Config) → config.ruu ≡ false → HasSummed config 0 0 []
unfolding latencies_since
summed_none config kind = record { kind = kind; begins = omega arith; sum = refl }

-- a unit begins
pub summed_anew :
    (config : Config) (sum begun : ℕ) (es : List Event)
    → HasSummed config sum begun es → HasSummed config 0 (length es) es
unfolding latencies_since
summed_anew config sum begun es before = record {
  kind = before.kind;
  begins = omega arith;
  sum = rw (drop-length es) refl;
}

-- one instruction more
pub summed_more :
    (config : Config) (sum begun now : ℕ) (es : List Event) (e : Event)
    → HasSummed config sum begun es → now ≡ (sum + scalar_latency config.latencies e.class) % 2 ^ 32
    → HasSummed config now begun (es ++ e ∷ [])
unfolding latencies_since
summed_more config sum begun now es e before is =
    let l : ℕ = scalar_latency config.latencies e.class in
    let all : ℕ = sum_by (λ e. scalar_latency config.latencies e.class) (drop begun es) in
    let longer : sum_by (λ e. scalar_latency config.latencies e.class) (drop begun (es ++ e ∷ [])) ≡ all + l =
    ap (sum_by (λ e. scalar_latency config.latencies e.class)) (drop-append-le begun es (e ∷ []) before.begins)
    ∙ sum_by-append (λ e. scalar_latency config.latencies e.class) (drop begun es) (e ∷ [])
    ∙ ap (λ (n : ℕ). all + n) (zero-add l) in
    record {
      kind = before.kind;
      begins = omega (arith, before.begins, length-append es (e ∷ []));
      sum = is ∙ ap (λ (n : ℕ). (n + l) % 2 ^ 32) before.sum ∙ mod-add-mod all (2 ^ 32) l
          ∙ ap (λ (n : ℕ). n % 2 ^ 32) (sym longer);
    }

by_latencies :
    (ruu : Bool) (config : Config) (ms : List Marked) (skip : ℕ) → ruu ≡ false
    → cycles_by ruu config ms skip ≡ scalar_cycles config.latencies ms skip
by_latencies ruu config ms skip kind = rw kind refl

-- the sum at the end of a window is the cycles of its unit
pub summed_told :
    (config : Config) (sum begun longest : ℕ) (es : List Event) (window : Window)
    → AreLatencies config.latencies → HasSummed config sum begun es → IsAtEnd window begun es
    → IsTimeable window longest
    → (sum ≡ window_cycles config es window) × IsCycles sum
unfolding window_cycles marks_of latencies_since
summed_told config sum begun longest es window ranges summed end timeable =
    let ms : List Marked = marks_of config es in
    let all : ℕ = scalar_cycles config.latencies ms begun in
    let many : length ms ≡ length es = length-marks config.latencies _ es in
    let range = scalar_within config.latencies ms begun ranges in
    let least : 16 ≤ all = omega (arith, many, range.0, end.begins, end.ends, timeable.least) in
    let most : all ≤ 640000 = omega (arith, many, range.1, end.begins, end.ends, timeable.most) in
    let same : all ≡ latencies_since config begun es = classes_kept config.latencies _ es begun in
    let is : sum ≡ all =
    summed.sum ∙ ap (λ (n : ℕ). n % 2 ^ 32) (sym same) ∙ mod-eq_of_lt (omega arith) in
    let told : window_cycles config es window ≡ all =
    by_latencies config.ruu config (drop window.start ms) window.skip summed.kind
    ∙ ap (sum_by (λ m. scalar_latency config.latencies m.class)) (drop-drop window.skip window.start ms)
    ∙ ap (λ (k : ℕ). scalar_cycles config.latencies ms k) (sym end.begins) in
    (is ∙ sym told, (omega (arith, is, least), omega (arith, is, most)))
