-- A live-point answers as its unit.
use Rattle.std.proofs.Common.{◌≡◌, ◌<◌, ◌≤◌, ℕ, suc, ◌+◌, List, [], ◌∷◌, map, true, Option, None, refl, sym, ap, ◌∙◌, arith, inl, inr}
use Rattle.std.specs.Prelude.{◌==◌}
use Rattle.std.specs.List.{All}
use Rattle.sample_design.specs.Order.{order_of}
use Rattle.sample_design.proofs.Orders.{order_below}
use Rattle.std.proofs.lemmas.Bool.{cases_Bool, and_parts, eqb-true, false≢true}
use Rattle.confidence.specs.declared.answer.Answer.{Answer}
use Rattle.hierarchy.specs.declared.config.Config.{Config}
use Rattle.hierarchy.specs.declared.state.State as warm
use Rattle.hierarchy.specs.declared.widths.Latencies.{Latencies}
use Rattle.hierarchy.specs.Trace.{trace, marks, unless_halted}
use Rattle.hierarchy.specs.Warming.{warmed, cache_after}
use Rattle.live_words.specs.LiveWords.{live_words}
use Rattle.live_words.specs.Words.{memory_of, pairs_of}
use Rattle.live_words.proofs.LiveWordsLemmas.{live_words_suffice}
use Rattle.live_words.proofs.MemoryLemmas.{pairs_held}
use Rattle.lru_plain.specs.Shape.{Shape}
use Rattle.predictor.specs.declared.kind.PredictorKind.{PredictorKind}
use Rattle.predictor.specs.declared.kind.Scheme.{Scheme}
use Rattle.predictor.specs.declared.kind.Scheme.TheVariants.{Bimodal, Gshare}
use Rattle.predictor.specs.Rules.{trained}
use Rattle.rebuild.specs.Merge.{Fits}
use Rattle.rebuild.proofs.Merging.{rebuilds_plain}
use Rattle.recency_record.specs.Recency.{record_of}
use Rattle.rv_exec.specs.declared.event.Event.{Event}
use Rattle.rv_exec.specs.Laws.{RunsTheSame}
use Rattle.rv_exec.specs.Machine.{State}
use Rattle.rv_exec.specs.Memory.{Words, Every}
use Rattle.rv_exec.specs.References.{transfers}
use Rattle.rv_exec.specs.Runs.{Run, Halt, run_of}
use Rattle.rv_exec.specs.Steps.{over}
use Rattle.sample_design.specs.declared.design.Design.{Design}
use Rattle.sample_design.specs.declared.units.Window.{Window}
use Rattle.sample_design.specs.Units.{sampled_unit, window_of, EndsWithin}
use Rattle.unit_answers.specs.Answers.{answer_by, whole_answer, unit_answers}
use Rattle.live_points.specs.declared.header.Header.{Header}
use Rattle.live_points.specs.Kinds.{same_scheme, same_kind, is_among}
use Rattle.live_points.specs.Laws.{PointsAnswer, AllPointsAnswer, BudgetIsNothing}
use Rattle.live_points.specs.Points.{images_after, point_of, points_of}
use Rattle.live_points.specs.PointAnswers.{cache_from, image_of, warm_at, machine_at, point_answer}
use Rattle.live_points.specs.Beyond.{IsWithin}
use Rattle.live_points.proofs.RunLemmas.{stretch_goes_on, running, heap_of}

-- ---- kinds

schemes_are : (one other : Scheme) → same_scheme one other ≡ true → one ≡ other
schemes_are Bimodal Bimodal same = refl
schemes_are Gshare Gshare same = refl
schemes_are Bimodal Gshare same = absurd (false≢true same)
schemes_are Gshare Bimodal same = absurd (false≢true same)

pub kinds_are : (one other : PredictorKind) → same_kind one other ≡ true → one ≡ other
kinds_are one other same =
    let a = and_parts (same_scheme one.scheme other.scheme) _ same in
    let b = and_parts (one.bits == other.bits) _ a.1 in
    let d = and_parts (one.target_log == other.target_log) (one.depth == other.depth) b.1 in
    let scheme : one.scheme ≡ other.scheme = schemes_are one.scheme other.scheme a.0 in
    let bits : one.bits ≡ other.bits = eqb-true one.bits other.bits b.0 in
    let target_log : one.target_log ≡ other.target_log = eqb-true one.target_log other.target_log d.0 in
    let depth : one.depth ≡ other.depth = eqb-true one.depth other.depth d.1 in
    λ i. record { scheme = scheme i; bits = bits i; target_log = target_log i; depth = depth i }

-- the image of a listed kind is that of its own training
image_is :
    (kind : PredictorKind) (kinds : List PredictorKind) (events : List Event) → is_among kind kinds ≡ true
    → image_of kind kinds (images_after kinds events) ≡ trained kind (transfers events)
image_is kind [] events among = absurd (false≢true among)
image_is kind (k ∷ kinds) events among = elim (cases_Bool (same_kind kind k)) [
  | inl same ↦ rw same (ap (λ (x : PredictorKind). trained x (transfers events)) (sym (kinds_are kind k same)))
  | inr other ↦ rw other (image_is kind kinds events (rw other at among))
]

-- ---- caches

cache_is : (addrs : List ℕ) (large small : Shape) → Fits large small → cache_from (record_of addrs large) small ≡ cache_after small addrs
cache_is addrs large small fit = ap (λ (sets : List (List ℕ)). record { shape = small; sets = sets }) (rebuilds_plain addrs large small fit)

-- caches and predictor of the point are those of the unit
warm_is :
    (config : Config) (header : Header) (start : State) (unit : ℕ) → IsWithin header.records config
    → warm_at config header.records (point_of header start unit)
    ≡ warmed config.places config.kind (run_of start (window_of header.design unit).start).events
unfolding point_of warmed
warm_is config header start unit fit =
    let events : List Event = (run_of start (window_of header.design unit).start).events in
    let l1i = cache_is _ header.records.places.l1i config.places.l1i fit.l1i in
    let l1d = cache_is _ header.records.places.l1d config.places.l1d fit.l1d in
    let l2 = cache_is _ header.records.places.l2 config.places.l2 fit.l2 in
    let itlb = cache_is _ header.records.places.itlb config.places.itlb fit.itlb in
    let dtlb = cache_is _ header.records.places.dtlb config.places.dtlb fit.dtlb in
    let image = image_is config.kind header.records.kinds events fit.predictor in
    λ i. record {
      caches = record { l1i = l1i i; l1d = l1d i; l2 = l2 i; itlb = itlb i; dtlb = dtlb i };
      predictor = image i;
    }

-- ---- the machine

-- a machine over other words
machine_by :
    (m : State) (heap_low : ℕ) (words other : Words) → heap_low ≡ m.heap_low → m.exit ≡ None → words ≡ other
    → ◌≡◌ {A = State} (record {
      pc = m.pc;
      regs = m.regs;
      brk = m.brk;
      heap_low = heap_low;
      exit = None;
      words = words;
      buffers = Every;
    }) (over m other)
machine_by m heap_low words other heap exit same =
    λ i. record {
      pc = m.pc;
      regs = m.regs;
      brk = m.brk;
      heap_low = heap i;
      exit = sym exit i;
      words = same i;
      buffers = Every;
    }

-- a trace over the words that it touches
trace_same :
    (l : Latencies) (s : warm.State) (m : State) (n : ℕ) (words : Words) → (run_of m n).halt ≡ None
    → RunsTheSame m n words → trace l s (over m words) n ≡ trace l s m n
unfolding trace
trace_same l s m n words whole again =
    ap (λ (r : Run). unless_halted r.halt (marks l s r.events)) again.run
    ∙ ap (λ (halt : Option Halt). unless_halted halt (marks l s (run_of m n).events)) (sym whole)

-- the window of a unit that ends within the run
pub window_ends : (design : Design) (unit length : ℕ) → EndsWithin design length unit
    → (window_of design unit).start + (window_of design unit).len ≤ length
window_ends design unit length h = omega (arith, h)

pub points_answer : PointsAnswer
unfolding point_of point_answer whole_answer
points_answer start length header config unit whole heap fit some h =
    let window : Window = window_of header.design unit in
    let before : Run = run_of start window.start in
    let goes_on : (run_of before.after window.len).halt ≡ None =
    stretch_goes_on start window.start window.len length whole (window_ends header.design unit length h) in
    let exit : before.after.exit ≡ None = running before.after window.len (omega arith) goes_on in
    let words : Words = live_words before.after.words (run_of before.after window.len).events in
    let machine_is : machine_at header (point_of header start unit) ≡ over before.after words =
    machine_by before.after header.heap_low (memory_of (pairs_of words)) words
    (heap ∙ sym (heap_of start window.start)) exit (pairs_held words) in
    ap (λ (s : warm.State). answer_by config window.skip
    (trace config.latencies s (machine_at header (point_of header start unit)) window.len))
    (warm_is config header start unit fit)
    ∙ ap (λ (m : State). answer_by config window.skip
    (trace config.latencies (warmed config.places config.kind before.events) m window.len)) machine_is
    ∙ ap (answer_by config window.skip)
    (trace_same config.latencies (warmed config.places config.kind before.events) before.after window.len words goes_on
    (live_words_suffice before.after window.len goes_on))

mapped_twice :
    {A B C : Type 0} (f : A → B) (g : B → C) (xs : List A) → map g (map f xs) ≡ map (λ x. g (f x)) xs
mapped_twice f g [] = refl
mapped_twice f g (x ∷ xs) = λ i. g (f x) ∷ mapped_twice f g xs i

-- and so do those of a list of sampled units
each_answers :
    (point whole : ℕ → Answer) (count : ℕ) (ps : List ℕ) → All (λ p. p < count) ps
    → ((p : ℕ) → p < count → point p ≡ whole p) → map point ps ≡ map whole ps
each_answers point whole count [] below same = refl
each_answers point whole count (p ∷ ps) below same =
    let here : point p ≡ whole p = same p (below 0 0 (omega arith)) in
    let rest : map point ps ≡ map whole ps =
    each_answers point whole count ps (λ k d h. below (suc k) d (omega arith)) same in
    λ i. here i ∷ rest i

pub all_points_answer : AllPointsAnswer
unfolding points_of unit_answers
all_points_answer start length header config count whole heap fit some h =
    mapped_twice (λ p. point_of header start (sampled_unit header.design p)) (point_answer config header) (order_of count header.design.seed)
    ∙ each_answers
    (λ p. point_answer config header (point_of header start (sampled_unit header.design p)))
    (λ p. whole_answer config start header.design (sampled_unit header.design p))
    count (order_of count header.design.seed) (order_below count header.design.seed)
    (λ p below. points_answer start length header config (sampled_unit header.design p) whole heap fit some (h p below))

pub budget_is_nothing : BudgetIsNothing
unfolding unit_answers whole_answer
budget_is_nothing config start design count budget = refl
