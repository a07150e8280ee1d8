-- A point of a run is one of its header.
use Rattle.std.proofs.Common.{◌≡◌, ◌≤◌, ◌+◌, ◌*◌, ℕ, List, [], ◌∷◌, ◌++◌, length, map, fold, Bool, true, false, cond, Option, Some, None, refl, sym, ap, ◌∙◌, arith, length-append}
use Rattle.std.specs.FinMap as finite
use Rattle.std.specs.Cmp.{nat_cmp_total}
use Rattle.live_words.specs.LiveWords.{live_words, first_values}
use Rattle.live_words.specs.Words.{memory_of, pairs_of}
use Rattle.live_words.proofs.LiveWordsLemmas.{first_values_are_start}
use Rattle.predictor.specs.declared.kind.PredictorKind.{PredictorKind}
use Rattle.predictor.specs.Rules.{observed, trained}
use Rattle.predictor.specs.Tables.{Tables, empty_tables}
use Rattle.predictor.proofs.Trains.{observed_kind}
use Rattle.recency_record.specs.Recency.{record_of}
use Rattle.rv_exec.specs.declared.event.DataRef.{DataRef}
use Rattle.rv_exec.specs.declared.event.Event.{Event}
use Rattle.rv_exec.specs.Machine.{State}
use Rattle.rv_exec.specs.Memory.{Words}
use Rattle.rv_exec.specs.References.{transfers, data_word, words_found}
use Rattle.rv_exec.specs.Runs.{Run, run_of}
use Rattle.rv_exec.proofs.RunsLemmas.{runs_whole}
use Rattle.sample_design.specs.declared.units.Window.{Window}
use Rattle.sample_design.specs.Units.{window_of}
use Rattle.live_points.specs.Laws.{PointsAreOfHeader}
use Rattle.live_points.specs.Points.{images_after, point_of}
use Rattle.live_points.proofs.PointLemmas.{window_ends}
use Rattle.live_points.proofs.RunLemmas.{stretch_goes_on, pc_of}

-- ---- images

fold_kind : (t : Tables) (events : List Event) → (fold observed t events).kind ≡ t.kind
fold_kind t [] = refl
fold_kind t (e ∷ events) = fold_kind (observed t e) events ∙ observed_kind t e

trained_kind : (kind : PredictorKind) (events : List Event) → (trained kind events).kind ≡ kind
unfolding trained
trained_kind kind events = fold_kind (empty_tables kind) events

kinds_of_images :
    (kinds : List PredictorKind) (events : List Event)
    → map (λ (image : Tables). image.kind) (images_after kinds events) ≡ kinds
kinds_of_images [] events = refl
kinds_of_images (k ∷ kinds) events = λ i. trained_kind k (transfers events) i ∷ kinds_of_images kinds events i

-- ---- words

few_data : (access : Option DataRef) → length (data_word access) ≤ 1
few_data None = omega arith
few_data (Some d) = omega arith

few_found : (events : List Event) → length (words_found events) ≤ 2 * length events
unfolding words_found
few_found [] = omega arith
few_found (e ∷ events) =
    let rest : length (words_found events) ≤ 2 * length events = few_found events in
    let here : length (data_word e.access) ≤ 1 = few_data e.access in
    let all : length (data_word e.access ++ words_found events) ≡ length (data_word e.access) + length (words_found events) =
    length-append (data_word e.access) (words_found events) in
    omega arith

one_more_at_most : (held : Bool) (len : ℕ) → cond held len (len + 1) ≤ len + 1
one_more_at_most true len = omega arith
one_more_at_most false len = omega arith

few_held : (pairs : List (ℕ × ℕ)) → finite.len (memory_of pairs) ≤ length pairs
few_held [] = let none : finite.len (memory_of []) ≡ 0 = finite.len-empty _ ℕ in omega arith
few_held (p ∷ pairs) =
    let rest : finite.len (memory_of pairs) ≤ length pairs = few_held pairs in
    let more : finite.len (memory_of (p ∷ pairs))
    ≡ cond (finite.contains_key (memory_of pairs) p.0) (finite.len (memory_of pairs)) (finite.len (memory_of pairs) + 1) =
    finite.len-insert nat_cmp_total (memory_of pairs) p.0 p.1 in
    let most = one_more_at_most (finite.contains_key (memory_of pairs) p.0) (finite.len (memory_of pairs)) in
    omega arith

few_live : (m : State) (n : ℕ) → (run_of m n).halt ≡ None → length (pairs_of (live_words m.words (run_of m n).events)) ≤ 2 * n
unfolding first_values
few_live m n whole =
    let events : List Event = (run_of m n).events in
    let len : length events ≡ n = runs_whole m n whole in
    let live : length (pairs_of (live_words m.words events)) ≡ finite.len (memory_of (words_found events)) =
    sym (finite.len-entries (live_words m.words events))
    ∙ ap (λ (words : Words). finite.len words) (sym (first_values_are_start m n)) in
    let held : finite.len (memory_of (words_found events)) ≤ length (words_found events) = few_held (words_found events) in
    let found : length (words_found events) ≤ 2 * length events = few_found events in
    omega arith

pub points_are_of_header : PointsAreOfHeader
unfolding point_of record_of
points_are_of_header start length_of header unit whole at h =
    let window : Window = window_of header.design unit in
    let before : Run = run_of start window.start in
    record {
      l1i = refl;
      l1d = refl;
      l2 = refl;
      itlb = refl;
      dtlb = refl;
      kinds = kinds_of_images header.records.kinds before.events;
      pc = pc_of start window.start at;
      words =
          few_live before.after window.len
          (stretch_goes_on start window.start window.len length_of whole (window_ends header.design unit length_of h));
    }
