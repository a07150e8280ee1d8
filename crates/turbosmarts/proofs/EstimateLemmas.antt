-- What `estimate` answers, stage by stage.
use Rattle.std.proofs.Common.{◌≡◌, ◌<◌, ◌≤◌, ◌+◌, ℕ, zero, suc, List, [], ◌∷◌, length, map, fold, Bool, true, false, not, Option, Some, None, Result, Ok, Err, refl, sym, ap, subst, ◌∙◌, ◌⊎◌, arith, inl, inr, eq-eqb}
use Rattle.std.proofs.lemmas.List.{length-map}
use Rattle.std.proofs.lemmas.Bool.{and_parts, cases_lt, eqb-true, le-leb, leb-true}
use Rattle.std.specs.Prelude.{IfSome, IsErrAnd, slice_get}
use Rattle.confidence.specs.declared.answer.Answer.{Answer}
use Rattle.confidence.specs.declared.answer.Answer.TheVariants.{Cycles, Fault}
use Rattle.confidence.specs.declared.verdict.Test.{Test}
use Rattle.hierarchy.specs.declared.config.Config.{Config}
use Rattle.live_points.specs.declared.header.Header.{Header}
use Rattle.live_points.specs.declared.header.Records.{Records}
use Rattle.live_points.specs.Beyond.{IsCovered, IsFirstBeyond, IsWithin}
use Rattle.live_points.specs.PointAnswers.{point_answer}
use Rattle.livepoint_format.specs.declared.fault.LibraryFault.{LibraryFault}
use Rattle.livepoint_format.specs.Decoding.{library_of}
use Rattle.livepoint_format.specs.Values.{Head, Point}
use Rattle.livepoint_format.specs.Views.{head_of}
use Rattle.lru_plain.specs.Shape.{Shape}
use Rattle.library_fold.specs.Folding.{with_answers}
use Rattle.library_fold.specs.Given.{HasGiven}
use Rattle.library_reader.specs.Laws.{whole_of}
use Rattle.library_reader.specs.Reader.{Front as LibraryFront}
use Rattle.ordered_fold.proofs.BatchLemmas.{going_of, pushed_number-pushed}
use Rattle.ordered_fold.proofs.Folds.{whole_fold_ends}
use Rattle.ordered_fold.specs.Batch.{pushed_number}
use Rattle.ordered_fold.specs.declared.ending.Ending.{Ending}
use Rattle.ordered_fold.specs.declared.ending.Ending.TheVariants.{Going}
use Rattle.ordered_fold.specs.declared.front.Front.{Front}
use Rattle.ordered_fold.specs.Ending.{ended_by, ending_at, ending_of, end_of, sums_at_end}
use Rattle.ordered_fold.specs.Front.{first_front, folded, front_of, is_going}
use Rattle.rebuild.specs.Merge.{Fits}
use Rattle.smarts_base.proofs.Leasts.{least_below_none, least_below_some}
use Rattle.smarts_base.specs.Least.{least_below}
use Rattle.smarts_io.proofs.Pieces.{gives_all, gives_cut}
use Rattle.smarts_io.specs.Bytes.{cut_past}
use Rattle.smarts_text.specs.declared.processor.Asked.{Asked}
use Rattle.smarts_text.specs.declared.status.DesignFault.TheVariants.{Beyond}
use Rattle.smarts_text.specs.Processor.{config_for}
use Rattle.livepoint_format.specs.Values.{Whole}
use Rattle.window_sim.specs.Desk.{Setup}
use Rattle.turbosmarts.specs.declared.fault.InputFault.TheVariants as faults
use Rattle.turbosmarts.specs.commands.Estimate.{report_or_fault, estimate_of, estimate_on, estimate_result, first_beyond, fits, header_of, is_served}
use Rattle.turbosmarts.specs.declared.fault.InputFault.{InputFault}
use Rattle.turbosmarts.specs.declared.stop.Stop.{Stop}
use Rattle.turbosmarts.specs.declared.stop.Stop.TheVariants as stops
use Rattle.turbosmarts.specs.Served.{IsRead, IsServed, stop_at, stop_of}
use Rattle.turbosmarts.specs.Stages.{Written, library_limit}
use Rattle.confidence.proofs.Lists.{sums_of-nothing}
use Rattle.library_fold.proofs.GivenLemmas.{library_read, stopped_first, stopped_later}
use Rattle.library_fold.specs.Batches.{HasEnded, HasStarted}
use Rattle.library_fold.specs.Folding.{HasFolded}
use Rattle.library_fold.specs.Stops.{IsStopped}
use Rattle.library_fold.specs.declared.stop.Stop.{Stop as LibraryStop}
use Rattle.library_fold.specs.declared.stop.Stop.TheVariants as library_stops
use Rattle.library_reader.proofs.ReadingLemmas.{starts_is}
use Rattle.library_reader.specs.Laws.{IsReadingOf}
use Rattle.library_reader.specs.Reader.{Reading, fresh}
use Rattle.smarts_base.specs.Outcome.{Answers}
use Rattle.smarts_base.specs.declared.refusal.Refusal.{Refusal}
use Rattle.smarts_base.specs.declared.refusal.Refusal.TheVariants as refusals
use Rattle.smarts_text.specs.Report.{report_of}

-- ---- the processor

fits_is : (large small : Shape) → Fits large small → fits large small ≡ true
fits_is large small is = rw (eq-eqb large.line_log small.line_log is.line, le-leb small.sets_log large.sets_log is.sets, le-leb small.ways large.ways is.ways) refl

fits_of : (large small : Shape) → fits large small ≡ true → Fits large small
fits_of large small is =
    let parts = and_parts _ _ is in
    let others = and_parts _ _ parts.1 in
    record { line = eqb-true _ _ parts.0; sets = leb-true _ _ others.0; ways = leb-true _ _ others.1 }

served_is : (records : Records) (config : Config) (k : ℕ) → k < 6 → IsCovered records config k → is_served records config k ≡ true
served_is records config zero few is = fits_is _ _ is
served_is records config (suc zero) few is = fits_is _ _ is
served_is records config (suc (suc zero)) few is = fits_is _ _ is
served_is records config (suc (suc (suc zero))) few is = fits_is _ _ is
served_is records config (suc (suc (suc (suc zero)))) few is = fits_is _ _ is
served_is records config (suc (suc (suc (suc (suc zero))))) few is = is
served_is records config (suc (suc (suc (suc (suc (suc more)))))) few is = absurd (omega (arith, few))

served_of : (records : Records) (config : Config) (k : ℕ) → is_served records config k ≡ true → IsCovered records config k
served_of records config zero is = fits_of _ _ is
served_of records config (suc zero) is = fits_of _ _ is
served_of records config (suc (suc zero)) is = fits_of _ _ is
served_of records config (suc (suc (suc zero))) is = fits_of _ _ is
served_of records config (suc (suc (suc (suc zero)))) is = fits_of _ _ is
served_of records config (suc (suc (suc (suc (suc zero))))) is = is
served_of records config (suc (suc (suc (suc (suc (suc more)))))) is = tt

covered : (records : Records) (config : Config) (k : ℕ) → IsWithin records config → IsCovered records config k
covered records config zero is = is.l1i
covered records config (suc zero) is = is.l1d
covered records config (suc (suc zero)) is = is.l2
covered records config (suc (suc (suc zero))) is = is.itlb
covered records config (suc (suc (suc (suc zero)))) is = is.dtlb
covered records config (suc (suc (suc (suc (suc zero))))) is = is.predictor
covered records config (suc (suc (suc (suc (suc (suc more)))))) is = tt

pub none_beyond : (records : Records) (config : Config) → IsWithin records config → first_beyond records config ≡ None
unfolding first_beyond
none_beyond records config is =
    least_below_none 6 (λ structure. not (is_served records config structure))
    (λ k few. ap not (served_is records config k few (covered records config k is)))

few_of : (records : Records) (config : Config) (k : ℕ) → (IsCovered records config k → ⊥) → k < 6
few_of records config zero beyond = omega arith
few_of records config (suc zero) beyond = omega arith
few_of records config (suc (suc zero)) beyond = omega arith
few_of records config (suc (suc (suc zero))) beyond = omega arith
few_of records config (suc (suc (suc (suc zero)))) beyond = omega arith
few_of records config (suc (suc (suc (suc (suc zero))))) beyond = omega arith
few_of records config (suc (suc (suc (suc (suc (suc more)))))) beyond = absurd (beyond tt)

not_true : (b : Bool) → (b ≡ true → ⊥) → not b ≡ true
not_true true never = absurd (never refl)
not_true false never = refl

pub one_beyond : (records : Records) (config : Config) (k : ℕ) → IsFirstBeyond records config k → first_beyond records config ≡ Some k
unfolding first_beyond
one_beyond records config k is =
    let few : k < 6 = few_of records config k is.beyond in
    least_below_some 6 k (λ structure. not (is_served records config structure)) few
    (not_true (is_served records config k) (λ served. is.beyond (served_of records config k served)))
    (λ j before. ap not (served_is records config j (omega (arith, few, before)) (is.first j before)))

-- ---- the library

same_header : (header : Header) → header.design.budget ≡ 1 → header_of (head_of header) ≡ header
same_header header budget = λ i. record {
  version = header.version;
  length = header.length;
  points = header.points;
  design = record {
    unit = header.design.unit;
    warm = header.design.warm;
    every = header.design.every;
    offset = header.design.offset;
    seed = header.design.seed;
    budget = sym budget i;
  };
  heap_low = header.heap_low;
  records = record { places = header.records.places; kinds = header.records.kinds };
}

on_library :
    (asked : Asked) (test : Test) (given : List ℕ) (header : Header) (front : LibraryFront) (points : List Point)
    → library_of given ≡ Ok (whole_of front points) → head_of header ≡ front.0 → header.design.budget ≡ 1
    → estimate_result asked test given ≡ estimate_on asked test header points
unfolding estimate_result
on_library asked test given header front points read head budget =
    let same : header_of front.0 ≡ header = ap header_of (sym head) ∙ same_header header budget in
    rw read (ap (λ (h : Header). estimate_on asked test h points) same)

pub fault_is :
    (asked : Asked) (test : Test) (given : List ℕ) (fault : LibraryFault) → library_of given ≡ Err fault
    → estimate_result asked test given ≡ Err (faults.BadLibrary fault)
unfolding estimate_result
fault_is asked test given fault read = rw read refl

pub beyond_is :
    (asked : Asked) (test : Test) (given : List ℕ) (header : Header) (front : LibraryFront) (points : List Point) (k : ℕ)
    → library_of given ≡ Ok (whole_of front points) → head_of header ≡ front.0 → header.design.budget ≡ 1
    → first_beyond header.records (config_for asked header.records) ≡ Some k
    → estimate_result asked test given ≡ Err (faults.BadDesign (Beyond k))
beyond_is asked test given header front points k read head budget beyond =
    on_library asked test given header front points read head budget ∙ rw beyond refl

pub within_is :
    (asked : Asked) (test : Test) (given : List ℕ) (header : Header) (front : LibraryFront) (points : List Point)
    → library_of given ≡ Ok (whole_of front points) → head_of header ≡ front.0 → header.design.budget ≡ 1
    → first_beyond header.records (config_for asked header.records) ≡ None
    → estimate_result asked test given ≡ estimate_of test (config_for asked header.records) header points
within_is asked test given header front points read head budget within =
    on_library asked test given header front points read head budget ∙ rw within refl

-- all that a source gave is what is read of it
pub given_read :
    (before after : Option (List ℕ)) (expected : Result Whole LibraryFault) (given : List ℕ)
    → HasGiven before after expected given → IsRead (Some library_limit) before after given
given_read before after expected given is = (is.gives, cut (cases_lt 1073741824 (length given)), omega (arith, is.most))
  where
    cut : (1073741824 < length given) ⊎ (length given ≤ 1073741824) → IfSome before (λ rest. given ≡ cut_past library_limit rest)
    cut (inl many) = gives_cut before after given library_limit is.gives (omega (arith, many, is.most))
    cut (inr few) = gives_all before after given library_limit is.gives (is.whole few) (omega (arith, few))

-- ---- the fold

pub record IsWholeFold (test : Test) (answers : List Answer) (front : Front) : Type 0 where
  pub ending : front.ending ≡ ending_of test answers
  pub sums : front.sums ≡ sums_at_end test answers
  pub over : front.ending ≡ Going → ⊥
  pub some : 0 < pushed_number front

ended_over : (answer : Option Answer) (k : ℕ) → ended_by answer k ≡ Going → ⊥
ended_over None k e = cc
ended_over (Some (Cycles cycles)) k e = cc
ended_over (Some (Fault fault)) k e = cc

ending_over : (answers : List Answer) (end : Option ℕ) → ending_at answers end ≡ Going → ⊥
ending_over answers None e = cc
ending_over answers (Some k) e = ended_over (slice_get answers k) k e

never_going : (test : Test) (answers : List Answer) → ending_of test answers ≡ Going → ⊥
unfolding ending_of
never_going test answers e = ending_over answers (end_of test answers) e

folded_pushes : (front : Front) (answer : Answer) → pushed_number front ≤ pushed_number (folded front answer)
folded_pushes front answer = by (is_going front.ending) refl
  where
    by : (goes : Bool) → is_going front.ending ≡ goes → pushed_number front ≤ pushed_number (folded front answer)
    by true goes = rw goes (omega (arith, pushed_number-pushed front answer (going_of front.ending goes)))
    by false ended = rw ended (omega arith)

fold_pushes : (front : Front) (answers : List Answer) → pushed_number front ≤ pushed_number (fold folded front answers)
fold_pushes front [] = omega arith
fold_pushes front (answer ∷ answers) = omega (arith, folded_pushes front answer, fold_pushes (folded front answer) answers)

some_pushed : (total : ℕ) (test : Test) (answers : List Answer) → 0 < length answers → 0 < pushed_number (front_of total test answers)
unfolding front_of
some_pushed total test [] some = absurd (omega (arith, some))
some_pushed total test (answer ∷ answers) some =
    omega (arith, pushed_number-pushed (first_front total test) answer refl, fold_pushes (folded (first_front total test) answer) answers)

pub whole_fold :
    (setup : Setup) (test : Test) (points : List Point) (total : ℕ) (front : Front) → 0 < total → length points ≡ total
    → front ≡ with_answers setup (first_front total test) points
    → IsWholeFold test (map (point_answer setup.config setup.header) points) front
unfolding front_of
whole_fold setup test points total front some count is =
    let answers : List Answer = map (point_answer setup.config setup.header) points in
    let wide : length answers ≡ total = length-map points (point_answer setup.config setup.header) ∙ count in
    let fold : front ≡ front_of (length answers) test answers = is ∙ ap (λ (n : ℕ). front_of n test answers) (sym wide) in
    let whole = whole_fold_ends test answers (omega (arith, wide, some)) in
    let ending : front.ending ≡ ending_of test answers = ap (λ (f : Front). f.ending) fold ∙ whole.0 in
    record {
      ending = ending;
      sums = ap (λ (f : Front). f.sums) fold ∙ whole.1;
      over = λ e. never_going test answers (sym ending ∙ e);
      some = subst (λ (f : Front). 0 < pushed_number f) (sym fold) (some_pushed (length answers) test answers (omega (arith, wide, some)));
    }

-- ---- what the call answers

-- why a library wasn't read to its end, as what all bytes are
abbrev pub IsGivenStop : LibraryStop → Option (List ℕ) → Option (List ℕ) → Type 0
IsGivenStop (library_stops.Read error) before after = Unit {0}
IsGivenStop (library_stops.Library fault) before after = (given : List ℕ) × HasGiven before after (Err fault) given

pub first_stop : (stop : LibraryStop) (r : Reading) (before after : Option (List ℕ)) → r ≡ fresh → IsStopped stop r before after → IsGivenStop stop before after
first_stop (library_stops.Read error) r before after first is = tt
first_stop (library_stops.Library fault) r before after first is =
    stopped_first fault before after (subst (λ (r : Reading). IsStopped (library_stops.Library fault) r before after) first is)

pub later_stop :
    (stop : LibraryStop) (header : Header) (mid : Reading) (before between after : Option (List ℕ))
    → HasStarted header mid before between → IsStopped stop mid between after → IsGivenStop stop before after
later_stop (library_stops.Read error) header mid before between after start is = tt
later_stop (library_stops.Library fault) header mid before between after start is =
    stopped_later header fault mid before between after start is

pub served_stop :
    (asked : Asked) (test : Test) (result : Result Written Stop) (stop : LibraryStop) (before after : Option (List ℕ))
    → IsErrAnd result (λ s. s ≡ stop_at stop) → IsGivenStop stop before after
    → IsServed result (Some library_limit) (estimate_result asked test) before after
served_stop asked test (Ok written) stop before after is given = absurd is
served_stop asked test (Err s) (library_stops.Read error) before after is given =
    subst (λ (s : Stop). IsServed (Err s) (Some library_limit) (estimate_result asked test) before after) (sym is) tt
served_stop asked test (Err s) (library_stops.Library fault) before after is given =
    subst (λ (s : Stop). IsServed (Err s) (Some library_limit) (estimate_result asked test) before after) (sym is)
    (given.0, given_read before after (Err fault) given.0 given.1, fault_is asked test given.0 fault given.1.library)

pub reading_of : (header : Header) (mid : Reading) (before after : Option (List ℕ)) → HasStarted header mid before after
    → (bytes : List ℕ) × IsReadingOf bytes [] mid
reading_of header mid before after start = (start.1, start.2.read.on [] [] starts_is)

pub served_beyond :
    (asked : Asked) (test : Test) (header : Header) (config : Config) (structure : ℕ) (mid : Reading) (before between after : Option (List ℕ))
    → HasStarted header mid before between → ((points : List Point) × HasEnded mid between after points)
    → config ≡ config_for asked header.records → IsFirstBeyond header.records config structure
    → IsServed (Err (stops.Fault (faults.BadDesign (Beyond structure)))) (Some library_limit) (estimate_result asked test) before after
served_beyond asked test header config structure mid before between after start end same first =
    let library = library_read header mid before between after end.0 start end.1 in
    let beyond : first_beyond header.records (config_for asked header.records) ≡ Some structure =
    subst (λ (c : Config). first_beyond header.records c ≡ Some structure) same (one_beyond header.records config structure first) in (
      library.given,
      given_read before after (Ok (whole_of library.front end.0)) library.given library.is,
      beyond_is asked test library.given header library.front end.0 structure library.is.library library.head start.2.budget beyond,
    )

-- the fold of all points, and what is answered to what was read
pub record IsEstimate (asked : Asked) (test : Test) (header : Header) (before after : Option (List ℕ)) (front : Front) : Type 0 where
  pub given : List ℕ
  pub read : IsRead (Some library_limit) before after given
  pub result : estimate_result asked test given
      ≡ report_or_fault front.ending (report_of header.length header.points header.design.unit front.ending front.sums test.z)
  pub over : front.ending ≡ Going → ⊥
  pub some : 0 < pushed_number front

pub estimate_is :
    (asked : Asked) (test : Test) (header : Header) (config : Config) (mid : Reading) (before between after : Option (List ℕ)) (start front : Front)
    → HasStarted header mid before between → 0 < header.points → start ≡ first_front header.points test
    → HasFolded (record { header = header; config = config }) mid between after start front
    → config ≡ config_for asked header.records → IsWithin header.records config
    → IsEstimate asked test header before after front
estimate_is asked test header config mid before between after start front began some first folds same within =
    let setup : Setup = record { header = header; config = config } in
    let points = folds.0 in
    let library = library_read header mid before between after points began folds.1 in
    let none : first_beyond header.records (config_for asked header.records) ≡ None =
    subst (λ (c : Config). first_beyond header.records c ≡ None) same (none_beyond header.records config within) in
    let fold : IsWholeFold test (map (point_answer config header) points) front =
    whole_fold setup test points header.points front some library.count
    (folds.2 ∙ ap (λ (s : Front). with_answers setup s points) first) in
    let is : estimate_result asked test library.given ≡ estimate_of test config header points =
    within_is asked test library.given header library.front points library.is.library library.head began.2.budget none
    ∙ ap (λ (c : Config). estimate_of test c header points) (sym same) in
    record {
      given = library.given;
      read = given_read before after (Ok (whole_of library.front points)) library.given library.is;
      result = is ∙ rw (← fold.ending, ← fold.sums) refl;
      over = fold.over;
      some = fold.some;
    }

pub served_report :
    (asked : Asked) (test : Test) (header : Header) (before after : Option (List ℕ)) (front : Front) (written : Written)
    → IsEstimate asked test header before after front
    → report_or_fault front.ending (report_of header.length header.points header.design.unit front.ending front.sums test.z) ≡ Ok written
    → IsServed (Ok written) (Some library_limit) (estimate_result asked test) before after
served_report asked test header before after front written is told = (is.given, is.read, is.result ∙ told)

pub served_refusal :
    (asked : Asked) (test : Test) (header : Header) (before after : Option (List ℕ)) (front : Front) (result : Result Written Stop) (refusal : Refusal InputFault)
    → IsErrAnd result (λ s. s ≡ stop_of refusal) → IsEstimate asked test header before after front
    → Answers (λ (written : Written). written) (Err refusal) (report_or_fault front.ending (report_of header.length header.points header.design.unit front.ending front.sums test.z))
    → IsServed result (Some library_limit) (estimate_result asked test) before after
served_refusal asked test header before after front (Ok written) refusal is estimate told = absurd is
served_refusal asked test header before after front (Err s) (refusals.Fault fault) is estimate told =
    subst (λ (s : Stop). IsServed (Err s) (Some library_limit) (estimate_result asked test) before after) (sym is)
    (estimate.given, estimate.read, estimate.result ∙ told)
served_refusal asked test header before after front (Err s) refusals.NoMemory is estimate told =
    subst (λ (s : Stop). IsServed (Err s) (Some library_limit) (estimate_result asked test) before after) (sym is) tt

pub front_begins : (total : ℕ) (test : Test) (front : Front) → front ≡ first_front total test → (front.ending ≡ Going) × (front.sums.n ≡ 0)
front_begins total test front is = (ap (λ (f : Front). f.ending) is, ap (λ (f : Front). f.sums.n) is ∙ sums_of-nothing)
