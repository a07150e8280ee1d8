-- Collecting the live-points of a run, window by window.
use Rattle.std.proofs.Common.{◌≡◌, ◌≢◌, ◌≤◌, ◌<◌, ◌+◌, ◌-◌, ◌*◌, ◌^◌, ℕ, zero, suc, Bool, true, false, List, [], ◌∷◌, ◌++◌, length, drop, Option, None, refl, sym, ap, ◌∙◌, arith, inl, inr, add-one, length-append, length-set}
use Rattle.std.specs.Prelude.{nat_lt, slice_index_or, slice_set}
use Rattle.std.specs.List.{All, range_with_len}
use Rattle.std.proofs.lemmas.Bool.{cases_lt, cases_eq, lt-ltb, le-ltb}
use Rattle.std.proofs.lemmas.List.{length-map, drop-append-le, drop_all, get_or_append_left, get_or-set_same, get_or-set_other}
use Rattle.std.proofs.lemmas.List.Elements.{All-nil, All-push, All-set, All-get_or}
use Rattle.std.proofs.lemmas.List.FromFn.{fill_by_all}
use Rattle.std.proofs.Math.Nat.{mul-le-mul_left, mul-le-mul_right, mul-suc}
use Rattle.std.proofs.Math.Seq.{get_or-append_seam}
use Rattle.live_points.specs.declared.header.Header.{Header}
use Rattle.live_points.specs.declared.header.Records.{Records}
use Rattle.live_points.specs.declared.point.LivePoint.{LivePoint}
use Rattle.live_points.specs.Points.{point_of}
use Rattle.live_points.proofs.RunLemmas.{first_goes_on}
use Rattle.live_words.specs.LiveWords.{live_words, first_values}
use Rattle.live_words.specs.Windows.{WindowsValue, window_at, with_window}
use Rattle.live_words.specs.Words.{AreWords, memory_of, pairs_of}
use Rattle.live_words.proofs.LiveWordsLemmas.{first_values_are_start}
use Rattle.rv_exec.specs.declared.event.Event.{Event}
use Rattle.rv_exec.specs.Machine.{State}
use Rattle.rv_exec.specs.Memory.{Words}
use Rattle.rv_exec.specs.References.{words_found}
use Rattle.rv_exec.specs.Runs.{Run, run_of, joined}
use Rattle.rv_exec.proofs.RunsLemmas.{runs_split, runs_whole}
use Rattle.sample_design.specs.declared.design.Design.{Design}
use Rattle.sample_design.specs.Units.{sampled_unit, window_of, end_of, EndsWithin}
use Rattle.warming.specs.declared.pass.Pass.{Pass}
use Rattle.warming.specs.Collecting.{CanCollect, IsCollecting, begin_of, points_in_order, so_far, with_words}
use Rattle.warming.specs.Learning.{Learnt, learnt_of}
use Rattle.warming.specs.Passing.{CanRun, IsPassing, HasFields, begun_point}
use Rattle.warming.proofs.PassingLemmas.{come_to}

-- ---- windows

-- a window ends with its unit
pub window_to : (design : Design) (unit : ℕ) → (window_of design unit).start + (window_of design unit).len ≡ end_of design unit
window_to design unit = omega arith

pub begins_first : (design : Design) (unit : ℕ) → 0 < design.unit → (window_of design unit).start < end_of design unit
begins_first design unit some = omega arith

units_rise : (design : Design) (p : ℕ) → sampled_unit design p ≤ sampled_unit design (p + 1)
units_rise design p =
    let more : design.every * p ≤ design.every * (p + 1) = mul-le-mul_left design.every (omega arith) in
    omega arith

pub begins_rise : (design : Design) (p : ℕ) → begin_of design p ≤ begin_of design (p + 1)
begins_rise design p =
    let more : sampled_unit design p * design.unit ≤ sampled_unit design (p + 1) * design.unit =
    mul-le-mul_right design.unit (units_rise design p) in
    omega arith

pub ends_rise : (design : Design) (p : ℕ) → end_of design (sampled_unit design p) ≤ end_of design (sampled_unit design (p + 1))
ends_rise design p =
    let units : sampled_unit design p ≤ sampled_unit design (p + 1) = units_rise design p in
    mul-le-mul_right design.unit (omega arith)

-- a unit that ends within a run that isn't too long has a small number
pub unit_small : (design : Design) (unit length : ℕ) → 16 ≤ design.unit → length ≤ 2 ^ 36 → EndsWithin design length unit → unit < 2 ^ 32
unit_small design unit length least short ends =
    let more : (unit + 1) * 16 ≤ (unit + 1) * design.unit = mul-le-mul_left (unit + 1) least in
    omega arith

-- ---- points

-- the point of a unit whose window begins here, but for the words
pub begun_is :
    (start : State) (header : Header) (begins : ℕ → ℕ) (pass : Pass) (unit : ℕ)
    → IsPassing start header.records begins pass → pass.at ≡ (window_of header.design unit).start
    → begun_point unit pass ≡ so_far false (point_of header start unit)
unfolding point_of
begun_is start header begins pass unit before at =
    let state : pass.whole.state ≡ (run_of start (window_of header.design unit).start).after =
    before.state ∙ ap (λ (n : ℕ). (run_of start n).after) at in
    let learnt : pass.learner ≡ learnt_of header.records (run_of start (window_of header.design unit).start).events =
    before.learnt ∙ ap (λ (n : ℕ). learnt_of header.records (run_of start n).events) at in
    λ i. record {
      unit = unit;
      pc = (state i).pc;
      regs = (state i).regs;
      brk = (state i).brk;
      words = [];
      places = (learnt i).places;
      images = (learnt i).images;
    }

behind : (begin : ℕ) (xs ys : List Event) → length xs ≡ begin → drop begin (xs ++ ys) ≡ ys
behind begin xs ys len =
    drop-append-le begin xs ys (omega (arith, len)) ∙ ap (λ (l : List Event). l ++ ys) (drop_all begin xs (omega (arith, len)))

-- what a window has found at its end are the words that it touches, as they are at its start
found_is :
    (start : State) (begin len : ℕ) → (run_of start (begin + len)).halt ≡ None
    → first_values (drop begin (run_of start (begin + len)).events)
    ≡ live_words (run_of start begin).after.words (run_of (run_of start begin).after len).events
found_is start begin len whole =
    let come : length (run_of start begin).events ≡ begin = runs_whole start begin (first_goes_on start begin len whole) in
    let rest : List Event = (run_of (run_of start begin).after len).events in
    ap (λ (r : Run). first_values (drop begin r.events)) (runs_split start begin len)
    ∙ ap first_values (behind begin (run_of start begin).events rest come)
    ∙ first_values_are_start (run_of start begin).after len

-- with these words the point is whole
pub whole_with :
    (start : State) (header : Header) (unit at : ℕ) (words : List (ℕ × ℕ)) → (run_of start at).halt ≡ None
    → at ≡ end_of header.design unit
    → words ≡ pairs_of (first_values (drop (window_of header.design unit).start (run_of start at).events))
    → with_words (so_far false (point_of header start unit)) words ≡ point_of header start unit
unfolding point_of
whole_with start header unit at words done is are =
    let begin : ℕ = (window_of header.design unit).start in
    let len : ℕ = (window_of header.design unit).len in
    let same : at ≡ begin + len = is ∙ sym (window_to header.design unit) in
    let whole : (run_of start (begin + len)).halt ≡ None = ap (λ (n : ℕ). (run_of start n).halt) (sym same) ∙ done in
    let found : words ≡ pairs_of (live_words (run_of start begin).after.words (run_of (run_of start begin).after len).events) =
    are ∙ ap (λ (n : ℕ). pairs_of (first_values (drop begin (run_of start n).events))) same
    ∙ ap pairs_of (found_is start begin len whole) in
    λ i. record {
      unit = unit;
      pc = (run_of start begin).after.pc;
      regs = (run_of start begin).after.regs;
      brk = (run_of start begin).after.brk;
      words = found i;
      places = (point_of header start unit).places;
      images = (point_of header start unit).images;
    }

-- ---- the collection

-- no window has started
pub collecting_none :
    (start : State) (header : Header) (pass : Pass) → IsPassing start header.records (begin_of header.design) pass
    → pass.at ≡ 0 → pass.windows ≡ record { windows = []; ended = 0 } → IsCollecting start header pass []
collecting_none start header pass passing at empty = record {
  passing = passing;
  count = ap (λ (v : WindowsValue). length v.windows) empty;
  order = omega (arith, ap (λ (v : WindowsValue). v.ended) empty);
  most = omega arith;
  next = λ h. omega (arith, at);
  values = λ p d h. absurd (omega arith);
  fields = All-nil HasFields;
}

-- some instructions were done
pub collecting_on :
    (start : State) (header : Header) (old new : Pass) (points : List LivePoint)
    → IsPassing start header.records (begin_of header.design) new
    → length new.windows.windows ≡ length old.windows.windows → new.windows.ended ≡ old.windows.ended
    → (length points < header.points → new.at ≤ begin_of header.design (length points))
    → IsCollecting start header old points → IsCollecting start header new points
collecting_on start header old new points passing count ended next before = record {
  passing = passing;
  count = count ∙ before.count;
  order = omega (arith, before.order, ended);
  most = before.most;
  next = next;
  values = λ p d h.
      before.values p d h
      ∙ ap (λ (n : ℕ). so_far (nat_lt p n) (point_of header start (sampled_unit header.design p))) (sym ended);
  fields = before.fields;
}

-- what a window has found that is the last one
window_last : (value : WindowsValue) (k : ℕ) → k ≡ length value.windows → window_at (with_window value) k ≡ memory_of []
window_last value k same =
    ap (window_at (with_window value)) same ∙ get_or-append_seam value.windows (memory_of []) [] (memory_of [])

window_kept : (value : WindowsValue) (k : ℕ) → k < length value.windows → window_at (with_window value) k ≡ window_at value k
window_kept value k within = get_or_append_left value.windows (memory_of [] ∷ []) (memory_of []) k within

none_found : (begin : ℕ) (es : List Event) → length es ≤ begin → first_values (drop begin es) ≡ memory_of []
unfolding first_values words_found
none_found begin es few = ap (λ (l : List Event). memory_of (words_found l)) (drop_all begin es few)

pub passing_start :
    (start : State) (records : Records) (begins : ℕ → ℕ) (old new : Pass)
    → (let windows : WindowsValue = with_window old.windows in new ≡ record old { windows = windows })
    → begins (length old.windows.windows) ≡ old.at
    → IsPassing start records begins old → IsPassing start records begins new
passing_start start records begins old new is at before =
    rw is
    (let long : length (with_window old.windows).windows ≡ length old.windows.windows + 1 =
    length-append old.windows.windows (memory_of [] ∷ []) in
    record {
      done = before.done;
      state = before.state;
      learnt = before.learnt;
      began = λ k h. elim (cases_lt k (length old.windows.windows)) [
        | inl lt ↦ before.began k lt
        | inr ge ↦
            let last : k ≡ length old.windows.windows = omega arith in
            omega (arith, at, ap begins last)
      ];
      found = λ k low high. elim (cases_lt k (length old.windows.windows)) [
        | inl lt ↦ window_kept old.windows k lt ∙ before.found k low lt
        | inr ge ↦
            let last : k ≡ length old.windows.windows = omega arith in
            window_last old.windows k last
            ∙ sym (none_found (begins k) (run_of start old.at).events
            (omega (arith, at, ap begins last, come_to start records begins old before)))
      ];
    })

-- a window started
pub collecting_start :
    (start : State) (header : Header) (old new : Pass) (points : List LivePoint) (point : LivePoint) (unit : ℕ)
    → (let windows : WindowsValue = with_window old.windows in new ≡ record old { windows = windows })
    → length points < header.points → unit ≡ sampled_unit header.design (length points)
    → old.at ≡ begin_of header.design (length points)
    → point ≡ begun_point unit old → HasFields point
    → IsCollecting start header old points → IsCollecting start header new (points ++ point ∷ [])
collecting_start start header old new points point unit is more unit_is at begun fields before =
    let long : length (points ++ point ∷ []) ≡ length points + 1 = length-append points (point ∷ []) in
    let windows : length new.windows.windows ≡ length old.windows.windows + 1 =
    ap (λ (p : Pass). length p.windows.windows) is ∙ length-append old.windows.windows (memory_of [] ∷ []) in
    let ended : new.windows.ended ≡ old.windows.ended = ap (λ (p : Pass). p.windows.ended) is in
    let here : new.at ≡ old.at = ap (λ (p : Pass). p.at) is in
    let value : point ≡ so_far false (point_of header start (sampled_unit header.design (length points))) =
    begun ∙ ap (λ (u : ℕ). begun_point u old) unit_is
    ∙ begun_is start header (begin_of header.design) old (sampled_unit header.design (length points)) before.passing at in
    record {
      passing = passing_start start header.records (begin_of header.design) old new is
          (ap (begin_of header.design) before.count ∙ sym at) before.passing;
      count = omega (arith, windows, before.count, long);
      order = omega (arith, before.order, ended, long);
      most = omega (arith, long);
      next = λ h. omega (arith, here, at, begins_rise header.design (length points), ap (begin_of header.design) long);
      values = λ p d h. elim (cases_lt p (length points)) [
        | inl lt ↦
            get_or_append_left points (point ∷ []) d p lt ∙ before.values p d lt
            ∙ ap (λ (n : ℕ). so_far (nat_lt p n) (point_of header start (sampled_unit header.design p))) (sym ended)
        | inr ge ↦
            let last : p ≡ length points = omega (arith, long) in
            let open_yet : nat_lt p new.windows.ended ≡ false = le-ltb p new.windows.ended (omega (arith, before.order, ended)) in
            ap (λ (n : ℕ). slice_index_or (points ++ point ∷ []) n d) last
            ∙ get_or-append_seam points point [] d ∙ value
            ∙ ap (λ (n : ℕ). so_far false (point_of header start (sampled_unit header.design n))) (sym last)
            ∙ ap (λ (b : Bool). so_far b (point_of header start (sampled_unit header.design p))) (sym open_yet)
      ];
      fields = All-push HasFields points point before.fields fields;
    }

pub passing_end :
    (start : State) (records : Records) (begins : ℕ → ℕ) (old new : Pass)
    → (let windows : WindowsValue = record { windows = old.windows.windows; ended = old.windows.ended + 1 } in new ≡ record old { windows = windows })
    → IsPassing start records begins old → IsPassing start records begins new
passing_end start records begins old new is before =
    rw is
    (record {
      done = before.done;
      state = before.state;
      learnt = before.learnt;
      began = before.began;
      found = λ k low high. before.found k (omega arith) high;
    })

-- the first window that hadn't ended did
pub collecting_end :
    (start : State) (header : Header) (old new : Pass) (points : List LivePoint) (begun : LivePoint) (words : List (ℕ × ℕ)) (p : ℕ)
    → (let windows : WindowsValue = record { windows = old.windows.windows; ended = old.windows.ended + 1 } in new ≡ record old { windows = windows })
    → p ≡ old.windows.ended → p < length points
    → old.at ≡ end_of header.design (sampled_unit header.design p)
    → words ≡ pairs_of (window_at old.windows old.windows.ended)
    → begun ≡ slice_index_or points p begun
    → HasFields (with_words begun words)
    → IsCollecting start header old points
    → IsCollecting start header new (slice_set points p (with_words begun words))
collecting_end start header old new points begun words p is here within at found begun_point fields before =
    let point : LivePoint = with_words begun words in
    let long : length (slice_set points p point) ≡ length points = length-set points p point in
    let windows : length new.windows.windows ≡ length old.windows.windows = ap (λ (q : Pass). length q.windows.windows) is in
    let ended : new.windows.ended ≡ old.windows.ended + 1 = ap (λ (q : Pass). q.windows.ended) is in
    let at_new : new.at ≡ old.at = ap (λ (q : Pass). q.at) is in
    let open_yet : nat_lt p old.windows.ended ≡ false = le-ltb p old.windows.ended (omega (arith, here)) in
    let was : begun ≡ so_far false (point_of header start (sampled_unit header.design p)) =
    begun_point ∙ before.values p begun within
    ∙ ap (λ (b : Bool). so_far b (point_of header start (sampled_unit header.design p))) open_yet in
    let are : words ≡ pairs_of (first_values (drop (begin_of header.design p) (run_of start old.at).events)) =
    found ∙ ap (λ (k : ℕ). pairs_of (window_at old.windows k)) (sym here)
    ∙ ap pairs_of (before.passing.found p (omega (arith, here)) (omega (arith, before.count))) in
    let value : point ≡ point_of header start (sampled_unit header.design p) =
    ap (λ (b : LivePoint). with_words b words) was
    ∙ whole_with start header (sampled_unit header.design p) old.at words before.passing.done at are in
    record {
      passing = passing_end start header.records (begin_of header.design) old new is before.passing;
      count = windows ∙ before.count ∙ sym long;
      order = omega (arith, ended, long, here);
      most = omega (arith, long, before.most);
      next = λ h. omega (arith, at_new, before.next (omega (arith, long)), ap (begin_of header.design) long);
      values = λ q d h. elim (cases_eq q p) [
        | inl same ↦
            let done : nat_lt q new.windows.ended ≡ true = lt-ltb q new.windows.ended (omega (arith, ended, here, same)) in
            ap (λ (n : ℕ). slice_index_or (slice_set points p point) n d) same
            ∙ get_or-set_same points p point d within ∙ value
            ∙ ap (λ (n : ℕ). point_of header start (sampled_unit header.design n)) (sym same)
            ∙ ap (λ (b : Bool). so_far b (point_of header start (sampled_unit header.design q))) (sym done)
        | inr other ↦
            get_or-set_other points p q point d other ∙ before.values q d (omega (arith, long))
            ∙ ap (λ (b : Bool). so_far b (point_of header start (sampled_unit header.design q)))
            (later q p old.windows.ended new.windows.ended other here ended)
      ];
      fields = All-set HasFields points p point fields before.fields;
    }
  where
    later : (q p ended now : ℕ) → q ≢ p → p ≡ ended → now ≡ ended + 1 → nat_lt q ended ≡ nat_lt q now
    later q p ended now other here next = elim (cases_lt q ended) [
      | inl lt ↦ lt-ltb q ended lt ∙ sym (lt-ltb q now (omega arith))
      | inr ge ↦ le-ltb q ended ge ∙ sym (le-ltb q now (omega arith))
    ]

-- all windows have ended
pub all_collected :
    (start : State) (header : Header) (pass : Pass) (points : List LivePoint) → IsCollecting start header pass points
    → pass.windows.ended ≡ header.points → points ≡ points_in_order header start header.points
all_collected start header pass points is all =
    let count : length points ≡ header.points = omega (arith, is.order, is.most, all) in
    fill_by_all (λ p. point_of header start (sampled_unit header.design p)) points header.points (point_of header start 0) count
    (λ p h.
    is.values p (point_of header start 0) (omega (arith, count))
    ∙ ap (λ (b : Bool). so_far b (point_of header start (sampled_unit header.design p)))
    (lt-ltb p pass.windows.ended (omega (arith, all))))

-- a point with other words
pub fields_with : (point : LivePoint) (words : List (ℕ × ℕ)) → AreWords words → HasFields point → HasFields (with_words point words)
fields_with point words are fields = record {
  unit = fields.unit;
  pc = fields.pc;
  zero = fields.zero;
  count = fields.count;
  regs = fields.regs;
  words = are;
  places = fields.places;
  images = fields.images;
}

-- ---- what a round of the collection may do

pub can_run :
    (start : State) (header : Header) (pass : Pass) (points : List LivePoint) (at : ℕ)
    → CanCollect start header → IsCollecting start header pass points → at ≤ header.length → CanRun pass at
can_run start header pass points at can is within = record {
  start = start;
  records = header.records;
  begins = begin_of header.design;
  passing = is.passing;
  length = header.length;
  whole = can.whole;
  within = within;
  short = can.short;
}

-- there is an image of each kind
pub images_of :
    (start : State) (records : Records) (begins : ℕ → ℕ) (pass : Pass) → IsPassing start records begins pass
    → length pass.learner.images ≡ length records.kinds
images_of start records begins pass is =
    ap (λ (l : Learnt). length l.images) is.learnt ∙ length-map records.kinds _

pub small_unit :
    (start : State) (header : Header) (p : ℕ) → CanCollect start header → p < header.points
    → sampled_unit header.design p < 2 ^ 32
small_unit start header p can h =
    unit_small header.design (sampled_unit header.design p) header.length can.design.ranges.unit_least can.short (can.units p h)

-- where the window of a sampled unit ends
pub end_at :
    (design : Design) (p unit start len : ℕ) → unit ≡ sampled_unit design p
    → start ≡ (window_of design unit).start → len ≡ (window_of design unit).len
    → start + len ≡ end_of design (sampled_unit design p)
end_at design p unit start len unit_is begin long =
    omega (arith, begin, long, window_to design unit) ∙ ap (end_of design) unit_is

-- before its end, its window has started
pub has_started :
    (start : State) (header : Header) (pass : Pass) (points : List LivePoint) (p : ℕ)
    → CanCollect start header → IsCollecting start header pass points → p < header.points → pass.windows.ended ≡ p
    → (length points < header.points → end_of header.design (sampled_unit header.design p) ≤ begin_of header.design (length points))
    → p < length points
has_started start header pass points p can is h ended all = elim (cases_lt p (length points)) [
  | inl lt ↦ lt
  | inr ge ↦
      let same : length points ≡ p = omega (arith, is.order, ended) in
      let early : begin_of header.design p < end_of header.design (sampled_unit header.design p) =
      begins_first header.design (sampled_unit header.design p) (omega (arith, can.design.ranges.unit_least)) in
      absurd (omega (arith, all (omega (arith, same)), ap (begin_of header.design) same, early))
]

pub own_default : (points : List LivePoint) (p : ℕ) (d : LivePoint) → p < length points
    → slice_index_or points p d ≡ slice_index_or points p (slice_index_or points p d)
own_default [] p d h = absurd (omega arith)
own_default (point ∷ points) zero d h = refl
own_default (point ∷ points) (suc p) d h = same_by points p d (slice_index_or points p d) (omega arith)
  where
    same_by : (points : List LivePoint) (p : ℕ) (d e : LivePoint) → p < length points → slice_index_or points p d ≡ slice_index_or points p e
    same_by [] p d e h = absurd (omega arith)
    same_by (point ∷ points) zero d e h = refl
    same_by (point ∷ points) (suc p) d e h = same_by points p d e (omega arith)
