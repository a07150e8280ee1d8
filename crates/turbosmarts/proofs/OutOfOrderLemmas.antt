-- The latest marks of a run.
use Rattle.std.proofs.Common.{◌≡◌, ◌≤◌, ◌+◌, ◌-◌, ◌++◌, ℕ, List, [], ◌∷◌, Bool, true, length, drop, refl, sym, ap, ◌∙◌, arith}
use Rattle.std.proofs.lemmas.List.{drop-drop, drop-append-le, length-drop, length-append}
use Rattle.std.proofs.Math.Seq.{drop-nil}
use Rattle.std.proofs.lemmas.List.Elements.{All-append, All-cons, All-drop, All-nil}
use Rattle.circular_buffer.specs.Buffer.{keep_last}
use Rattle.hierarchy.specs.declared.config.Config.{Config}
use Rattle.hierarchy.specs.declared.marked.Marked.{Marked}
use Rattle.hierarchy.specs.declared.state.State.{State}
use Rattle.hierarchy.specs.declared.widths.Widths.{Widths}
use Rattle.hierarchy.specs.Marked.{IsMarked}
use Rattle.hierarchy.specs.State.{mark_of}
use Rattle.hierarchy.specs.Trace.{marks}
use Rattle.hierarchy.specs.Warming.{warmed}
use Rattle.hierarchy.proofs.TraceLemmas.{length-marks, marks_more}
use Rattle.hierarchy.proofs.WarmingLemmas.{feeding}
use Rattle.ruu_timing.specs.Times.{cycles}
use Rattle.ruu_timing.specs.Trace.{IsTrace}
use Rattle.rv_exec.specs.declared.event.Event.{Event}
use Rattle.sample_design.specs.declared.units.Window.{Window}
use Rattle.turbosmarts.specs.OutOfOrder.{HasMarked}
use Rattle.turbosmarts.specs.Processor.{marks_of, window_cycles, IsAtEnd, IsTimeable}
use Rattle.ruu_timing.specs.Machine.{cycles_by}

-- the last of a list, and of one with one more
kept_more :
    {X : Type 0} (room : ℕ) (xs : List X) (x : X)
    → keep_last room (keep_last room xs ++ x ∷ []) ≡ keep_last room (xs ++ x ∷ [])
kept_more room xs x =
    let gone : ℕ = length xs - room in
    let ys : List _ = drop gone xs in
    let many : length ys ≡ length xs - gone = length-drop gone xs in
    let one : length (ys ++ x ∷ []) ≡ length ys + 1 = length-append ys (x ∷ []) in
    let all : length (xs ++ x ∷ []) ≡ length xs + 1 = length-append xs (x ∷ []) in
    let sum : gone + (length (ys ++ x ∷ []) - room) ≡ length (xs ++ x ∷ []) - room = omega (arith, many, one, all) in
    ap (drop (length (ys ++ x ∷ []) - room)) (sym (drop-append-le gone xs (x ∷ []) (omega arith)))
    ∙ drop-drop (length (ys ++ x ∷ []) - room) gone (xs ++ x ∷ [])
    ∙ ap (λ (k : ℕ). drop k (xs ++ x ∷ [])) sum

-- the mark of the next instruction
next_mark :
    (config : Config) (es : List Event) (e : Event)
    → marks_of config (es ++ e ∷ [])
    ≡ marks_of config es ++ mark_of config.latencies (warmed config.places config.kind es) e ∷ []
unfolding marks_of
next_mark config es e =
    marks_more config.latencies (warmed config.places config.kind []) es e
    ∙ ap (λ (s : State). marks config.latencies (warmed config.places config.kind []) es ++ mark_of config.latencies s e ∷ [])
    (feeding config.places config.kind [] es)

-- no instruction has no mark
none_marked : (config : Config) → marks_of config [] ≡ []
unfolding marks_of marks
none_marked config = refl

pub marked_none :
    (config : Config) (widths : Widths) (state : State) (room : ℕ)
    → config.ruu ≡ true → widths ≡ config.widths → room ≤ 110000
    → state ≡ warmed config.places config.kind []
    → HasMarked config widths state room [] []
marked_none config widths state room kind same fits is = record {
  kind = kind;
  widths = same;
  room = fits;
  state = is;
  latest = sym (ap (keep_last room) (none_marked config) ∙ drop-nil (0 - room));
  marks = All-nil IsMarked;
}

-- one instruction more
pub marked_more :
    (config : Config) (widths : Widths) (old new : State) (room : ℕ) (latest now : List Marked) (mark : Marked)
    (es : List Event) (e : Event)
    → HasMarked config widths old room latest es
    → mark ≡ mark_of config.latencies old e → IsMarked mark
    → new ≡ warmed config.places config.kind (es ++ e ∷ [])
    → now ≡ keep_last room (latest ++ mark ∷ [])
    → HasMarked config widths new room now (es ++ e ∷ [])
marked_more config widths old new room latest now mark es e before is marked warms keeps = record {
  kind = before.kind;
  widths = before.widths;
  room = before.room;
  state = warms;
  latest =
      let marks_now : marks_of config es ++ mark ∷ [] ≡ marks_of config (es ++ e ∷ []) =
      ap (λ (m : Marked). marks_of config es ++ m ∷ [])
      (is ∙ ap (λ (s : State). mark_of config.latencies s e) before.state)
      ∙ sym (next_mark config es e) in
      keeps
      ∙ ap (λ (ms : List Marked). keep_last room (ms ++ mark ∷ [])) before.latest
      ∙ kept_more room (marks_of config es) mark
      ∙ ap (keep_last room) marks_now;
  marks =
      rw keeps
      (All-drop IsMarked _ _ (All-append IsMarked latest (mark ∷ []) before.marks
      (All-cons IsMarked mark [] marked (All-nil IsMarked))));
}

-- the marks of a window that has just ended
pub record HasWindow (config : Config) (room : ℕ) (latest : List Marked) (es : List Event) (window : Window) : Type 0 where
  pub fits : window.len ≤ length latest
  pub items : drop (length latest - window.len) latest ≡ drop window.start (marks_of config es)
  pub trace : IsTrace (drop (length latest - window.len) latest) window.skip
  pub len : length (drop (length latest - window.len) latest) ≡ window.len

length-marks_of : (config : Config) (es : List Event) → length (marks_of config es) ≡ length es
unfolding marks_of
length-marks_of config es = length-marks config.latencies _ es

pub has_window :
    (config : Config) (widths : Widths) (state : State) (room begun : ℕ) (latest : List Marked) (es : List Event) (window : Window)
    → HasMarked config widths state room latest es → IsAtEnd window begun es → IsTimeable window room
    → HasWindow config room latest es window
has_window config widths state room begun latest es window marked end timeable =
    let ms : List Marked = marks_of config es in
    let all : length ms ≡ window.start + window.len = length-marks_of config es ∙ end.ends in
    let gone : ℕ = length ms - room in
    let many : length latest ≡ length ms - gone =
    ap (λ (xs : List Marked). length xs) marked.latest ∙ length-drop gone ms in
    let fits : window.len ≤ length latest = omega (arith, timeable.fits, all, many) in
    let sum : gone + (length latest - window.len) ≡ window.start = omega (arith, fits, all, many) in
    let len : length (drop (length latest - window.len) latest) ≡ window.len =
    length-drop (length latest - window.len) latest ∙ omega (arith, fits) in
    record {
      fits = fits;
      items = ap (drop (length latest - window.len)) marked.latest
          ∙ drop-drop (length latest - window.len) gone ms
          ∙ ap (λ (k : ℕ). drop k ms) sum;
      trace = record {
        within = omega (arith, len, timeable.least);
        few = omega (arith, len, timeable.fits, marked.room);
        marks = All-drop IsMarked _ _ marked.marks;
      };
      len = len;
    }

by_unit :
    (ruu : Bool) (config : Config) (ms : List Marked) (skip : ℕ) → ruu ≡ true
    → cycles config.widths ms skip ≡ cycles_by ruu config ms skip
by_unit ruu config ms skip kind = rw kind refl

-- and its cycles
pub marked_told :
    (config : Config) (widths : Widths) (state : State) (room begun c : ℕ) (latest : List Marked) (es : List Event) (window : Window)
    → HasMarked config widths state room latest es → IsAtEnd window begun es → IsTimeable window room
    → c ≡ cycles widths (drop (length latest - window.len) latest) window.skip
    → c ≡ window_cycles config es window
unfolding window_cycles
marked_told config widths state room begun c latest es window marked end timeable is =
    let has = has_window config widths state room begun latest es window marked end timeable in
    is
    ∙ ap (λ (w : Widths). cycles w (drop (length latest - window.len) latest) window.skip) marked.widths
    ∙ ap (λ (ms : List Marked). cycles config.widths ms window.skip) has.items
    ∙ by_unit config.ruu config (drop window.start (marks_of config es)) window.skip marked.kind
