-- The header of a run's library is one of the format, and its points are those of that header.
use Rattle.std.proofs.Common.{◌≡◌, ◌≤◌, ◌<◌, ◌+◌, ◌-◌, ◌*◌, ◌%◌, ◌^◌, ℕ, List, [], ◌∷◌, ◌++◌, length, map, take, drop, Option, None, Ok, refl, sym, ap, subst, ◌∙◌, arith, inl, inr, length-take}
use Rattle.std.specs.Prelude.{slice_index, slice_index_or}
use Rattle.std.specs.List.{All}
use Rattle.std.proofs.lemmas.List.{length-map, get_or-map}
use Rattle.std.proofs.lemmas.List.FromFn.{length-map-range_with_len, get_or-map-range_with_len}
use Rattle.std.proofs.lemmas.List.Elements.{All-head, All-tail, All-get_or, All-map, All-same, All-weaker}
use Rattle.elf_image.specs.Image.{ImageValue, IsImage}
use Rattle.live_points.specs.declared.header.Header.{Header}
use Rattle.live_points.specs.declared.header.Records.{Records}
use Rattle.live_points.specs.declared.point.LivePoint.{LivePoint}
use Rattle.live_points.specs.Kinds.{IsNew, AreKinds}
use Rattle.live_points.specs.Points.{point_of, points_of, records_after, IsPointOf}
use Rattle.live_points.proofs.HeaderLemmas.{points_are_of_header}
use Rattle.live_points.proofs.RunLemmas.{first_goes_on}
use Rattle.lru_plain.specs.Shape.{Shape, sets_of}
use Rattle.hierarchy.specs.declared.places.Places.{Places}
use Rattle.live_words.specs.Follow.{Follow}
use Rattle.live_words.proofs.FollowLemmas.{follow_by}
use Rattle.livepoint_format.specs.Format.{IsHeader, IsNewKind, IsPoint, IsImageOf, IsSnap, AreSnaps, AreImages, kind_at, unit_of}
use Rattle.livepoint_format.specs.Views.{head_of}
use Rattle.predictor.specs.declared.kind.PredictorKind.{PredictorKind}
use Rattle.predictor.specs.Kind.{IsKind}
use Rattle.predictor.specs.Tables.{Tables, empty_tables}
use Rattle.recency_record.specs.Faults.{sets_fault}
use Rattle.recency_record.specs.Recency.{IsRecency, record_of}
use Rattle.recency_record.proofs.Judgements.{recency_is_sound}
use Rattle.rv_exec.specs.declared.event.Event.{Event}
use Rattle.rv_exec.specs.Machine.{State}
use Rattle.rv_exec.specs.References.{fetches, data_refs, all_refs}
use Rattle.rv_exec.specs.Runs.{run_of}
use Rattle.rv_exec.proofs.RanLemmas.{Ran, ran_of}
use Rattle.rv_exec.proofs.RunsLemmas.{runs_whole}
use Rattle.rv_exec.proofs.StepsLemmas.{stepped}
use Rattle.rv_machine.specs.Start.{start_of}
use Rattle.sample_design.specs.declared.design.Design.{Design}
use Rattle.sample_design.specs.Design.{IsUsable}
use Rattle.sample_design.specs.Order.{order_of}
use Rattle.sample_design.specs.Units.{sampled_unit, window_of, units_of, unit_count, EndsWithin}
use Rattle.sample_design.proofs.Orders.{order_below}
use Rattle.warming.specs.Collecting.{CanCollect, points_in_order}
use Rattle.warming.specs.Learning.{AreEarly, AreRecencies, AreUsable, IsNumbered}
use Rattle.warming.specs.Passing.{HasFields}
use Rattle.warming.specs.Warming.{header_with}
use Rattle.warming.proofs.CollectingLemmas.{window_to}
use Rattle.warming.proofs.LearningLemmas.{early_after}
use Rattle.warming.proofs.VisitingLemmas.{order_len}

-- ---- the header

new_kinds :
    (before kinds : List PredictorKind) → Follow IsNew before kinds → All IsKind kinds → Follow IsNewKind before kinds
new_kinds before [] follow all = tt
new_kinds before (k ∷ kinds) follow all = (
  record { kind = All-head IsKind k kinds all; new = follow.0 },
  new_kinds (before ++ k ∷ []) kinds follow.1 (All-tail IsKind k kinds all),
)

units_same : (design : Design) (length count : ℕ) → units_of design length ≡ Ok count
    → (let least : Design = record design { budget = 1 } in units_of least length ≡ Ok count)
unfolding units_of unit_count
units_same design length count is = is

pub header_is :
    (image : ImageValue) (design : Design) (records : Records) (length count : ℕ)
    → IsImage image → IsUsable design → AreUsable records → AreKinds records.kinds
    → 1 ≤ length → length ≤ design.budget → units_of design length ≡ Ok count
    → IsHeader (head_of (header_with design records image.heap_low length count))
header_is image design records length count is usable are kinds least most units = record {
  version = (omega arith, omega arith);
  instructions = (least, omega (arith, most, usable.ranges.budget_most));
  unit = (usable.ranges.unit_least, usable.ranges.unit_most);
  warm = usable.ranges.warm_most;
  every = (usable.ranges.every_least, usable.ranges.every_most);
  offset = usable.offset;
  points = units_same design length count units;
  heap_low = (is.heap_low, is.highest);
  seed = usable.ranges.seed_most;
  places = are.places;
  few_kinds = (kinds.least, kinds.most);
  kinds = new_kinds [] records.kinds kinds.distinct are.kinds;
}

-- ---- heap ends

pub record InHeap (low brk : ℕ) : Type 0 where
  pub least : low ≤ brk
  pub most : brk ≤ low + 67108864

heap_kept : (s t : State) (es : List Event) → Ran s es t → InHeap s.heap_low s.brk → InHeap s.heap_low t.brk
heap_kept s t [] ran inside = rw ran inside
heap_kept s t (e ∷ es) (mid, did, rest) inside =
    let step = stepped s e mid did.went in
    let here : InHeap mid.heap_low mid.brk = elim step.heap_end [
      | inl same ↦ rw (step.heap_low, same) inside
      | inr within ↦ rw step.heap_low (record { least = within.0; most = omega (arith, within.1) })
    ] in
    subst (λ (low : ℕ). InHeap low t.brk) step.heap_low (heap_kept mid t es rest here)

pub brk_of : (m : State) (n : ℕ) → InHeap m.heap_low m.brk → InHeap m.heap_low (run_of m n).after.brk
brk_of m n inside = heap_kept m (run_of m n).after (run_of m n).events (ran_of m n) inside

-- ---- points

length_taken : {A : Type 0} (i : ℕ) (xs : List A) → i < length xs → length (take i xs) ≡ i
length_taken i xs h = omega (arith, length-take i xs)

images_follow :
    (kinds : List PredictorKind) (images : List Tables) → map (λ (t : Tables). t.kind) images ≡ kinds
    → All IsNumbered images → AreImages kinds images
images_follow kinds images same all = record {
  count = sym (length-map images (λ (t : Tables). t.kind)) ∙ ap (λ (ks : List PredictorKind). length ks) same;
  each = follow_by (λ before. IsImageOf (kind_at kinds (length before))) [] images (empty_tables (kind_at kinds 0))
      (λ i h.
      let d : Tables = empty_tables (kind_at kinds 0) in
      let kind : kind_at kinds i ≡ (slice_index_or images i d).kind =
      ap (λ (ks : List PredictorKind). kind_at ks i) (sym same)
      ∙ get_or-map (λ (x : Tables). x.kind) images i d _ h in
      let numbered : IsNumbered (slice_index_or images i d) = all i d h in
      rw (length_taken i images h, kind)
      (record { kind = refl; image = numbered.image; targets = numbered.targets; stack = numbered.stack }));
}

shape_is : (addrs : List ℕ) (g : Shape) → (record_of addrs g).shape ≡ g
unfolding record_of
shape_is addrs g = refl

-- a record of a run that isn't too long
snap_is : (addrs : List ℕ) (g : Shape) → (record_of addrs g).time < 2 ^ 62 → IsRecency (record_of addrs g) → IsSnap g (record_of addrs g)
snap_is addrs g early recency = record {
  shape = shape_is addrs g;
  time = omega (arith, early);
  count = recency.count ∙ ap (λ (s : Shape). sets_of s) (shape_is addrs g);
  sound =
      ap (λ (s : Shape). sets_fault s (record_of addrs g).time 0 (record_of addrs g).sets) (sym (shape_is addrs g))
      ∙ recency_is_sound (record_of addrs g) recency;
}

snaps_are :
    (g : Places Shape) (es : List Event) → length es ≤ 2 ^ 37 → AreRecencies (records_after g es)
    → AreSnaps g (records_after g es)
snaps_are g es few are =
    let early : AreEarly (records_after g es) = early_after g es few in
    record {
      l1i = snap_is (fetches es) g.l1i early.l1i are.l1i;
      l1d = snap_is (data_refs es) g.l1d early.l1d are.l1d;
      l2 = snap_is (all_refs es) g.l2 early.l2 are.l2;
      itlb = snap_is (fetches es) g.itlb early.itlb are.itlb;
      dtlb = snap_is (data_refs es) g.dtlb early.dtlb are.dtlb;
    }

-- how many instructions come before the window
few_before :
    (start : State) (header : Header) (unit : ℕ) → CanCollect start header → EndsWithin header.design header.length unit
    → length (run_of start (window_of header.design unit).start).events ≤ 2 ^ 37
few_before start header unit can ends =
    let begin : ℕ = (window_of header.design unit).start in
    let within : begin ≤ header.length = omega (arith, window_to header.design unit, ends) in
    let all : begin + (header.length - begin) ≡ header.length = omega (arith, within) in
    let done : (run_of start begin).halt ≡ None =
    first_goes_on start begin (header.length - begin) (ap (λ (n : ℕ). (run_of start n).halt) all ∙ can.whole) in
    omega (arith, runs_whole start begin done, can.short)

-- a point of the run is one of its header
pub point_is :
    (start : State) (header : Header) (unit : ℕ) → CanCollect start header → EndsWithin header.design header.length unit
    → start.pc % 4 ≡ 0 → header.heap_low ≡ start.heap_low → InHeap start.heap_low start.brk
    → HasFields (point_of header start unit) → IsPoint (head_of header) unit (point_of header start unit)
unfolding point_of
point_is start header unit can ends at heap inside fields =
    let of_header = points_are_of_header start header.length header unit can.whole at ends in
    let brk : InHeap header.heap_low (run_of start (window_of header.design unit).start).after.brk =
    rw heap (brk_of start (window_of header.design unit).start inside) in
    record {
      unit = (refl, fields.unit);
      pc = fields.pc;
      registers = fields.zero;
      count = fields.count;
      fit = fields.regs;
      brk = (brk.least, brk.most);
      words = fields.words;
      few = of_header.words;
      places = snaps_are header.records.places (run_of start (window_of header.design unit).start).events
          (few_before start header unit can ends) fields.places;
      images = images_follow header.records.kinds _ of_header.kinds fields.images;
    }

-- ---- the order of visits

map_where :
    {A B : Type 0} (P : A → Type 0) (f g : A → B) (xs : List A) → All P xs → ((x : A) → P x → f x ≡ g x) → map f xs ≡ map g xs
map_where P f g [] all same = refl
map_where P f g (x ∷ xs) all same =
    let here : f x ≡ g x = same x (All-head P x xs all) in
    let rest : map f xs ≡ map g xs = map_where P f g xs (All-tail P x xs all) same in
    λ i. here i ∷ rest i

-- the points of the order of the run, in the order of visits
pub points_visited :
    (start : State) (header : Header) (points visited : List LivePoint)
    → points ≡ points_in_order header start header.points
    → ((d : LivePoint) → visited ≡ map (λ p. slice_index_or points p d) (order_of (length points) header.design.seed))
    → visited ≡ points_of header start header.points
unfolding points_of
points_visited start header points visited are is =
    let d : LivePoint = point_of header start 0 in
    let long : length points ≡ header.points =
    ap (λ (ps : List LivePoint). length ps) are ∙ length-map-range_with_len _ 0 header.points in
    let f : ℕ → LivePoint = λ p. point_of header start (sampled_unit header.design p) in
    is d
    ∙ ap (λ (n : ℕ). map (λ p. slice_index_or points p d) (order_of n header.design.seed)) long
    ∙ map_where (λ p. p < header.points) (λ p. slice_index_or points p d) f (order_of header.points header.design.seed)
    (order_below header.points header.design.seed)
    (λ p below.
    ap (λ (ps : List LivePoint). slice_index_or ps p d) are
    ∙ get_or-map-range_with_len f 0 header.points p p d below (omega arith))

pub fields_visited :
    (points visited : List LivePoint) (seed : ℕ) (d : LivePoint) → All HasFields points
    → ((d : LivePoint) → visited ≡ map (λ p. slice_index_or points p d) (order_of (length points) seed))
    → All HasFields visited
fields_visited points visited seed d fields is =
    let at : ℕ → LivePoint = λ p. slice_index_or points p d in
    All-same HasFields visited (map at (order_of (length points) seed)) (is d)
    (All-map HasFields at (order_of (length points) seed)
    (All-weaker (λ p. p < length points) (λ p. HasFields (at p)) (λ p below. fields p d below)
    (order_of (length points) seed) (order_below (length points) seed)))

-- they are those that the header asks for
pub points_follow :
    (start : State) (header : Header) (points : List LivePoint) → CanCollect start header
    → start.pc % 4 ≡ 0 → header.heap_low ≡ start.heap_low → InHeap start.heap_low start.brk
    → length (order_of header.points header.design.seed) ≡ header.points
    → points ≡ points_of header start header.points → All HasFields points
    → Follow (λ before. IsPoint (head_of header) (unit_of (head_of header) (length before))) [] points
unfolding points_of
points_follow start header points can at heap inside len are fields =
    let d : LivePoint = point_of header start 0 in
    let f : ℕ → LivePoint = λ p. point_of header start (sampled_unit header.design p) in
    let order : List ℕ = order_of header.points header.design.seed in
    let long : length points ≡ length order = ap (λ (ps : List LivePoint). length ps) are ∙ length-map order f in
    follow_by (λ before. IsPoint (head_of header) (unit_of (head_of header) (length before))) [] points d
    (λ i h.
    let inside_order : i < length order = omega (arith, long) in
    let p : ℕ = slice_index order i in
    let below : p < header.points = order_below header.points header.design.seed i 0 inside_order in
    let value : slice_index_or points i d ≡ f p =
    ap (λ (ps : List LivePoint). slice_index_or ps i d) are ∙ get_or-map f order i 0 d inside_order in
    let has : HasFields (f p) = subst HasFields value (fields i d h) in
    rw (length_taken i points h, value)
    (point_is start header (sampled_unit header.design p) can (can.units p below) at heap inside has))

-- ---- the start of an image

pub starts_in_heap : (image : ImageValue) → InHeap (start_of image).heap_low (start_of image).brk
unfolding start_of
starts_in_heap image = record { least = omega arith; most = omega arith }

pub starts_at : (image : ImageValue) → IsImage image → (start_of image).pc % 4 ≡ 0
unfolding start_of
starts_at image is = is.entry

pub heap_of_start : (image : ImageValue) → (start_of image).heap_low ≡ image.heap_low
unfolding start_of
heap_of_start image = refl

points_len : (header : Header) (start : State) (count : ℕ) → length (points_of header start count) ≡ length (order_of count header.design.seed)
unfolding points_of
points_len header start count = length-map (order_of count header.design.seed) _

-- all that the format asks of the points of a run
pub record AreVisited (start : State) (header : Header) (visited : List LivePoint) : Type 0 where
  pub points : visited ≡ points_of header start header.points
  pub count : length visited ≡ header.points
  pub follow : Follow (λ before. IsPoint (head_of header) (unit_of (head_of header) (length before))) [] visited

pub visited_are :
    (image : ImageValue) (header : Header) (points visited : List LivePoint) → IsImage image → CanCollect (start_of image) header
    → header.heap_low ≡ (start_of image).heap_low
    → points ≡ points_in_order header (start_of image) header.points → All HasFields points
    → ((d : LivePoint) → visited ≡ map (λ p. slice_index_or points p d) (order_of (length points) header.design.seed))
    → AreVisited (start_of image) header visited
visited_are image header points visited is can heap are fields order =
    let all : visited ≡ points_of header (start_of image) header.points =
    points_visited (start_of image) header points visited are order in
    let has : All HasFields visited = fields_visited points visited header.design.seed (point_of header (start_of image) 0) fields order in
    let len : length (order_of header.points header.design.seed) ≡ header.points = order_len header.points header.design.seed in
    record {
      points = all;
      count = ap (λ (ps : List LivePoint). length ps) all ∙ points_len header (start_of image) header.points ∙ len;
      follow =
          points_follow (start_of image) header visited can (starts_at image is) heap (starts_in_heap image) len all has;
    }
