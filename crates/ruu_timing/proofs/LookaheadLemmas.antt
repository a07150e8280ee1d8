-- The instructions that are timed so far say all of a trace up to the fetch of the latest.
use Rattle.std.proofs.Common.{All, Bool, List, None, Option, Some, ap, arith, drop, false, filter, inl, inr, length, map, nat_lt, refl, subst, suc, sym, take, true, zero, ℕ, ◌≡◌, ◌⊎◌, ◌+◌, ◌-◌, ◌<◌, ◌≤◌, ◌||◌, [], ◌∷◌, ◌∙◌}
use Rattle.std.proofs.lemmas.Bool.{ne_eqb}
use Rattle.std.proofs.lemmas.List.{length-drop, length-map, length-take, length-take-le, take-append-drop, take-map, take-take, take_all}
use Rattle.std.proofs.lemmas.List.Elements.{All-drop}
use Rattle.std.specs.List.{AllByRecursion, slice_get}
use Rattle.circular_buffer.specs.Buffer.{buffer}
use Rattle.hierarchy.specs.Marked.{IsMarked}
use Rattle.hierarchy.specs.Widths.{AreWidths}
use Rattle.hierarchy.specs.declared.marked.Marked.{Marked}
use Rattle.hierarchy.specs.declared.widths.Widths.{Widths}
use Rattle.ruu_timing.specs.Events.{happens, happens_to}
use Rattle.ruu_timing.specs.Flight.{IsKept, timed_with}
use Rattle.ruu_timing.specs.Lookahead.{IsAhead, cycles_in, fetch_in, progress_in, timed_in}
use Rattle.ruu_timing.specs.Progress.{count_before, progress_before}
use Rattle.ruu_timing.specs.Timed.{AreInOrder, AreTimed, IsRetiredAfter}
use Rattle.ruu_timing.specs.Times.{back, time_of, timed_after, timed_of, times}
use Rattle.ruu_timing.specs.declared.flight.Cycles.{Cycles}
use Rattle.ruu_timing.specs.declared.flight.Flight.{Flight}
use Rattle.ruu_timing.specs.declared.lookahead.Lookahead.{Lookahead}
use Rattle.ruu_timing.specs.declared.timed.Timed.{Timed}
use Rattle.ruu_timing.proofs.ListLemmas.{each_more, each_of, ends_by}
use Rattle.ruu_timing.proofs.ProgressLemmas.{count_cons, count_is, one_not}
use Rattle.ruu_timing.proofs.TimedLemmas.{dispatched_at, next_timed, next_times, retired}
use Rattle.ruu_timing.proofs.TimesLemmas.{after_both, after_timed, length_times, times_more}

abbrev pub latest_fetch : List Timed → ℕ
latest_fetch earlier = time_of (λ x. x.fetch) (back earlier 1)

-- no time of an instruction comes before its fetch
not_early : (k : ℕ) (earlier : List Timed) (x : Timed) → k < x.fetch → IsRetiredAfter earlier x → happens_to k x ≡ false
not_early k earlier x before after =
    rw (
      ne_eqb x.fetch k (λ e. omega arith),
      ne_eqb x.dispatch k (λ e. omega (arith, after.after.0)),
      ne_eqb x.issue k (λ e. omega (arith, after.after.0, after.after.1.0)),
      ne_eqb x.retirement k (λ e. omega (arith, after.after.0, after.after.1.0, after.after.1.1)),
    ) refl

-- no other time of an instruction comes after its retirement
abbrev pub EarlyBy : ℕ → Timed → Type 0
EarlyBy t x = (x.fetch ≤ t) × ((x.dispatch ≤ t) × (x.issue ≤ t))

pub early_by : (t : ℕ) (xs : List Timed) → AreInOrder xs → AllByRecursion (λ x. x.retirement ≤ t) xs → AllByRecursion (EarlyBy t) xs
early_by t [] order gone = tt
early_by t (x ∷ xs) order gone =
    let after = order.0.after in
    ((omega (arith, gone.0, after.0, after.1.0, after.1.1), (omega (arith, gone.0, after.1.0, after.1.1), omega (arith, gone.0, after.1.1))), early_by t xs order.1 gone.1)

pub order_drop : (n : ℕ) (xs : List Timed) → AreInOrder xs → AreInOrder (drop n xs)
order_drop zero [] order = tt
order_drop zero (x ∷ xs) order = order
order_drop (suc n) [] order = tt
order_drop (suc n) (x ∷ xs) order = order_drop n xs order.1

module _ (w : Widths) (widths : AreWidths w) where
  later_same :
      (earlier : List Timed) (ms : List Marked) (k : ℕ) → AreTimed earlier → length earlier + length ms ≤ 110000 → AllByRecursion IsMarked ms
      → k < latest_fetch earlier → happens (timed_after w earlier ms) k ≡ happens earlier k
  unfolding timed_after
  later_same earlier [] k timed few marks before = refl
  later_same earlier (m ∷ ms) k timed few marks before =
      let x : Timed = timed_of w earlier m in
      let next = next_times w earlier m widths marks.0 timed in
      let later : k < x.fetch = omega (arith, next.1.fetched) in
      later_same (x ∷ earlier) ms k (next_timed w earlier m widths marks.0 timed (omega arith)) (omega arith) marks.1 later
      ∙ rw (not_early k earlier x later next.1) refl

  later_still : (earlier : List Timed) (ms : List Marked) (t : ℕ) → happens earlier t ≡ true → happens (timed_after w earlier ms) t ≡ true
  unfolding timed_after
  later_still earlier [] t is = is
  later_still earlier (m ∷ ms) t is = later_still (timed_of w earlier m ∷ earlier) ms t (go (happens_to t (timed_of w earlier m)))
    where
      go : (b : Bool) → (b || happens earlier t) ≡ true
      go true = refl
      go false = is

  later_count :
      (time : Timed → ℕ) → ((earlier : List Timed) (x : Timed) → IsRetiredAfter earlier x → x.fetch ≤ time x)
      → (earlier : List Timed) (ms : List Marked) (past : ℕ) → AreTimed earlier → length earlier + length ms ≤ 110000 → AllByRecursion IsMarked ms
      → past ≤ latest_fetch earlier → count_before time past (timed_after w earlier ms) ≡ count_before time past earlier
  unfolding timed_after
  later_count time after earlier [] past timed few marks le = refl
  later_count time after earlier (m ∷ ms) past timed few marks le =
      let x : Timed = timed_of w earlier m in
      let next = next_times w earlier m widths marks.0 timed in
      let later : past ≤ x.fetch = omega (arith, next.1.fetched) in
      later_count time after (x ∷ earlier) ms past (next_timed w earlier m widths marks.0 timed (omega arith)) (omega arith) marks.1 later
      ∙ omega (arith, count_cons time past x earlier, one_not past (time x) (omega (arith, after earlier x next.1)))

-- those that a fetch has seen retired
unit_at : (xs : List Timed) (i : ℕ) → AreInOrder xs → retired xs (i + 256) ≤ dispatched_at xs i
unit_at [] i order = omega arith
unit_at (x ∷ xs) zero order = order.0.unit
unit_at (x ∷ xs) (suc i) order = let e : suc i + 256 ≡ suc (i + 256) = omega arith in rw e (unit_at xs i order.1)

all_from : (xs : List Timed) (i t : ℕ) → AreInOrder xs → retired xs i ≤ t → AllByRecursion (λ x. x.retirement ≤ t) (drop i xs)
all_from [] zero t order le = tt
all_from [] (suc i) t order le = tt
all_from (x ∷ xs) zero t order le = (le, all_from xs zero t order.1 (first xs order))
  where
    first : (ys : List Timed) → AreInOrder (x ∷ ys) → retired ys zero ≤ t
    first [] order = omega arith
    first (y ∷ ys) order = let h : y.retirement ≤ x.retirement = order.0.rises in omega (arith, le)
all_from (x ∷ xs) (suc i) t order le = all_from xs i t order.1 le

pub gone_more : (xs : List Timed) (t : ℕ) → AreInOrder xs → latest_fetch xs ≤ t → AllByRecursion (λ x. x.retirement ≤ t) (drop 288 xs)
gone_more [] t order le = tt
gone_more (x ∷ xs) t order le =
    let queue : dispatched_at xs 31 ≤ x.fetch = order.0.queue in
    let unit : retired xs (31 + 256) ≤ dispatched_at xs 31 = unit_at xs 31 order.1 in
    all_from (x ∷ xs) 288 t order (omega arith)

-- one more, with its times
pub ahead_more :
    (w : Widths) (items : List Marked) (m : Marked) (c : Cycles) (old : Lookahead) (flight : Flight) → IsAhead w items old
    → old.flight.count < length items
    → timed_of w (timed_in w items old) m ∷ timed_in w items old ≡ times w (take (old.flight.count + 1) items)
    → timed_with m c ≡ timed_of w (timed_in w items old) m
    → IsKept w (timed_of w (timed_in w items old) m ∷ timed_in w items old) flight
    → IsAhead w items (record { flight = flight; latest = buffer (take old.latest.capacity (c ∷ old.latest.items)) old.latest.capacity })
    × (flight.count ≡ old.flight.count + 1)
ahead_more w items m c old flight ahead some more timed kept =
    let earlier : List Timed = timed_in w items old in
    let x : Timed = timed_of w earlier m in
    let size : length earlier ≡ old.flight.count = length_times w (take old.flight.count items) ∙ length-take-le old.flight.count items ahead.within in
    let count : flight.count ≡ old.flight.count + 1 = omega (arith, kept.count, size) in
    let same : c ≡ cycles_in x = ap cycles_in timed in
    let cut : take 289 (c ∷ take 289 (map cycles_in earlier)) ≡ take 289 (map cycles_in (x ∷ earlier)) =
    rw same (ap (λ (ys : List Cycles). cycles_in x ∷ ys) (take-take 288 289 (map cycles_in earlier) (omega arith))) in
    let put : buffer (take old.latest.capacity (c ∷ old.latest.items)) old.latest.capacity ≡ buffer (take 289 (c ∷ take 289 (map cycles_in earlier))) 289 =
    rw ahead.latest refl in (
      record {
        within = omega arith;
        kept = subst (λ n. IsKept w (times w (take n items)) flight) (sym count) (subst (λ l. IsKept w l flight) more kept);
        latest = put ∙ ap (λ (ys : List Cycles). buffer ys 289) cut
            ∙ ap (λ (l : List Timed). buffer (take 289 (map cycles_in l)) 289) (more ∙ ap (λ n. times w (take n items)) (sym count));
      },
      count,
    )

pub short_in :
    (w : Widths) (items : List Marked) (ahead : Lookahead) → IsAhead w items ahead → ahead.flight.count < length items → length items ≤ 110000
    → length (timed_in w items ahead) < 110000
short_in w items ahead is some few =
    omega (arith, length_times w (take ahead.flight.count items), length-take-le ahead.flight.count items is.within)

pub latest_is : (w : Widths) (items : List Marked) (ahead : Lookahead) → IsAhead w items ahead → fetch_in (slice_get ahead.latest.items 0) ≡ latest_fetch (timed_in w items ahead)
latest_is w items ahead is = rw is.latest (go (timed_in w items ahead))
  where
    go : (xs : List Timed) → fetch_in (slice_get (take 289 (map cycles_in xs)) 0) ≡ latest_fetch xs
    go [] = refl
    go (x ∷ xs) = refl

-- the whole trace behind what is timed
whole_is : (w : Widths) (items : List Marked) (n : ℕ) → times w items ≡ timed_after w (times w (take n items)) (drop n items)
whole_is w items n = ap (λ (l : List Marked). times w l) (sym (take-append-drop n items)) ∙ after_both w [] (take n items) (drop n items)

pub timed_times : (w : Widths) (items : List Marked) → AreWidths w → length items ≤ 110000 → All IsMarked items → AreTimed (times w items)
timed_times w items widths few marks =
    after_timed w [] items widths (record { each = tt; order = tt; few = omega arith }) (omega arith) (each_of IsMarked items marks)

-- what is timed says all that comes before the fetch of the latest, or all where nothing is left
module _ (w : Widths) (widths : AreWidths w) (items : List Marked) (few : length items ≤ 110000) (marks : All IsMarked items) (ahead : Lookahead) (is : IsAhead w items ahead) where
  abbrev earlier : List Timed
  earlier = timed_in w items ahead

  pub size_is : length earlier ≡ ahead.flight.count
  size_is = length_times w (take ahead.flight.count items) ∙ length-take-le ahead.flight.count items is.within

  left_few : length earlier + length (drop ahead.flight.count items) ≤ 110000
  left_few = omega (arith, size_is, length-drop ahead.flight.count items, is.within, few)

  left_marks : AllByRecursion IsMarked (drop ahead.flight.count items)
  left_marks = each_of IsMarked (drop ahead.flight.count items) (All-drop IsMarked ahead.flight.count items marks)

  pub all_timed : ahead.flight.count ≡ length items → times w items ≡ earlier
  all_timed e = ap (λ (l : List Marked). times w l) (sym (take_all ahead.flight.count items (omega arith)))

  pub happens_same : (k : ℕ) → k < latest_fetch earlier → happens (times w items) k ≡ happens earlier k
  happens_same k before =
      ap (λ rows. happens rows k) (whole_is w items ahead.flight.count)
      ∙ later_same w widths earlier (drop ahead.flight.count items) k is.kept.timed left_few left_marks before

  pub happens_still : (t : ℕ) → happens earlier t ≡ true → happens (times w items) t ≡ true
  happens_still t here =
      ap (λ rows. happens rows t) (whole_is w items ahead.flight.count)
      ∙ later_still w widths earlier (drop ahead.flight.count items) t here

  count_same :
      (time : Timed → ℕ) → ((before : List Timed) (x : Timed) → IsRetiredAfter before x → x.fetch ≤ time x) → (past : ℕ)
      → (ahead.flight.count ≡ length items) ⊎ (past ≤ latest_fetch earlier)
      → count_before time past earlier ≡ count_before time past (times w items)
  count_same time after past (inl e) = ap (λ rows. count_before time past rows) (sym (all_timed e))
  count_same time after past (inr le) =
      sym (ap (λ rows. count_before time past rows) (whole_is w items ahead.flight.count)
      ∙ later_count w widths time after earlier (drop ahead.flight.count items) past is.kept.timed left_few left_marks le)

  pub latest_items : ahead.latest.items ≡ map cycles_in (take 289 earlier)
  latest_items = ap (λ b. b.items) is.latest ∙ take-map cycles_in 289 earlier

  one_is :
      (time : Cycles → ℕ) → ((before : List Timed) (x : Timed) → IsRetiredAfter before x → x.fetch ≤ time (cycles_in x)) → (t : ℕ)
      → (ahead.flight.count ≡ length items) ⊎ (t < latest_fetch earlier)
      → AllByRecursion (λ x. time (cycles_in x) ≤ t) (drop 289 earlier)
      → ahead.flight.count - length (filter (λ c. nat_lt t (time c)) ahead.latest.items) ≡ count_before (λ x. time (cycles_in x)) (t + 1) (times w items)
  one_is time after t reach gone =
      ap (λ n. n - length (filter (λ c. nat_lt t (time c)) ahead.latest.items)) (sym size_is)
      ∙ rw latest_items (count_is time t 289 earlier gone ∙ count_same (λ x. time (cycles_in x)) after (t + 1) (go reach))
    where
      go : (ahead.flight.count ≡ length items) ⊎ (t < latest_fetch earlier) → (ahead.flight.count ≡ length items) ⊎ (t + 1 ≤ latest_fetch earlier)
      go (inl e) = inl e
      go (inr lt) = inr (omega (arith, lt))

  pub progress_is :
      (t : ℕ) → (ahead.flight.count ≡ length items) ⊎ (t < latest_fetch earlier) → AllByRecursion (λ x. x.retirement ≤ t) (drop 289 earlier)
      → progress_in ahead t ≡ progress_before (times w items) (t + 1)
  progress_is t reach gone =
      let each : AllByRecursion (EarlyBy t) (drop 289 earlier) =
      early_by t (drop 289 earlier) (order_drop 289 earlier is.kept.timed.order) gone in
      rw (
        one_is (λ c. c.fetch) (λ before x after. omega arith) t reach
            (each_more (EarlyBy t) (λ x. x.fetch ≤ t) (λ x h. h.0) (drop 289 earlier) each),
        one_is (λ c. c.dispatch) (λ before x after. omega (arith, after.after.0)) t reach
            (each_more (EarlyBy t) (λ x. x.dispatch ≤ t) (λ x h. h.1.0) (drop 289 earlier) each),
        one_is (λ c. c.issue) (λ before x after. omega (arith, after.after.0, after.after.1.0)) t reach
            (each_more (EarlyBy t) (λ x. x.issue ≤ t) (λ x h. h.1.1) (drop 289 earlier) each),
        one_is (λ c. c.retirement) (λ before x after. omega (arith, after.after.0, after.after.1.0, after.after.1.1)) t reach gone,
      ) refl

  pub few_latest : length ahead.latest.items ≤ ahead.flight.count
  few_latest = rw latest_items (omega (arith, length-map (take 289 earlier) cycles_in, length-take 289 earlier, size_is))

-- one more where the latest is fetched by a cycle: all but the 289 latest are retired by then
pub gone_next :
    (w : Widths) (items : List Marked) (old new : Lookahead) (t : ℕ) → IsAhead w items old → IsAhead w items new
    → new.flight.count ≡ old.flight.count + 1 → latest_fetch (timed_in w items old) ≤ t
    → AllByRecursion (λ x. x.retirement ≤ t) (drop 289 (timed_in w items new))
gone_next w items old new t is is_new count le =
    rw count (go (slice_get items old.flight.count) refl)
  where
    go :
        (found : Option Marked) → slice_get items old.flight.count ≡ found
        → AllByRecursion (λ x. x.retirement ≤ t) (drop 289 (times w (take (old.flight.count + 1) items)))
    go None none = absurd (omega (arith, ends_by items old.flight.count none, is_new.within, count))
    go (Some m) there =
        rw (← times_more w items old.flight.count m there) (gone_more (timed_in w items old) t is.kept.timed.order le)
