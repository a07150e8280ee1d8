-- A turn goes to the next cycle in which something happens.
use Rattle.std.proofs.Common.{All, Bool, List, None, Option, Some, ap, arith, drop, false, inl, inr, length, map, max, min, refl, subst, suc, sym, take, true, zero, ℕ, ◌≡◌, ◌⊎◌, ◌+◌, ◌-◌, ◌*◌, ◌^◌, ◌<◌, ◌≤◌, ◌==◌, ◌||◌, [], ◌∷◌, ◌∙◌}
use Rattle.std.proofs.lemmas.Bool.{cases_eq, false≢true, ne_eqb}
use Rattle.std.proofs.lemmas.List.{drop_all}
use Rattle.std.specs.List.{AllByRecursion}
use Rattle.circular_buffer.specs.Buffer.{buffer}
use Rattle.hierarchy.specs.Marked.{IsMarked}
use Rattle.hierarchy.specs.Widths.{AreWidths}
use Rattle.hierarchy.specs.declared.marked.Marked.{Marked}
use Rattle.hierarchy.specs.declared.widths.Widths.{Widths}
use Rattle.ruu_timing.specs.Events.{happens, happens_to, least_next}
use Rattle.ruu_timing.specs.Flight.{IsKept}
use Rattle.ruu_timing.specs.Laws.{IsFirst}
use Rattle.ruu_timing.specs.Lookahead.{IsAhead, IsFresh, cycles_in, progress_in, timed_in}
use Rattle.ruu_timing.specs.Progress.{behind, count_before, no_progress, progress_before, sum_of}
use Rattle.ruu_timing.specs.Ruu.{HasBegun, IsUnderWay, RuuShown}
use Rattle.ruu_timing.specs.Timed.{AreInOrder, AreTimed, IsWithin}
use Rattle.ruu_timing.specs.Times.{timed_after, times}
use Rattle.ruu_timing.specs.declared.lookahead.Lookahead.{Lookahead}
use Rattle.ruu_timing.specs.declared.progress.Progress.{Progress}
use Rattle.ruu_timing.specs.declared.timed.Timed.{Timed}
use Rattle.ruu_timing.proofs.EventsLemmas.{AreBefore, next_le_fetch, none_before, none_left, one_at, rest_none, taken_happens}
use Rattle.ruu_timing.proofs.ListLemmas.{each_more, each_take}
use Rattle.ruu_timing.proofs.LookaheadLemmas.{EarlyBy, all_timed, happens_same, happens_still, latest_fetch, latest_items, order_drop, progress_is, size_is, timed_times}
use Rattle.ruu_timing.proofs.ProgressLemmas.{all_gone, no_progress_yet, some_left, sum_gains, sum_most}
use Rattle.ruu_timing.proofs.TimedLemmas.{small}
use Rattle.ruu_timing.proofs.TimesLemmas.{length_times}

-- where nothing is timed
pub fresh_none : (w : Widths) (ahead : Lookahead) (items : List Marked) → ahead.flight.count ≡ 0 → timed_in w items ahead ≡ []
unfolding timed_after
fresh_none w ahead items none = rw none refl

fresh_ahead : (w : Widths) (ahead : Lookahead) → IsFresh w ahead → (items : List Marked) → IsAhead w items ahead
fresh_ahead w ahead is items =
    let none : [] ≡ timed_in w items ahead = sym (fresh_none w ahead items is.kept.count) in
    record {
      within = omega (arith, is.kept.count);
      kept = subst (λ l. IsKept w l ahead.flight) none is.kept;
      latest = is.latest ∙ ap (λ (l : List Timed). buffer (take 289 (map cycles_in l)) 289) none;
    }

pub has_begun : (ruu : RuuShown) → IsFresh ruu.widths ruu.ahead → ruu.cycle ≡ None → ruu.progress ≡ no_progress → HasBegun ruu
has_begun ruu fresh cycle progress = record {
  cycle = cycle;
  progress = progress;
  any = λ items.
      let none : timed_in ruu.widths items ruu.ahead ≡ [] = fresh_none ruu.widths ruu.ahead items fresh.kept.count in
      record {
        ahead = fresh_ahead ruu.widths ruu.ahead fresh items;
        reach = inr (rw cycle (omega arith));
        gone = rw none tt;
        progress = progress ∙ rw cycle (no_progress_yet (times ruu.widths items));
        small = rw cycle (omega arith);
      };
}

happens_small : (t n : ℕ) (xs : List Timed) → happens xs t ≡ true → AllByRecursion (IsWithin n) xs → t ≤ n
happens_small t n [] is each = absurd (false≢true is)
happens_small t n (x ∷ xs) is each = go (happens_to t x) refl is (λ h. happens_small t n xs h each.1)
  where
    this : (a b c : Bool) → (x.fetch == t) ≡ a → (x.dispatch == t) ≡ b → (x.issue == t) ≡ c → (a || (b || (c || (x.retirement == t)))) ≡ true → t ≤ n
    this true b c e f g is = elim (cases_eq x.fetch t) [
      | inl same ↦ omega (arith, each.0.fetch)
      | inr other ↦ absurd (false≢true (rw (ne_eqb x.fetch t other) at e))
    ]
    this false true c e f g is = elim (cases_eq x.dispatch t) [
      | inl same ↦ omega (arith, each.0.dispatch)
      | inr other ↦ absurd (false≢true (rw (ne_eqb x.dispatch t other) at f))
    ]
    this false false true e f g is = elim (cases_eq x.issue t) [
      | inl same ↦ omega (arith, each.0.issue)
      | inr other ↦ absurd (false≢true (rw (ne_eqb x.issue t other) at g))
    ]
    this false false false e f g is = elim (cases_eq x.retirement t) [
      | inl same ↦ omega (arith, each.0.retirement)
      | inr other ↦ absurd (false≢true (rw (ne_eqb x.retirement t other) at is))
    ]

    go : (b : Bool) → happens_to t x ≡ b → (b || happens xs t) ≡ true → (happens xs t ≡ true → t ≤ n) → t ≤ n
    go true e is rest = this (x.fetch == t) (x.dispatch == t) (x.issue == t) refl refl refl e
    go false e is rest = rest is

-- in order
orders : (xs : List Timed) → AreInOrder xs → AllByRecursion (λ x. EarlyBy x.retirement x) xs
orders [] order = tt
orders (x ∷ xs) order =
    let after = order.0.after in
    ((omega (arith, after.0, after.1.0, after.1.1), (omega (arith, after.1.0, after.1.1), omega (arith, after.1.1))), orders xs order.1)

gone_before : (past : ℕ) (xs : List Timed) → AreInOrder xs → AllByRecursion (λ x. x.retirement < past) xs → AllByRecursion (AreBefore past) xs
gone_before past [] order gone = tt
gone_before past (x ∷ xs) order gone =
    let after = order.0.after in (
      ((omega (arith, gone.0, after.0, after.1.0, after.1.1), omega (arith, gone.0, after.1.0, after.1.1)), (omega (arith, gone.0, after.1.1), gone.0)),
      gone_before past xs order.1 gone.1,
    )

each_both : (n : ℕ) (P : Timed → Type 0) (xs : List Timed) → AllByRecursion P (take n xs) → AllByRecursion P (drop n xs) → AllByRecursion P xs
each_both zero P [] first rest = tt
each_both zero P (x ∷ xs) first rest = rest
each_both (suc n) P [] first rest = tt
each_both (suc n) P (x ∷ xs) first rest = (first.0, each_both n P xs first.1 rest)

one_only : (xs : List Timed) → length xs ≤ 1 → drop 289 xs ≡ []
one_only xs le = drop_all 289 xs (omega arith)

module _
    (w : Widths) (widths : AreWidths w) (items : List Marked) (few : length items ≤ 110000) (marks : All IsMarked items)
    (cycle : Option ℕ) (progress : Progress) (before : Lookahead)
    (under : IsUnderWay items (record { widths = w; cycle = cycle; progress = progress; ahead = before }))
    (ahead : Lookahead) (is : IsAhead w items ahead) (count : ahead.flight.count ≡ max before.flight.count (min 1 (length items)))
    (kept : ahead.flight.count ≡ before.flight.count → ahead ≡ before)
  where
    abbrev earlier : List Timed
    earlier = timed_in w items ahead

    abbrev from : ℕ
    from = behind cycle

    none_from : before.flight.count ≡ 0 → 0 < length items → from ≡ 0
    none_from none some =
        elim under.reach [
          | inl e ↦ absurd (omega (arith, e))
          | inr le ↦
              let none_timed : latest_fetch (timed_in w items before) ≡ 0 = ap latest_fetch (fresh_none w before items none) in
              omega (arith, le, none_timed)
        ]

    started : (ahead.flight.count ≡ before.flight.count) ⊎ ((before.flight.count ≡ 0) × ((0 < length items) × (ahead.flight.count ≡ 1)))
    started =
        elim (cases_eq before.flight.count 0) [
          | inl e ↦
              elim (cases_eq (length items) 0) [
                | inl none ↦ inl (omega (arith, count))
                | inr some ↦ inr (e, (omega arith, omega (arith, count)))
              ]
          | inr other ↦ inl (omega (arith, count))
        ]

    reach : (ahead.flight.count ≡ length items) ⊎ (from ≤ latest_fetch earlier)
    reach =
        elim started [
          | inl e ↦ subst (λ a. (a.flight.count ≡ length items) ⊎ (from ≤ latest_fetch (timed_in w items a))) (sym (kept e)) under.reach
          | inr (none, (some, one)) ↦ inr (omega (arith, none_from none some))
        ]

    gone : AllByRecursion (λ x. x.retirement < from) (drop 289 earlier)
    gone =
        elim started [
          | inl e ↦ subst (λ a. AllByRecursion (λ x. x.retirement < from) (drop 289 (timed_in w items a))) (sym (kept e)) under.gone
          | inr (none, (some, one)) ↦
              let nothing : drop 289 earlier ≡ [] = one_only earlier (omega (arith, size_is w widths items few marks ahead is)) in
              rw nothing tt
        ]

    order : AreInOrder earlier
    order = is.kept.timed.order

    latest_least : (n : ℕ) → least_next from ahead.latest.items ≡ n → least_next from (map cycles_in (take 289 earlier)) ≡ n
    latest_least n e = ap (λ cs. least_next from cs) (sym (latest_items w widths items few marks ahead is)) ∙ e

    -- a fetch that isn't before is no later than the next event
    fetch_next : (xs : List Timed) → from ≤ latest_fetch xs → 0 < length xs → least_next from (map cycles_in (take 289 xs)) ≤ latest_fetch xs
    fetch_next [] le some = absurd (omega arith)
    fetch_next (x ∷ xs) le some = next_le_fetch from x (map cycles_in (take 288 xs)) le

    length_whole : length (times w items) ≡ length items
    length_whole = length_times w items

    small_all : AllByRecursion (IsWithin (2 ^ 29)) earlier
    small_all = small earlier is.kept.timed

    -- nothing is to come: all have been retired
    all_retired : least_next from ahead.latest.items ≡ 2 ^ 32 - 1 → AllByRecursion (λ x. x.retirement < from) earlier
    all_retired e =
        let first : AllByRecursion (λ x. x.retirement < 2 ^ 32 - 1) (take 289 earlier) =
        each_more (IsWithin (2 ^ 29)) (λ x. x.retirement < 2 ^ 32 - 1) (λ x h. omega (arith, h.retirement)) (take 289 earlier)
        (each_take (IsWithin (2 ^ 29)) 289 earlier small_all) in
        each_both 289 (λ x. x.retirement < from) earlier (none_left from (take 289 earlier) (latest_least (2 ^ 32 - 1) e) first) gone

    none_below : (xs : List Timed) → from ≡ 0 → AllByRecursion (λ x. x.retirement < from) xs → length xs ≡ 0
    none_below [] none each = refl
    none_below (x ∷ xs) none each = absurd (omega (arith, each.0))

    latest_small : (xs : List Timed) → AllByRecursion (IsWithin (2 ^ 29)) xs → latest_fetch xs ≤ 2 ^ 29
    latest_small [] each = omega arith
    latest_small (x ∷ xs) each = omega (arith, each.0.fetch)

    all_there : least_next from ahead.latest.items ≡ 2 ^ 32 - 1 → ahead.flight.count ≡ length items
    all_there e =
        elim reach [
          | inl all ↦ all
          | inr le ↦
              elim (cases_eq (length earlier) 0) [
                | inl none ↦
                    let size = size_is w widths items few marks ahead is in
                    omega (arith, size, none, count)
                | inr some ↦
                    absurd (omega (arith, fetch_next earlier le (omega arith), latest_least (2 ^ 32 - 1) e, latest_small earlier small_all))
              ]
        ]

    pub none_turn : least_next from ahead.latest.items ≡ 2 ^ 32 - 1 → (progress.retired ≡ length items) × (ahead ≡ before)
    none_turn e =
        let all : ahead.flight.count ≡ length items = all_there e in
        let whole : times w items ≡ earlier = all_timed w widths items few marks ahead is all in
        let past : AllByRecursion (λ x. x.retirement < from) earlier = all_retired e in
        let retired : progress.retired ≡ length items =
        ap (λ p. p.retired) under.progress ∙ ap (λ rows. count_before (λ x. x.retirement) from rows) whole
        ∙ all_gone from earlier past ∙ omega (arith, size_is w widths items few marks ahead is) in (
          retired,
          elim started [
            | inl same ↦ kept same
            | inr (none, (some, one)) ↦
                absurd (omega (arith, none_below earlier (none_from none some) past, size_is w widths items few marks ahead is))
          ],
        )

    some_of : (xs : List Timed) (t : ℕ) → happens xs t ≡ true → 0 < length xs
    some_of [] t here = absurd (false≢true here)
    some_of (x ∷ xs) t here = omega arith

    -- or something is: it is the next
    pub record IsSomeTurn (t : ℕ) : Type 0 where
      pub first : IsFirst (happens (times w items)) from t
      pub small : t ≤ 2 ^ 29
      pub gone : AllByRecursion (λ x. x.retirement ≤ t) (drop 289 earlier)

    pub some_turn : (t : ℕ) → least_next from ahead.latest.items ≡ t → t < 2 ^ 32 - 1 → IsSomeTurn t
    some_turn t e some =
        let least : least_next from (map cycles_in (take 289 earlier)) ≡ t = latest_least t e in
        let one = one_at from t (take 289 earlier) least some in
        let here : happens earlier t ≡ true = taken_happens 289 t earlier one.1 in
        record {
          first = record {
            start = one.0;
            passes = happens_still w widths items few marks ahead is t here;
            first = λ k after below.
                let none : happens (take 289 earlier) k ≡ false = none_before from k (take 289 earlier) after (omega (arith, least)) in
                let none_all : happens earlier k ≡ false =
                rest_none 289 k from earlier after (gone_before from (drop 289 earlier) (order_drop 289 earlier order) gone) none in
                elim reach [
                  | inl all ↦ ap (λ rows. happens rows k) (all_timed w widths items few marks ahead is all) ∙ none_all
                  | inr le ↦
                      happens_same w widths items few marks ahead is k (before_fetch k below least here le) ∙ none_all
                ];
          };
          small = happens_small t (2 ^ 29) earlier here small_all;
          gone = each_more (λ x. x.retirement < from) (λ x. x.retirement ≤ t) (λ x h. omega (arith, h, one.0)) (drop 289 earlier) gone;
        }
      where
        before_fetch :
            (k : ℕ) → k < t → least_next from (map cycles_in (take 289 earlier)) ≡ t → happens earlier t ≡ true → from ≤ latest_fetch earlier
            → k < latest_fetch earlier
        before_fetch k below least here le = omega (arith, fetch_next earlier le (some_of earlier t here), least)

    pub turn_rises : (t : ℕ) → IsSomeTurn t → sum_of progress < sum_of (progress_before (times w items) (t + 1))
    turn_rises t turn = rw under.progress (sum_gains from t (times w items) turn.first.start turn.first.passes)

    pub turn_left : (t : ℕ) → IsSomeTurn t → progress.retired < length items
    turn_left t turn =
        let whole : AreTimed (times w items) = timed_times w items widths few marks in
        rw under.progress
        (omega (arith, some_left from t (times w items) turn.first.start turn.first.passes (orders (times w items) whole.order), length_whole))

    pub turned :
        (t : ℕ) (more : Lookahead) → IsSomeTurn t → IsAhead w items more
        → (more.flight.count ≡ length items) ⊎ (t < latest_fetch (timed_in w items more))
        → AllByRecursion (λ x. x.retirement ≤ t) (drop 289 (timed_in w items more))
        → IsUnderWay items (record { widths = w; cycle = Some t; progress = progress_in more t; ahead = more })
    turned t more turn is_more far past = record {
      ahead = is_more;
      reach = elim far [ inl all ↦ inl all | inr lt ↦ inr (omega (arith, lt)) ];
      gone = each_more (λ x. x.retirement ≤ t) (λ x. x.retirement < t + 1) (λ x h. omega (arith, h)) (drop 289 (timed_in w items more)) past;
      progress = progress_is w widths items few marks more is_more t far past;
      small = omega (arith, turn.small);
    }

    pub most : (past : ℕ) → sum_of (progress_before (times w items) past) ≤ 4 * length items
    most past = omega (arith, sum_most past (times w items), length_whole)
