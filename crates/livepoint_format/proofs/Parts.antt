-- The words of a point, and its own pairs and runs, go back and forth.
use Rattle.std.proofs.Common.{◌≡◌, ℕ, zero, suc, ◌+◌, ◌%◌, ◌^◌, ◌<◌, ◌≤◌, Bool, true, false, eqb, leb, ◌&&◌, Option, Some, None, is_none, List, [], ◌∷◌, ◌++◌, length, filter, refl, sym, ap, subst, ◌∙◌, arith, eq-eqb, eqb-true, lt-ltb, ltb-true, get_or, inl, inr}
use Rattle.std.specs.Prelude.{filter_map, flat_map, sum_by}
use Rattle.std.specs.List.{AllByRecursion}
use Rattle.std.proofs.lemmas.Bool.{and_parts, leb-true, le-leb, cases_Bool}
use Rattle.std.proofs.lemmas.List.{length-map}
use Rattle.std.proofs.lemmas.List.Sums.{sum_by-cons, sum_by-append}
use Rattle.live_words.specs.Follow.{last_of, Follow}
use Rattle.live_words.specs.Words.{is_above, rises, IsPair, AreWords}
use Rattle.live_words.proofs.FollowLemmas.{last_or-push}
use Rattle.livepoint_format.specs.Shared.{Parts, place_in, parts_of, runs_of, stretch, words_of, are_apart, merged}
use Rattle.livepoint_format.specs.Format.{begins, is_own, is_run, AreParts}
use Rattle.live_points.specs.Sharing.{ranks}
use Rattle.livepoint_format.specs.Rising.{IsWord, AreRising}
use Rattle.livepoint_format.proofs.Merges.{merged_filters, own_of_merged, shared_of_merged, length_merged, all_merged, words_of_rising, rising_of_apart, apart_of_rising}
use Rattle.livepoint_format.proofs.Runs.{places_of_runs, ArePlaces, IsRun, AreRuns, places_of_runs_of, runs_of_places, runs_are, sum_of_runs, pairs_at, pairs_of_runs, places_below}
use Rattle.livepoint_format.proofs.Places.{AreRanked, ranked_of_follow, places_rise, pairs_of_places, places_of_shared, places_of_pairs, pairs_are_shared, pairs_are_words}

-- ---- what may follow, as what comes next

abbrev next_address : Option (ℕ × ℕ) → ℕ
next_address None = 0
next_address (Some p) = suc p.0

above_low : (last : Option (ℕ × ℕ)) (addr : ℕ) → is_above last addr ≡ true → next_address last ≤ addr
above_low None addr e = omega arith
above_low (Some p) addr e = let h : p.0 < addr = ltb-true _ _ e in omega arith

low_above : (last : Option (ℕ × ℕ)) (addr : ℕ) → next_address last ≤ addr → is_above last addr ≡ true
low_above None addr h = refl
low_above (Some p) addr h = lt-ltb p.0 addr (omega arith)

word_of_test : (before : List (ℕ × ℕ)) (w : ℕ × ℕ) → rises before w ≡ true → w.0 < 2 ^ 32 → w.1 < 2 ^ 32 → IsWord (next_address (last_of before)) w
word_of_test before w e addr value =
    let both : (eqb (w.0 % 4) 0 ≡ true) × (is_above (last_of before) w.0 ≡ true) = and_parts _ _ e in
    record { low = above_low (last_of before) w.0 both.1; aligned = eqb-true _ _ both.0; addr = addr; value = value }

test_of_word : (before : List (ℕ × ℕ)) (w : ℕ × ℕ) → IsWord (next_address (last_of before)) w → rises before w ≡ true
test_of_word before w h = rw (eq-eqb (w.0 % 4) 0 h.aligned, low_above (last_of before) w.0 h.low) refl

after_push : (before : List (ℕ × ℕ)) (w : ℕ × ℕ) → next_address (last_of (before ++ w ∷ [])) ≡ suc w.0
after_push before w = ap next_address (last_or-push before w None)

pub rising_of_words : (before ws : List (ℕ × ℕ)) → Follow (IsPair rises) before ws → AreRising (next_address (last_of before)) ws
rising_of_words before [] follow = tt
rising_of_words before (w ∷ ws) follow = (
  word_of_test before w follow.0.passes follow.0.addr follow.0.value,
  subst (λ (n : ℕ). AreRising n ws) (after_push before w) (rising_of_words (before ++ w ∷ []) ws follow.1),
)

pub words_of_rising_ones : (before ws : List (ℕ × ℕ)) → AreRising (next_address (last_of before)) ws → Follow (IsPair rises) before ws
words_of_rising_ones before [] are = tt
words_of_rising_ones before (w ∷ ws) are = (
  record { addr = are.0.addr; value = are.0.value; passes = test_of_word before w are.0 },
  words_of_rising_ones (before ++ w ∷ []) ws (subst (λ (n : ℕ). AreRising n ws) (sym (after_push before w)) are.1),
)

abbrev absent : List (ℕ × ℕ) → ℕ × ℕ → Bool
absent shared w = is_none (place_in shared w)

rising_of_own : (shared before own : List (ℕ × ℕ)) → Follow (IsPair (is_own shared)) before own
    → AreRising (next_address (last_of before)) own × AllByRecursion (λ w. absent shared w ≡ true) own
rising_of_own shared before [] follow = (tt, tt)
rising_of_own shared before (w ∷ own) follow =
    let both : (rises before w ≡ true) × (absent shared w ≡ true) = and_parts _ _ follow.0.passes in
    let rest : AreRising (next_address (last_of (before ++ w ∷ []))) own × AllByRecursion (λ w. absent shared w ≡ true) own =
    rising_of_own shared (before ++ w ∷ []) own follow.1 in (
      (
        word_of_test before w both.0 follow.0.addr follow.0.value,
        subst (λ (n : ℕ). AreRising n own) (after_push before w) rest.0,
      ),
      (both.1, rest.1),
    )

own_of_rising : (shared before own : List (ℕ × ℕ)) → AreRising (next_address (last_of before)) own
    → AllByRecursion (λ w. absent shared w ≡ true) own → Follow (IsPair (is_own shared)) before own
own_of_rising shared before [] are all = tt
own_of_rising shared before (w ∷ own) are all = (
  record { addr = are.0.addr; value = are.0.value; passes = rw (test_of_word before w are.0, all.0) refl },
  own_of_rising shared (before ++ w ∷ []) own (subst (λ (n : ℕ). AreRising n own) (sym (after_push before w)) are.1) all.1,
)

abbrev next_place : Option (ℕ × ℕ) → ℕ
next_place None = 0
next_place (Some run) = suc (run.0 + run.1)

begins_low : (last : Option (ℕ × ℕ)) (first : ℕ) → begins last first ≡ true → next_place last ≤ first
begins_low None first e = omega arith
begins_low (Some run) first e = let h : run.0 + run.1 < first = ltb-true _ _ e in omega arith

low_begins : (last : Option (ℕ × ℕ)) (first : ℕ) → next_place last ≤ first → begins last first ≡ true
low_begins None first h = refl
low_begins (Some run) first h = lt-ltb (run.0 + run.1) first (omega arith)

after_run : (before : List (ℕ × ℕ)) (run : ℕ × ℕ) → next_place (last_of (before ++ run ∷ [])) ≡ suc (run.0 + run.1)
after_run before run = ap next_place (last_or-push before run None)

abbrev words_in : List (ℕ × ℕ) → ℕ
words_in runs = sum_by (λ r. r.1) runs

pub one_more : (before : List (ℕ × ℕ)) (run : ℕ × ℕ) → words_in (before ++ run ∷ []) ≡ words_in before + run.1
one_more before run = sum_by-append (λ r. r.1) before (run ∷ []) ∙ omega (arith, sum_by-cons (λ (r : ℕ × ℕ). r.1) run [])

record AreRunsWithin (most own size : ℕ) (before runs : List (ℕ × ℕ)) : Type 0 where
  are : AreRuns (next_place (last_of before)) size runs
  few : own + words_in before + words_in runs ≤ most

runs_of_follow : (most own size : ℕ) (before runs : List (ℕ × ℕ)) → own + words_in before ≤ most
    → Follow (IsPair (is_run most own size)) before runs → AreRunsWithin most own size before runs
runs_of_follow most own size before [] few follow = record { are = tt; few = omega arith }
runs_of_follow most own size before (run ∷ runs) few follow =
    let a : (leb 1 run.1 ≡ true) × ((begins (last_of before) run.0 && (leb (run.0 + run.1) size && leb (own + words_in before + run.1) most)) ≡ true) = and_parts _ _ follow.0.passes in
    let b : (begins (last_of before) run.0 ≡ true) × ((leb (run.0 + run.1) size && leb (own + words_in before + run.1) most) ≡ true) = and_parts _ _ a.1 in
    let c : (leb (run.0 + run.1) size ≡ true) × (leb (own + words_in before + run.1) most ≡ true) = and_parts _ _ b.1 in
    let one : words_in (before ++ run ∷ []) ≡ words_in before + run.1 = one_more before run in
    let limit : own + words_in before + run.1 ≤ most = leb-true _ _ c.1 in
    let rest : AreRunsWithin most own size (before ++ run ∷ []) runs =
    runs_of_follow most own size (before ++ run ∷ []) runs (omega arith) follow.1 in
    let sum : words_in (run ∷ runs) ≡ run.1 + words_in runs = sum_by-cons (λ (r : ℕ × ℕ). r.1) run runs in
    record {
      are = (
        record { begins = begins_low (last_of before) run.0 b.0; some = leb-true _ _ a.0; within = leb-true _ _ c.0 },
        subst (λ (n : ℕ). AreRuns n size runs) (after_run before run) rest.are,
      );
      few = omega (arith, rest.few);
    }

follow_of_runs : (most own size : ℕ) (before runs : List (ℕ × ℕ)) → size < 2 ^ 32 → AreRunsWithin most own size before runs
    → Follow (IsPair (is_run most own size)) before runs
follow_of_runs most own size before [] small are = tt
follow_of_runs most own size before (run ∷ runs) small are =
    let one : words_in (before ++ run ∷ []) ≡ words_in before + run.1 = one_more before run in
    let sum : words_in (run ∷ runs) ≡ run.1 + words_in runs = sum_by-cons (λ (r : ℕ × ℕ). r.1) run runs in
    let whole : own + words_in before + words_in (run ∷ runs) ≤ most = are.few in
    let is : IsRun (next_place (last_of before)) size run = are.are.0 in (
      record {
        addr = omega (arith, is.within);
        value = omega (arith, is.within);
        passes = rw (
          le-leb 1 run.1 is.some,
          low_begins (last_of before) run.0 is.begins,
          le-leb (run.0 + run.1) size is.within,
          le-leb (own + words_in before + run.1) most (omega arith),
        ) refl;
      },
      follow_of_runs most own size (before ++ run ∷ []) runs small
          (record {
            are = subst (λ (n : ℕ). AreRuns n size runs) (sym (after_run before run)) are.are.1;
            few = omega arith;
          }),
    )

-- ---- back and forth

rising_lower : (least lower : ℕ) (ws : List (ℕ × ℕ)) → lower ≤ least → AreRising least ws → AreRising lower ws
rising_lower least lower [] h are = tt
rising_lower least lower (w ∷ ws) h are =
    (record { low = omega (arith, are.0.low); aligned = are.0.aligned; addr = are.0.addr; value = are.0.value }, are.1)

module _ (test : ℕ × ℕ → Bool) where
  filter_rises : (least : ℕ) (ws : List (ℕ × ℕ)) → AreRising least ws → AreRising least (filter test ws)
  filter_rises least [] are = tt
  filter_rises least (w ∷ ws) are =
      elim (cases_Bool (test w)) [
        | inl e ↦ rw e (are.0, filter_rises (suc w.0) ws are.1)
        | inr e ↦
            rw e (rising_lower (suc w.0) least (filter test ws) (let low : least ≤ w.0 = are.0.low in omega arith)
            (filter_rises (suc w.0) ws are.1))
      ]

  filter_passes : (ws : List (ℕ × ℕ)) → AllByRecursion (λ w. test w ≡ true) (filter test ws)
  filter_passes [] = tt
  filter_passes (w ∷ ws) =
      elim (cases_Bool (test w)) [
        | inl e ↦ rw e (e, filter_passes ws)
        | inr e ↦ rw e (filter_passes ws)
      ]

-- each run has a word
runs_few : (least size : ℕ) (runs : List (ℕ × ℕ)) → AreRuns least size runs → length runs ≤ words_in runs
runs_few least size [] are = omega arith
runs_few least size (run ∷ runs) are =
    let some : 1 ≤ run.1 = are.0.some in
    omega (arith, runs_few (suc (run.0 + run.1)) size runs are.1, sum_by-cons (λ (r : ℕ × ℕ). r.1) run runs)

module _ (shared : List (ℕ × ℕ)) (ranked : Follow (IsPair ranks) [] shared) where
  order : AreRanked None shared
  order = ranked_of_follow [] shared ranked

  -- ---- from words

  places_are : (ws : List (ℕ × ℕ)) → AreWords ws → ArePlaces 0 (length shared) (filter_map (place_in shared) ws)
  places_are ws words = places_rise shared order 0 0 (λ j h within. absurd (omega arith)) ws (rising_of_words [] ws words)

  shared_words : (ws : List (ℕ × ℕ)) → AreWords ws
      → flat_map (stretch shared) (parts_of shared ws).runs ≡ pairs_at shared (filter_map (place_in shared) ws)
  shared_words ws words =
      pairs_of_runs shared 0 (parts_of shared ws).runs (runs_are 0 (length shared) (filter_map (place_in shared) ws) (places_are ws words))
      ∙ ap (pairs_at shared) (places_of_runs_of (filter_map (place_in shared) ws))

  pub words_again : (ws : List (ℕ × ℕ)) → AreWords ws → words_of shared (parts_of shared ws) ≡ ws
  words_again ws words =
      ap (merged (filter (absent shared) ws)) (shared_words ws words ∙ pairs_of_places shared ws)
      ∙ merged_filters (absent shared) 0 ws (rising_of_words [] ws words)

  words_are_parts : (ws : List (ℕ × ℕ)) → AreWords ws
      → length (parts_of shared ws).own + words_in (parts_of shared ws).runs ≡ length ws
  words_are_parts ws words =
      let long : length (pairs_at shared (filter_map (place_in shared) ws)) ≡ length (filter_map (place_in shared) ws) =
      length-map (filter_map (place_in shared) ws) (λ place. get_or shared place (0, 0)) in
      let runs : words_in (parts_of shared ws).runs ≡ length (filter_map (place_in shared) ws) =
      sum_of_runs (parts_of shared ws).runs ∙ ap length (places_of_runs_of (filter_map (place_in shared) ws)) in
      let whole : length ws ≡ length (filter (absent shared) ws) + length (pairs_at shared (filter_map (place_in shared) ws)) =
      ap length (sym (words_again ws words)) ∙ ap (λ (l : List (ℕ × ℕ)). length (merged (filter (absent shared) ws) l)) (shared_words ws words)
      ∙ length_merged (filter (absent shared) ws) (pairs_at shared (filter_map (place_in shared) ws)) in
      omega arith

  pub parts_are : (most : ℕ) (ws : List (ℕ × ℕ)) → length shared < 2 ^ 32 → AreWords ws → length ws ≤ most → AreParts most shared (parts_of shared ws)
  parts_are most ws small words few =
      let runs : AreRuns 0 (length shared) (parts_of shared ws).runs = runs_are 0 (length shared) (filter_map (place_in shared) ws) (places_are ws words) in
      let whole : length (parts_of shared ws).own + words_in (parts_of shared ws).runs ≡ length ws = words_are_parts ws words in
      record {
        few_own = omega arith;
        few_runs = omega (arith, runs_few 0 (length shared) (parts_of shared ws).runs runs);
        own = own_of_rising shared [] (filter (absent shared) ws) (filter_rises (absent shared) 0 ws (rising_of_words [] ws words)) (filter_passes (absent shared) ws);
        runs = follow_of_runs most (length (parts_of shared ws).own) (length shared) [] (parts_of shared ws).runs small (record { are = runs; few = omega arith });
      }

  -- ---- from parts

  module _ (most : ℕ) (p : Parts) (are : AreParts most shared p) where
    runs_within : AreRunsWithin most (length p.own) (length shared) [] p.runs
    runs_within =
        let few : length p.own ≤ most = are.few_own in
        runs_of_follow most (length p.own) (length shared) [] p.runs (omega arith) are.runs

    own_within : AreRising 0 p.own × AllByRecursion (λ w. absent shared w ≡ true) p.own
    own_within = rising_of_own shared [] p.own are.own

    below : (i : ℕ) → i < length (places_of_runs p.runs) → get_or (places_of_runs p.runs) i 0 < length shared
    below = places_below 0 (length shared) p.runs runs_within.are

    run_words : flat_map (stretch shared) p.runs ≡ pairs_at shared (places_of_runs p.runs)
    run_words = pairs_of_runs shared 0 p.runs runs_within.are

    pub parts_again : parts_of shared (words_of shared p) ≡ p
    parts_again =
        let none : AllByRecursion (λ w. absent shared w ≡ false) (pairs_at shared (places_of_runs p.runs)) =
        pairs_are_shared shared order (places_of_runs p.runs) below in
        let ws : List (ℕ × ℕ) = merged p.own (pairs_at shared (places_of_runs p.runs)) in
        let own : filter (absent shared) ws ≡ p.own =
        own_of_merged (absent shared) 0 p.own (pairs_at shared (places_of_runs p.runs)) own_within.0 own_within.1 none in
        let places : filter_map (place_in shared) ws ≡ places_of_runs p.runs =
        sym (places_of_shared shared ws)
        ∙ ap (filter_map (place_in shared)) (shared_of_merged (absent shared) p.own (pairs_at shared (places_of_runs p.runs)) own_within.1 none)
        ∙ places_of_pairs shared order (places_of_runs p.runs) below in
        let runs : runs_of (filter_map (place_in shared) ws) ≡ p.runs =
        ap runs_of places ∙ runs_of_places 0 (length shared) p.runs runs_within.are in
        ap (λ (l : List (ℕ × ℕ)). parts_of shared (merged p.own l)) run_words
        ∙ (λ i. record { own = own i; runs = runs i })

    pub words_are : are_apart (words_of shared p) ≡ true → AreWords (words_of shared p)
    words_are apart =
        let all : AllByRecursion (IsWord 0) (words_of shared p) =
        all_merged (IsWord 0) p.own (flat_map (stretch shared) p.runs) (words_of_rising 0 p.own own_within.0)
        (rw run_words (pairs_are_words shared order (places_of_runs p.runs) below)) in
        words_of_rising_ones [] (words_of shared p) (rising_of_apart (words_of shared p) all apart)

    pub words_few : length (words_of shared p) ≤ most
    words_few =
        let long : length (pairs_at shared (places_of_runs p.runs)) ≡ length (places_of_runs p.runs) =
        length-map (places_of_runs p.runs) (λ place. get_or shared place (0, 0)) in
        omega (arith, length_merged p.own (flat_map (stretch shared) p.runs), ap length run_words, sum_of_runs p.runs, runs_within.few)

pub words_apart : (ws : List (ℕ × ℕ)) → AreWords ws → are_apart ws ≡ true
words_apart ws words = apart_of_rising 0 ws (rising_of_words [] ws words)

run_inside : (least size : ℕ) (runs : List (ℕ × ℕ)) → AreRuns least size runs
    → (i : ℕ) → i < length runs → (get_or runs i (0, 0)).0 + (get_or runs i (0, 0)).1 ≤ size
run_inside least size [] are i h = absurd (omega arith)
run_inside least size (run ∷ runs) are zero h = are.0.within
run_inside least size (run ∷ runs) are (suc i) h = run_inside (suc (run.0 + run.1)) size runs are.1 i (omega arith)

pub runs_inside : (most : ℕ) (shared : List (ℕ × ℕ)) (p : Parts) → Follow (IsPair ranks) [] shared → AreParts most shared p
    → (i : ℕ) → i < length p.runs → (get_or p.runs i (0, 0)).0 + (get_or p.runs i (0, 0)).1 ≤ length shared
runs_inside most shared p ranked are = run_inside 0 (length shared) p.runs (runs_within shared ranked most p are).are

pub own_rises : (most : ℕ) (shared : List (ℕ × ℕ)) (p : Parts) → Follow (IsPair ranks) [] shared → AreParts most shared p → AreRising 0 p.own
own_rises most shared p ranked are = (own_within shared ranked most p are).0
