-- What a record holds, said of each block by itself.
use Rattle.std.proofs.Common.{◌≡◌, ◌≢◌, ℕ, zero, suc, ◌+◌, ◌-◌, ◌<◌, Bool, true, false, not, ◌&&◌, eqb, ltb, cond, List, [], ◌∷◌, length, take, drop, get_or, slice_get, filter, Option, Some, refl, sym, ap, subst, ◌∙◌, inl, inr, ◌⊎◌, arith, eq-eqb, eqb-true, lt-ltb, le-ltb, true≢false, le_of_lt, ap₂, unwrap_or}
use Rattle.std.specs.List.{list_any, Contains}
use Rattle.std.proofs.lemmas.Bool.{cases_eq, cases_Bool, false≢true, or_left, or_right}
use Rattle.std.proofs.lemmas.List.{get_or-drop, length-drop}
use Rattle.lru_plain.specs.Shape.{Shape, home_of}
use Rattle.recency_record.specs.declared.entry.Entry.{Entry}
use Rattle.std.specs.List.{AllByRecursion}
use Rattle.recency_record.specs.Uses.{is_last_place, uses_before, last_uses, entries_of, IsLastPlace, places_below, later_last_places}
use Rattle.recency_record.specs.Recency.{HoldsLastUses, record_of, blocks_of, IsRanked}
use Rattle.recency_record.proofs.Eachs.{each_weaker}
use Rattle.recency_record.proofs.LastUses.{last_uses_ranked}
use Rattle.recency_record.proofs.Ranks.{ranked_filter}
use Rattle.recency_record.proofs.Referring.{recent_read}

-- an entry of a list, by recursion
abbrev Among : List Entry → Entry → Type 0
Among [] e = ⊥
Among (x ∷ xs) e = (x ≡ e) ⊎ Among xs e

among_contains : (es : List Entry) (e : Entry) → Among es e → Contains es e
among_contains [] e h = absurd h
among_contains (x ∷ xs) e (inl same) = (0, omega arith, same)
among_contains (x ∷ xs) e (inr behind) =
    let rest : Contains xs e = among_contains xs e behind in (suc rest.0, let h : rest.0 < length xs = rest.1 in omega (arith, h), rest.2)

contains_among : (es : List Entry) (e : Entry) → Contains es e → Among es e
contains_among [] e (k, h, at) = absurd (omega (arith, h))
contains_among (x ∷ xs) e (zero, h, at) = inl at
contains_among (x ∷ xs) e (suc k, h, at) = inr (contains_among xs e (k, (omega (arith, h)), at))

each_among : (P : Entry → Type 0) (es : List Entry) (e : Entry) → AllByRecursion P es → Among es e → P e
each_among P [] e h at = absurd at
each_among P (x ∷ xs) e h (inl same) = subst P same h.0
each_among P (x ∷ xs) e h (inr behind) = each_among P xs e h.1 behind

-- an entry that a filter keeps
filtered_among : (test : Entry → Bool) (es : List Entry) (e : Entry) → Among (filter test es) e → Among es e × (test e ≡ true)
filtered_among test [] e h = absurd h
filtered_among test (x ∷ xs) e h = go (test x) refl h (filtered_among test xs e)
  where
    go : (b : Bool) → test x ≡ b → Among (cond b (x ∷ filter test xs) (filter test xs)) e
        → (Among (filter test xs) e → Among xs e × (test e ≡ true)) → Among (x ∷ xs) e × (test e ≡ true)
    go true q (inl same) rest = (inl same, sym (ap test same) ∙ q)
    go true q (inr behind) rest = (inr (rest behind).0, (rest behind).1)
    go false q behind rest = (inr (rest behind).0, (rest behind).1)

among_filtered : (test : Entry → Bool) (es : List Entry) (e : Entry) → test e ≡ true → Among es e → Among (filter test es) e
among_filtered test [] e q h = absurd h
among_filtered test (x ∷ xs) e q (inl same) = rw (ap test same ∙ q) (inl same)
among_filtered test (x ∷ xs) e q (inr behind) = go (test x) (among_filtered test xs e q behind)
  where
    go : (b : Bool) → Among (filter test xs) e → Among (cond b (x ∷ filter test xs) (filter test xs)) e
    go true rest = inr rest
    go false rest = rest

-- the entries with later times
abbrev later : ℕ → List Entry → List Entry
later t es = filter (λ x. ltb t x.time) es

-- none is later than one that all are earlier than
later_none : (t : ℕ) (es : List Entry) → AllByRecursion (λ x. x.time < t) es → length (later t es) ≡ 0
later_none t [] h = refl
later_none t (x ∷ xs) h = rw (le-ltb t x.time (le_of_lt h.0)) (later_none t xs h.1)

earlier : (e x : Entry) (es : List Entry) → IsRanked (x ∷ es) → Among es e → e.time < x.time
earlier e x es ranked at = (each_among (λ y. (y.time < x.time) × (y.block ≢ x.block)) es e ranked.0 at).0

-- which of ranked entries are among the first
taken_among : (n : ℕ) (es : List Entry) (e : Entry) → IsRanked es → Among (take n es) e
    → Among es e × (length (later e.time es) < n)
taken_among zero es e ranked h = absurd h
taken_among (suc n) [] e ranked h = absurd h
taken_among (suc n) (x ∷ xs) e ranked (inl same) =
    let all : AllByRecursion (λ y. y.time < e.time) xs =
    each_weaker (λ y. (y.time < x.time) × (y.block ≢ x.block)) (λ y. y.time < e.time) xs
    (λ y h. rw (← same) h.0) ranked.0 in
    let time : x.time ≡ e.time = ap (λ (y : Entry). y.time) same in
    (inl same, rw (le-ltb e.time x.time (omega (arith, time))) (omega (arith, later_none e.time xs all)))
taken_among (suc n) (x ∷ xs) e ranked (inr behind) =
    let rest : Among xs e × (length (later e.time xs) < n) = taken_among n xs e ranked.1 behind in
    let count : length (later e.time xs) < n = rest.1 in
    (inr rest.0, rw (lt-ltb e.time x.time (earlier e x xs ranked rest.0)) (omega (arith, count)))

among_taken : (n : ℕ) (es : List Entry) (e : Entry) → IsRanked es → Among es e → length (later e.time es) < n
    → Among (take n es) e
among_taken zero es e ranked at h = absurd (omega (arith, h))
among_taken (suc n) [] e ranked at h = absurd at
among_taken (suc n) (x ∷ xs) e ranked (inl same) h = inl same
among_taken (suc n) (x ∷ xs) e ranked (inr behind) h =
    let count : suc (length (later e.time xs)) < suc n = rw (lt-ltb e.time x.time (earlier e x xs ranked behind)) at h in
    inr (among_taken n xs e ranked.1 behind (omega (arith, count)))

abbrev entry_of_use : ℕ → ℕ → Entry
entry_of_use block time = record { block = block; time = time }

-- which uses there are before a place
record IsUse (blocks : List ℕ) (n : ℕ) (e : Entry) : Type 0 where
  before : e.time < n
  last : is_last_place blocks e.time ≡ true
  block : get_or blocks e.time 0 ≡ e.block

use_of : (blocks : List ℕ) (n : ℕ) (e : Entry) → Among (uses_before blocks n) e → IsUse blocks n e
use_of blocks zero e h = absurd h
use_of blocks (suc t) e h = go (is_last_place blocks t) refl h (use_of blocks t e)
  where
    further : IsUse blocks t e → IsUse blocks (suc t) e
    further u = record { before = let b : e.time < t = u.before in omega (arith, b); last = u.last; block = u.block }

    go : (b : Bool) → is_last_place blocks t ≡ b
        → Among (cond b (record { block = get_or blocks t 0; time = t } ∷ uses_before blocks t) (uses_before blocks t)) e
        → (Among (uses_before blocks t) e → IsUse blocks t e) → IsUse blocks (suc t) e
    go true q (inl same) rest =
        let time : t ≡ e.time = ap (λ (y : Entry). y.time) same in
        let block : get_or blocks t 0 ≡ e.block = ap (λ (y : Entry). y.block) same in
        record { before = omega (arith, time); last = rw (← time) q; block = rw (← time) block }
    go true q (inr behind) rest = further (rest behind)
    go false q behind rest = further (rest behind)

use_in : (blocks : List ℕ) (n : ℕ) (e : Entry) → IsUse blocks n e → Among (uses_before blocks n) e
use_in blocks zero e u = absurd (let b : e.time < 0 = u.before in omega (arith, b))
use_in blocks (suc t) e u =
    elim (cases_eq e.time t) [
      | inl same ↦
          let last : is_last_place blocks t ≡ true = rw same at u.last in
          let block : get_or blocks t 0 ≡ e.block = rw same at u.block in
          rw last (inl (ap₂ (λ (b n : ℕ). entry_of_use b n) block (sym same)))
      | inr other ↦
          let b : e.time < suc t = u.before in
          go (is_last_place blocks t)
          (use_in blocks t e (record { before = omega (arith, b, other); last = u.last; block = u.block }))
    ]
  where
    go : (b : Bool) → Among (uses_before blocks t) e
        → Among (cond b (record { block = get_or blocks t 0; time = t } ∷ uses_before blocks t) (uses_before blocks t)) e
    go true rest = inr rest
    go false rest = rest

-- a place that a list has
read_some : (xs : List ℕ) (k b : ℕ) → slice_get xs k ≡ Some b → (k < length xs) × (get_or xs k 0 ≡ b)
read_some [] k b h = absurd cc
read_some (x ∷ xs) zero b h = (omega arith, ap (λ (o : Option ℕ). unwrap_or o 0) h)
read_some (x ∷ xs) (suc k) b h =
    let rest : (k < length xs) × (get_or xs k 0 ≡ b) = read_some xs k b h in
    (let below : k < length xs = rest.0 in omega (arith, below), rest.1)

some_read : (xs : List ℕ) (k : ℕ) → k < length xs → slice_get xs k ≡ Some (get_or xs k 0)
some_read [] k h = absurd (omega (arith, h))
some_read (x ∷ xs) zero h = refl
some_read (x ∷ xs) (suc k) h = some_read xs k (omega (arith, h))

any_passes : (test : ℕ → Bool) (xs : List ℕ) (k : ℕ) → k < length xs → test (get_or xs k 0) ≡ true → list_any test xs ≡ true
any_passes test [] k h q = absurd (omega (arith, h))
any_passes test (x ∷ xs) zero h q = or_left (test x) (list_any test xs) q
any_passes test (x ∷ xs) (suc k) h q = or_right (test x) (list_any test xs) (any_passes test xs k (omega (arith, h)) q)

any_found : (test : ℕ → Bool) (xs : List ℕ) → list_any test xs ≡ true → (k : ℕ) × (k < length xs) × (test (get_or xs k 0) ≡ true)
any_found test [] h = absurd (false≢true h)
any_found test (x ∷ xs) h =
    elim (cases_Bool (test x)) [
      | inl q ↦ (0, omega arith, q)
      | inr q ↦
          let rest : (k : ℕ) × (k < length xs) × (test (get_or xs k 0) ≡ true) = any_found test xs (rw q at h) in
          (suc rest.0, let b : rest.0 < length xs = rest.1 in omega (arith, b), rest.2)
    ]

-- the test of a last place, in words
last_place_of : (blocks : List ℕ) (e : Entry) → IsUse blocks (length blocks) e → IsLastPlace blocks e.block e.time
last_place_of blocks e u = record {
  there = some_read blocks e.time u.before ∙ ap Some u.block;
  last = λ k after at.
      let read : (k < length blocks) × (get_or blocks k 0 ≡ e.block) = read_some blocks k e.block at in
      let below : k < length blocks = read.0 in
      let along : (e.time + 1) + (k - (e.time + 1)) ≡ k = omega (arith, after) in
      let within : k - (e.time + 1) < length (drop (e.time + 1) blocks) = omega (arith, length-drop (e.time + 1) blocks, below, after) in
      let same : get_or (drop (e.time + 1) blocks) (k - (e.time + 1)) 0 ≡ get_or blocks e.time 0 =
      get_or-drop (e.time + 1) blocks (k - (e.time + 1)) 0 ∙ ap (λ (n : ℕ). get_or blocks n 0) along ∙ read.1 ∙ sym u.block in
      let any : list_any (λ b. eqb b (get_or blocks e.time 0)) (drop (e.time + 1) blocks) ≡ true =
      any_passes (λ b. eqb b (get_or blocks e.time 0)) (drop (e.time + 1) blocks) (k - (e.time + 1)) within (eq-eqb _ _ same) in
      let none : is_last_place blocks e.time ≡ false = ap not any in
      true≢false (sym u.last ∙ none);
}

use_at : (blocks : List ℕ) (e : Entry) → IsLastPlace blocks e.block e.time → IsUse blocks (length blocks) e
use_at blocks e h =
    let read : (e.time < length blocks) × (get_or blocks e.time 0 ≡ e.block) = read_some blocks e.time e.block h.there in
    record {
      before = read.0;
      block = read.1;
      last = elim (cases_Bool (list_any (λ b. eqb b (get_or blocks e.time 0)) (drop (e.time + 1) blocks))) [
        | inl some ↦
            let found : (k : ℕ) × (k < length (drop (e.time + 1) blocks)) × (eqb (get_or (drop (e.time + 1) blocks) k 0) (get_or blocks e.time 0) ≡ true) =
            any_found (λ b. eqb b (get_or blocks e.time 0)) (drop (e.time + 1) blocks) some in
            let place : ℕ = (e.time + 1) + found.0 in
            let within : found.0 < length (drop (e.time + 1) blocks) = found.1 in
            let below : (e.time + 1) + found.0 < length blocks = omega (arith, within, length-drop (e.time + 1) blocks) in
            let same : get_or blocks ((e.time + 1) + found.0) 0 ≡ e.block =
            sym (get_or-drop (e.time + 1) blocks found.0 0) ∙ eqb-true _ _ found.2 ∙ read.1 in
            let after : e.time < (e.time + 1) + found.0 = omega arith in
            absurd (h.last ((e.time + 1) + found.0) after (some_read blocks ((e.time + 1) + found.0) below ∙ ap Some same))
        | inr none ↦ ap not none
      ];
    }

-- how many entries of a set are later, counted by places
later_count : (g : Shape) (blocks : List ℕ) (number t n : ℕ)
    → length (later t (entries_of g number (uses_before blocks n)))
    ≡ length (filter (λ u. ltb t u && (is_last_place blocks u && eqb (home_of g (get_or blocks u 0)) number)) (places_below n))
later_count g blocks number t zero = refl
later_count g blocks number t (suc n) =
    go (is_last_place blocks n) (eqb (home_of g (get_or blocks n 0)) number) (ltb t n) refl refl refl (later_count g blocks number t n)
  where
    rest : List Entry
    rest = uses_before blocks n

    test : ℕ → Bool
    test u = ltb t u && (is_last_place blocks u && eqb (home_of g (get_or blocks u 0)) number)

    go : (p q r : Bool) → is_last_place blocks n ≡ p → eqb (home_of g (get_or blocks n 0)) number ≡ q → ltb t n ≡ r
        → length (filter (λ x. ltb t x.time) (entries_of g number (uses_before blocks n)))
        ≡ length (filter (λ u. ltb t u && (is_last_place blocks u && eqb (home_of g (get_or blocks u 0)) number)) (places_below n))
        → length (filter (λ x. ltb t x.time) (entries_of g number (uses_before blocks (suc n))))
        ≡ length (filter (λ u. ltb t u && (is_last_place blocks u && eqb (home_of g (get_or blocks u 0)) number)) (places_below (suc n)))
    go true true true p q r h = rw (p, q, r) (ap suc h)
    go true true false p q r h = rw (p, q, r) h
    go true false true p q r h = rw (p, q, r) h
    go true false false p q r h = rw (p, q, r) h
    go false true true p q r h = rw (p, r) h
    go false true false p q r h = rw (p, r) h
    go false false true p q r h = rw (p, r) h
    go false false false p q r h = rw (p, r) h

pub holds_last_uses : HoldsLastUses
unfolding record_of last_uses
holds_last_uses addrs g number e below = (forth, back)
  where
    blocks : List ℕ
    blocks = blocks_of g addrs

    uses : List Entry
    uses = uses_before blocks (length blocks)

    ranked : IsRanked (entries_of g number uses)
    ranked = ranked_filter (λ x. eqb (home_of g x.block) number) uses (last_uses_ranked blocks)

    forth : Contains (get_or (record_of addrs g).sets number []) e
        → IsLastPlace blocks e.block e.time × (home_of g e.block ≡ number)
        × (length (later_last_places g blocks number e.time) < g.ways)
    forth h =
        let at : Contains (take g.ways (entries_of g number uses)) e = rw (recent_read g blocks number below) at h in
        let kept : Among (entries_of g number uses) e × (length (later e.time (entries_of g number uses)) < g.ways) =
        taken_among g.ways (entries_of g number uses) e ranked (contains_among _ e at) in
        let own : Among uses e × (eqb (home_of g e.block) number ≡ true) =
        filtered_among (λ x. eqb (home_of g x.block) number) uses e kept.0 in (
          last_place_of blocks e (use_of blocks (length blocks) e own.0),
          eqb-true _ _ own.1,
          rw (later_count g blocks number e.time (length blocks)) at kept.1,
        )

    back : IsLastPlace blocks e.block e.time × (home_of g e.block ≡ number)
        × (length (later_last_places g blocks number e.time) < g.ways)
        → Contains (get_or (record_of addrs g).sets number []) e
    back (last, home, few) =
        let own : Among (entries_of g number uses) e =
        among_filtered (λ x. eqb (home_of g x.block) number) uses e (eq-eqb _ _ home)
        (use_in blocks (length blocks) e (use_at blocks e last)) in
        let count : length (later e.time (entries_of g number uses)) < g.ways =
        rw (later_count g blocks number e.time (length blocks)) few in
        rw (recent_read g blocks number below)
        (among_contains _ e (among_taken g.ways (entries_of g number uses) e ranked own count))
