-- The pairs that several points share, put in order, are their table.
use Rattle.std.proofs.Common.{◌≡◌, ◌≤◌, ◌<◌, ◌⊎◌, inl, inr, ℕ, List, [], ◌∷◌, ◌++◌, Bool, true, false, Option, Some, None, refl, sym, ap, ◌∙◌, arith}
use Rattle.std.specs.Prelude.{◌==◌, ◌&&◌, ◌||◌, ◌%◌, ◌^◌, nat_le, nat_lt, flat_map, if◌then◌else◌}
use Rattle.std.proofs.lemmas.Bool.{and_parts, and_from, or_cases, or_left, or_right, eqb-true, eq-eqb, ltb-true, lt-ltb, le-leb, leb-true, false≢true, cases_Bool, cases_order}
use Rattle.std.proofs.lemmas.List.Folds.{list_any-append}
use Rattle.std.specs.List.{filter}
use Rattle.live_points.specs.declared.point.LivePoint.{LivePoint}
use Rattle.live_points.specs.Sharing.{IsSharing, holders, is_behind, is_later, ranks, same_pair, stands_in}
use Rattle.live_words.proofs.FollowLemmas.{last_or-push}
use Rattle.live_words.specs.Follow.{Follow, last_of}
use Rattle.live_words.specs.Words.{IsPair}
use Rattle.turbosmarts.specs.Sharing.{in_order, sharing_of, with_pair}

-- ---- which pair is later

Later : ℕ × ℕ → ℕ × ℕ → Type 0
Later pair before = (before.0 < pair.0) ⊎ ((before.0 ≡ pair.0) × (before.1 < pair.1))

later_is : (pair before : ℕ × ℕ) → is_later pair before ≡ true → Later pair before
unfolding Later
later_is pair before h = elim (or_cases (nat_lt before.0 pair.0) _ h) [
  | inl above ↦ inl (ltb-true before.0 pair.0 above)
  | inr level ↦
      let both = and_parts (before.0 == pair.0) (nat_lt before.1 pair.1) level in
      inr (eqb-true before.0 pair.0 both.0, ltb-true before.1 pair.1 both.1)
]

is_later_by : (pair before : ℕ × ℕ) → Later pair before → is_later pair before ≡ true
unfolding Later
is_later_by pair before (inl above) = or_left (nat_lt before.0 pair.0) _ (lt-ltb before.0 pair.0 above)
is_later_by pair before (inr (level, above)) =
    or_right (nat_lt before.0 pair.0) ((before.0 == pair.0) && nat_lt before.1 pair.1)
    (rw (eq-eqb before.0 pair.0 level) (lt-ltb before.1 pair.1 above))

through : (a b d : ℕ × ℕ) → Later a b → Later b d → Later a d
unfolding Later
through a b d (inl x) (inl y) = inl (omega arith)
through a b d (inl x) (inr (e, y)) = inl (omega arith)
through a b d (inr (e, x)) (inl y) = inl (omega arith)
through a b d (inr (e, x)) (inr (f, y)) = inr (omega arith, omega arith)

later_than : (a b c : ℕ × ℕ) → is_later a b ≡ true → is_later b c ≡ true → is_later a c ≡ true
later_than a b c first second = is_later_by a c (through a b c (later_is a b first) (later_is b c second))

same_unless : (a b : ℕ × ℕ) → is_later a b ≡ false → is_later b a ≡ false → same_pair a b ≡ true
unfolding Later
same_unless a b first second = elim (cases_order a.0 b.0) [
  | inl level ↦ elim (cases_order a.1 b.1) [
    | inl same ↦ and_from (a.0 == b.0) (a.1 == b.1) (eq-eqb a.0 b.0 level) (eq-eqb a.1 b.1 same)
    | inr (inl below) ↦ absurd (false≢true (sym second ∙ is_later_by b a (inr (level, below))))
    | inr (inr above) ↦ absurd (false≢true (sym first ∙ is_later_by a b (inr (sym level, above))))
  ]
  | inr (inl below) ↦ absurd (false≢true (sym second ∙ is_later_by b a (inl below)))
  | inr (inr above) ↦ absurd (false≢true (sym first ∙ is_later_by a b (inl above)))
]

pairs_are : (pair other : ℕ × ℕ) → same_pair pair other ≡ true → pair ≡ other
pairs_are pair other same =
    let both = and_parts (pair.0 == other.0) (pair.1 == other.1) same in
    let addr : pair.0 ≡ other.0 = eqb-true pair.0 other.0 both.0 in
    let value : pair.1 ≡ other.1 = eqb-true pair.1 other.1 both.1 in
    λ i. (addr i, value i)

-- ---- lists in which each pair comes behind the one before it

abbrev Rises : Option (ℕ × ℕ) → List (ℕ × ℕ) → Type 0
Rises before [] = Unit {0}
Rises before (pair ∷ pairs) = (is_behind before pair ≡ true) × Rises (Some pair) pairs

behind_more : (before : Option (ℕ × ℕ)) (a b : ℕ × ℕ) → is_behind before a ≡ true → is_later b a ≡ true → is_behind before b ≡ true
behind_more None a b first second = refl
behind_more (Some c) a b first second = later_than b a c second first

rises_placed :
    (before : Option (ℕ × ℕ)) (pair first : ℕ × ℕ) (pairs : List (ℕ × ℕ)) (t u : Bool)
    → is_later first pair ≡ t → is_later pair first ≡ u → is_behind before pair ≡ true → Rises before (first ∷ pairs)
    → (is_later pair first ≡ true → Rises (Some first) (with_pair pair pairs))
    → Rises before (if t then pair ∷ first ∷ pairs else (if u then first ∷ with_pair pair pairs else first ∷ pairs))
rises_placed before pair first pairs true u e f h r more = (h, (e, r.1))
rises_placed before pair first pairs false true e f h r more = (r.0, more f)
rises_placed before pair first pairs false false e f h r more = r

rises_with :
    (before : Option (ℕ × ℕ)) (pair : ℕ × ℕ) (pairs : List (ℕ × ℕ)) → is_behind before pair ≡ true → Rises before pairs
    → Rises before (with_pair pair pairs)
unfolding with_pair
rises_with before pair [] h r = (h, tt)
rises_with before pair (first ∷ pairs) h r =
    rises_placed before pair first pairs (is_later first pair) (is_later pair first) refl refl h r
    (λ later. rises_with (Some first) pair pairs later r.1)

rises_all : (pairs : List (ℕ × ℕ)) → Rises None (in_order pairs)
unfolding in_order
rises_all [] = tt
rises_all (pair ∷ pairs) = rises_with None pair (in_order pairs) refl (rises_all pairs)

rises_less :
    (before : Option (ℕ × ℕ)) (a : ℕ × ℕ) (pairs : List (ℕ × ℕ)) → is_behind before a ≡ true → Rises (Some a) pairs
    → Rises before pairs
rises_less before a [] h r = tt
rises_less before a (pair ∷ pairs) h r = (behind_more before a pair h r.0, r.1)

rises_kept :
    (test : ℕ × ℕ → Bool) (before : Option (ℕ × ℕ)) (pairs : List (ℕ × ℕ)) → Rises before pairs
    → Rises before (filter test pairs)
rises_kept test before [] r = tt
rises_kept test before (pair ∷ pairs) r =
    elim (test pair) as (λ t. Rises before (if t then pair ∷ filter test pairs else filter test pairs)) [
      | true ↦ (r.0, rises_kept test (Some pair) pairs r.1)
      | false ↦ rises_kept test before pairs (rises_less before pair pairs r.0 r.1)
    ]

-- ---- what stands in them

or_swap : (a b s : Bool) → (a || (b || s)) ≡ (b || (a || s))
or_swap true true s = refl
or_swap true false s = refl
or_swap false b s = refl

or_twice : (a s : Bool) → (a || s) ≡ (a || (a || s))
or_twice true s = refl
or_twice false s = refl

in_placed :
    (c pair first : ℕ × ℕ) (pairs : List (ℕ × ℕ)) (t u : Bool) → is_later first pair ≡ t → is_later pair first ≡ u
    → stands_in c (with_pair pair pairs) ≡ (same_pair c pair || stands_in c pairs)
    → stands_in c (if t then pair ∷ first ∷ pairs else (if u then first ∷ with_pair pair pairs else first ∷ pairs))
    ≡ (same_pair c pair || (same_pair c first || stands_in c pairs))
in_placed c pair first pairs true u e f more = refl
in_placed c pair first pairs false true e f more =
    ap (λ (s : Bool). same_pair c first || s) more ∙ or_swap (same_pair c first) (same_pair c pair) (stands_in c pairs)
in_placed c pair first pairs false false e f more =
    let is : first ≡ pair = pairs_are first pair (same_unless first pair e f) in
    or_twice (same_pair c first) (stands_in c pairs)
    ∙ ap (λ (p : ℕ × ℕ). same_pair c p || (same_pair c first || stands_in c pairs)) is

in_with :
    (c pair : ℕ × ℕ) (pairs : List (ℕ × ℕ)) → stands_in c (with_pair pair pairs) ≡ (same_pair c pair || stands_in c pairs)
unfolding with_pair
in_with c pair [] = refl
in_with c pair (first ∷ pairs) =
    in_placed c pair first pairs (is_later first pair) (is_later pair first) refl refl (in_with c pair pairs)

in_all : (c : ℕ × ℕ) (pairs : List (ℕ × ℕ)) → stands_in c (in_order pairs) ≡ stands_in c pairs
unfolding in_order
in_all c [] = refl
in_all c (pair ∷ pairs) =
    in_with c pair (in_order pairs) ∙ ap (λ (s : Bool). same_pair c pair || s) (in_all c pairs)

and_none : (a : Bool) → false ≡ (a && false)
and_none true = refl
and_none false = refl

kept_one :
    (test : ℕ × ℕ → Bool) (c pair : ℕ × ℕ) (s : Bool) (t u : Bool) → test pair ≡ t → same_pair c pair ≡ u
    → (if t then (u || (test c && s)) else (test c && s)) ≡ (test c && (u || s))
kept_one test c pair s true true e f =
    let is : test c ≡ true = ap test (pairs_are c pair f) ∙ e in rw is refl
kept_one test c pair s false true e f =
    let is : test c ≡ false = ap test (pairs_are c pair f) ∙ e in rw is refl
kept_one test c pair s true false e f = refl
kept_one test c pair s false false e f = refl

in_kept :
    (test : ℕ × ℕ → Bool) (c : ℕ × ℕ) (pairs : List (ℕ × ℕ))
    → stands_in c (filter test pairs) ≡ (test c && stands_in c pairs)
in_kept test c [] = and_none (test c)
in_kept test c (pair ∷ pairs) =
    let rest : stands_in c (filter test pairs) ≡ (test c && stands_in c pairs) = in_kept test c pairs in
    let split : stands_in c (filter test (pair ∷ pairs)) ≡ (if test pair then (same_pair c pair || (test c && stands_in c pairs)) else (test c && stands_in c pairs)) =
    elim (test pair) as (λ t. stands_in c (if t then pair ∷ filter test pairs else filter test pairs) ≡ (if t then (same_pair c pair || (test c && stands_in c pairs)) else (test c && stands_in c pairs))) [
      | true ↦ ap (λ (s : Bool). same_pair c pair || s) rest
      | false ↦ rest
    ] in
    split ∙ kept_one test c pair (stands_in c pairs) (test pair) (same_pair c pair) refl refl

in_words :
    (c : ℕ × ℕ) (points : List LivePoint) → 1 ≤ holders points c
    → stands_in c (flat_map (λ point. point.words) points) ≡ true
in_words c [] h = absurd (omega (arith, h))
in_words c (point ∷ points) h =
    list_any-append (same_pair c) point.words (flat_map (λ point. point.words) points)
    ∙ elim (cases_Bool (stands_in c point.words)) [
      | inl here ↦ or_left (stands_in c point.words) _ here
      | inr absent ↦
          or_right (stands_in c point.words) _ (in_words c points (rw absent at h))
    ]

-- ---- the table

-- a pair that may stand in a table
abbrev Fits : ℕ × ℕ → Type 0
Fits pair = (pair.0 < 2 ^ 32) × (pair.1 < 2 ^ 32) × ((pair.0 % 4 == 0) ≡ true)

fits_in :
    (before pairs : List (ℕ × ℕ)) (c : ℕ × ℕ) → Follow (IsPair ranks) before pairs → stands_in c pairs ≡ true → Fits c
fits_in before [] c follow there = absurd (false≢true there)
fits_in before (pair ∷ pairs) c follow there = elim (or_cases (same_pair c pair) (stands_in c pairs) there) [
  | inl same ↦
      let is : c ≡ pair = pairs_are c pair same in
      rw is (follow.0.addr, follow.0.value, (and_parts _ _ follow.0.passes).0)
  | inr behind ↦ fits_in (before ++ pair ∷ []) pairs c follow.1 behind
]

same_as_itself : (pair : ℕ × ℕ) → same_pair pair pair ≡ true
same_as_itself pair = rw (eq-eqb pair.0 pair.0 refl) (eq-eqb pair.1 pair.1 refl)

follow_rises :
    (before pairs : List (ℕ × ℕ)) → Rises (last_of before) pairs
    → ((c : ℕ × ℕ) → stands_in c pairs ≡ true → Fits c) → Follow (IsPair ranks) before pairs
follow_rises before [] r fit = tt
follow_rises before (pair ∷ pairs) r fit =
    let here : Fits pair = fit pair (or_left (same_pair pair pair) (stands_in pair pairs) (same_as_itself pair)) in
    let last : last_of (before ++ pair ∷ []) ≡ Some pair = last_or-push before pair None in
    let first : IsPair ranks before pair = record {
      addr = here.0;
      value = here.1;
      passes = and_from (pair.0 % 4 == 0) (is_behind (last_of before) pair) here.2 r.0;
    } in (
      first,
      follow_rises (before ++ pair ∷ []) pairs (rw last r.1)
          (λ c there. fit c (or_right (same_pair c pair) (stands_in c pairs) there)),
    )

held : (points : List LivePoint) (c : ℕ × ℕ) → stands_in c (sharing_of points) ≡ true → 2 ≤ holders points c
unfolding sharing_of
held points c there =
    let test : ℕ × ℕ → Bool = λ pair. nat_le 2 (holders points pair) in
    let all : List (ℕ × ℕ) = in_order (flat_map (λ point. point.words) points) in
    let both = and_parts (test c) (stands_in c all) (sym (in_kept test c all) ∙ there) in
    leb-true 2 (holders points c) both.0

listed : (points : List LivePoint) (c : ℕ × ℕ) → 2 ≤ holders points c → stands_in c (sharing_of points) ≡ true
unfolding sharing_of
listed points c h =
    in_kept (λ pair. nat_le 2 (holders points pair)) c (in_order (flat_map (λ point. point.words) points))
    ∙ and_from (nat_le 2 (holders points c)) _ (le-leb 2 (holders points c) h)
    (in_all c (flat_map (λ point. point.words) points) ∙ in_words c points (omega (arith, h)))

rises_shared : (points : List LivePoint) → Rises None (sharing_of points)
unfolding sharing_of
rises_shared points = rises_kept _ None (in_order (flat_map (λ point. point.words) points)) (rises_all _)

-- where points have a table, it is this list
pub sharing_is :
    (points : List LivePoint) (table : List (ℕ × ℕ)) → IsSharing points table → IsSharing points (sharing_of points)
sharing_is points table is = record {
  order = follow_rises [] (sharing_of points) (rises_shared points)
      (λ c there. fits_in [] table c is.order ((is.exact c).1 (held points c there)));
  exact = λ c. (held points c, listed points c);
}
