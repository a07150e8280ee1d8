-- A list in order is known by what stands in it.
use Rattle.std.proofs.Common.{◌≡◌, ◌<◌, ℕ, List, [], ◌∷◌, ◌++◌, Bool, true, false, Option, Some, None, refl, sym, ap, ◌∙◌, arith, inl, inr, ◌⊎◌}
use Rattle.std.specs.Prelude.{◌==◌, ◌&&◌, ◌||◌, nat_lt}
use Rattle.std.proofs.lemmas.Bool.{and_parts, or_cases, or_left, or_right, eqb-true, eq-eqb, ltb-true, lt-ltb, false≢true, cases_Bool}
use Rattle.live_words.specs.Follow.{last_of, Follow}
use Rattle.live_words.specs.Words.{IsPair}
use Rattle.live_words.proofs.FollowLemmas.{last_or-push}
use Rattle.live_points.specs.Laws.{SharingIsOne}
use Rattle.live_points.specs.Sharing.{same_pair, stands_in, is_later, is_behind, ranks}

-- ---- which pair is later

Later : ℕ × ℕ → ℕ × ℕ → Type 0
Later pair before = (before.0 < pair.0) ⊎ ((before.0 ≡ pair.0) × (before.1 < pair.1))

later_is : (pair before : ℕ × ℕ) → is_later pair before ≡ true → Later pair before
unfolding Later
later_is pair before h = elim (or_cases (nat_lt before.0 pair.0) _ h) [
  | inl above ↦ inl (ltb-true before.0 pair.0 above)
  | inr level ↦
      let both = and_parts (before.0 == pair.0) (nat_lt before.1 pair.1) level in
      inr (eqb-true before.0 pair.0 both.0, ltb-true before.1 pair.1 both.1)
]

is_later_by : (pair before : ℕ × ℕ) → Later pair before → is_later pair before ≡ true
unfolding Later
is_later_by pair before (inl above) = or_left (nat_lt before.0 pair.0) _ (lt-ltb before.0 pair.0 above)
is_later_by pair before (inr (level, above)) =
    or_right (nat_lt before.0 pair.0) ((before.0 == pair.0) && nat_lt before.1 pair.1)
    (rw (eq-eqb before.0 pair.0 level) (lt-ltb before.1 pair.1 above))

through : (a b d : ℕ × ℕ) → Later a b → Later b d → Later a d
unfolding Later
through a b d (inl x) (inl y) = inl (omega arith)
through a b d (inl x) (inr (e, y)) = inl (omega arith)
through a b d (inr (e, x)) (inl y) = inl (omega arith)
through a b d (inr (e, x)) (inr (f, y)) = inr (omega arith, omega arith)

not_both : (a b : ℕ × ℕ) → Later a b → Later b a → ⊥
unfolding Later
not_both a b (inl x) (inl y) = omega arith
not_both a b (inl x) (inr (e, y)) = omega arith
not_both a b (inr (e, x)) (inl y) = omega arith
not_both a b (inr (e, x)) (inr (f, y)) = omega arith

pairs_are : (pair other : ℕ × ℕ) → same_pair pair other ≡ true → pair ≡ other
pairs_are pair other same =
    let both = and_parts (pair.0 == other.0) (pair.1 == other.1) same in
    let addr : pair.0 ≡ other.0 = eqb-true pair.0 other.0 both.0 in
    let value : pair.1 ≡ other.1 = eqb-true pair.1 other.1 both.1 in
    λ i. (addr i, value i)

same_as_itself : (pair : ℕ × ℕ) → same_pair pair pair ≡ true
same_as_itself pair = rw (eq-eqb pair.0 pair.0 refl) (eq-eqb pair.1 pair.1 refl)

-- ---- lists in order

first_later :
    (before xs : List (ℕ × ℕ)) (x p : ℕ × ℕ) → last_of before ≡ Some p → Follow (IsPair ranks) before (x ∷ xs)
    → Later x p
first_later before xs x p last follow =
    let tests = and_parts _ (is_behind (last_of before) x) follow.0.passes in
    later_is x p (ap (λ (o : Option (ℕ × ℕ)). is_behind o x) (sym last) ∙ tests.1)

all_later :
    (before xs : List (ℕ × ℕ)) (p q : ℕ × ℕ) → last_of before ≡ Some p → Follow (IsPair ranks) before xs
    → stands_in q xs ≡ true → Later q p
all_later before [] p q last follow there = absurd (false≢true there)
all_later before (x ∷ xs) p q last follow there =
    let here : Later x p = first_later before xs x p last follow in
    elim (or_cases (same_pair q x) (stands_in q xs) there) [
      | inl same ↦ rw (pairs_are q x same) here
      | inr behind ↦
          through q x p (all_later (before ++ x ∷ []) xs x q (last_or-push before x None) follow.1 behind) here
    ]

-- the first of one list stands in the other, and so on
heads_are :
    (before after xs ys : List (ℕ × ℕ)) (x y : ℕ × ℕ) → Follow (IsPair ranks) before (x ∷ xs)
    → Follow (IsPair ranks) after (y ∷ ys) → stands_in x (y ∷ ys) ≡ true → stands_in y (x ∷ xs) ≡ true → x ≡ y
heads_are before after xs ys x y one other there here =
    elim (or_cases (same_pair x y) (stands_in x ys) there) [
      | inl same ↦ pairs_are x y same
      | inr behind ↦ elim (or_cases (same_pair y x) (stands_in y xs) here) [
        | inl same ↦ sym (pairs_are y x same)
        | inr ahead ↦
            absurd (not_both x y
            (all_later (after ++ y ∷ []) ys y x (last_or-push after y None) other.1 behind)
            (all_later (before ++ x ∷ []) xs x y (last_or-push before x None) one.1 ahead))
      ]
    ]

absent_behind :
    (before xs : List (ℕ × ℕ)) (x q : ℕ × ℕ) → Follow (IsPair ranks) before (x ∷ xs) → same_pair q x ≡ true
    → stands_in q xs ≡ false
absent_behind before xs x q follow same = elim (cases_Bool (stands_in q xs)) [
  | inl there ↦
      let is : q ≡ x = pairs_are q x same in
      let later : Later q x = all_later (before ++ x ∷ []) xs x q (last_or-push before x None) follow.1 there in
      let itself : Later x x = rw is at later in
      absurd (not_both x x itself itself)
  | inr absent ↦ absent
]

same_behind :
    (before after xs ys : List (ℕ × ℕ)) (x y : ℕ × ℕ) → Follow (IsPair ranks) before (x ∷ xs)
    → Follow (IsPair ranks) after (y ∷ ys) → x ≡ y
    → ((q : ℕ × ℕ) → stands_in q (x ∷ xs) ≡ stands_in q (y ∷ ys)) → (q : ℕ × ℕ) → stands_in q xs ≡ stands_in q ys
same_behind before after xs ys x y one other is same q = elim (cases_Bool (same_pair q x)) [
  | inl here ↦
      absent_behind before xs x q one here
      ∙ sym (absent_behind after ys y q other (ap (same_pair q) (sym is) ∙ here))
  | inr there ↦
      let elsewhere : same_pair q y ≡ false = ap (same_pair q) (sym is) ∙ there in
      let all : (same_pair q x || stands_in q xs) ≡ (same_pair q y || stands_in q ys) = same q in
      rw (there, elsewhere) at all
]

lists_are :
    (before after xs ys : List (ℕ × ℕ)) → Follow (IsPair ranks) before xs → Follow (IsPair ranks) after ys
    → ((q : ℕ × ℕ) → stands_in q xs ≡ stands_in q ys) → xs ≡ ys
lists_are before after [] [] one other same = refl
lists_are before after [] (y ∷ ys) one other same =
    let there : stands_in y (y ∷ ys) ≡ true = or_left (same_pair y y) (stands_in y ys) (same_as_itself y) in
    absurd (false≢true (same y ∙ there))
lists_are before after (x ∷ xs) [] one other same =
    let there : stands_in x (x ∷ xs) ≡ true = or_left (same_pair x x) (stands_in x xs) (same_as_itself x) in
    absurd (false≢true (sym (same x) ∙ there))
lists_are before after (x ∷ xs) (y ∷ ys) one other same =
    let mine : stands_in x (x ∷ xs) ≡ true = or_left (same_pair x x) (stands_in x xs) (same_as_itself x) in
    let theirs : stands_in y (y ∷ ys) ≡ true = or_left (same_pair y y) (stands_in y ys) (same_as_itself y) in
    let head : x ≡ y = heads_are before after xs ys x y one other (sym (same x) ∙ mine) (same y ∙ theirs) in
    let rest : xs ≡ ys =
    lists_are (before ++ x ∷ []) (after ++ y ∷ []) xs ys one.1 other.1
    (same_behind before after xs ys x y one other head same) in
    λ i. head i ∷ rest i

same_tests : (one other : Bool) → (one ≡ true → other ≡ true) → (other ≡ true → one ≡ true) → one ≡ other
same_tests true other there back = sym (there refl)
same_tests false true there back = back refl
same_tests false false there back = refl

pub sharing_is_one : SharingIsOne
sharing_is_one points one other first second =
    lists_are [] [] one other first.order second.order
    (λ q.
    same_tests (stands_in q one) (stands_in q other)
    (λ h. (second.exact q).1 ((first.exact q).0 h))
    (λ h. (first.exact q).1 ((second.exact q).0 h)))
