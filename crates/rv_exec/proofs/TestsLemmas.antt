-- What the memories of the tests answer.
use Rattle.std.proofs.Common.{◌≡◌, ◌≢◌, ℕ, zero, suc, ◌+◌, ◌/◌, ◌%◌, ◌<◌, refl, arith, ap, ◌∙◌, sym, List, [], ◌∷◌, Option, Some, None, Bool, true, false, length, inl, inr, ◌-◌, eq-eqb}
use Rattle.std.specs.Prelude.{◌==◌, if◌then◌else◌, ◌&&◌, slice_get, slice_index, slice_set, nat_lt}
use Rattle.std.specs.FinMap as map
use Rattle.std.specs.FinMap.{find}
use Rattle.std.specs.Ordering.{nat_cmp}
use Rattle.std.specs.Cmp.{nat_cmp_total}
use Rattle.std.proofs.lemmas.Option.{slice_get-get_or, slice_get_past}
use Rattle.std.proofs.lemmas.Bool.{lt-ltb, le-ltb, ne_eqb, cases_lt, cases_eq}
use Rattle.std.proofs.lemmas.Bool.Decides.{nat_tests}
use Rattle.rv_exec.specs.Memory.{Words, word_at, stored}
use Rattle.rv_exec.proofs.MemoryLemmas.{find_first, word_at-stored}
use Rattle.rv_exec.specs.Tests.Memories.{words_from, flat_words, two_words}

word_at-from : (es : List (ℕ × ℕ)) (q : ℕ) → word_at (map.from_entries es) q ≡ find nat_cmp q es
word_at-from es q = map.get-from_entries nat_cmp_total es q

same_words : (one other : Words) → ((q : ℕ) → word_at one q ≡ word_at other q) → one ≡ other
same_words one other same = map.same_map nat_cmp_total map.nat_cmp-IsAntisymmetric one other same

-- ---- two words

pub word_at_two :
    (at word other_at other q : ℕ)
    → word_at (two_words at word other_at other) q
    ≡ (if q == at then Some word else (if q == other_at then Some other else None))
unfolding two_words
word_at_two at word other_at other q =
    word_at-from ((at, word) ∷ (other_at, other) ∷ []) q
    ∙ find_first q (at, word) ((other_at, other) ∷ [])
    ∙ ap (λ (o : Option ℕ). if q == at then Some word else o) (find_first q (other_at, other) [])

store_here :
    (a b c : Bool) (word value : ℕ) (o : Option ℕ)
    → (if a then Some value else (if b then o else None)) ≡ (if a then Some value else (if a then Some word else (if b then o else None)))
store_here true b c word value o = refl
store_here false b c word value o = refl

pub store_first :
    (at word other_at other value : ℕ)
    → two_words at value other_at other ≡ stored (two_words at word other_at other) at value
store_first at word other_at other value =
    same_words _ _ (λ q.
    word_at_two at value other_at other q
    ∙ store_here (q == at) (q == other_at) true word value (Some other)
    ∙ ap (λ (o : Option ℕ). if q == at then Some value else o) (sym (word_at_two at word other_at other q))
    ∙ sym (word_at-stored (two_words at word other_at other) at value q))

store_there :
    (q at word other_at other value : ℕ) → at ≢ other_at
    → (if q == at then Some word else (if q == other_at then Some value else None))
    ≡ (if q == other_at then Some value else (if q == at then Some word else (if q == other_at then Some other else None)))
store_there q at word other_at other value apart = grind (arith, nat_tests)

pub store_second :
    (at word other_at other value : ℕ) → at ≢ other_at
    → two_words at word other_at value ≡ stored (two_words at word other_at other) other_at value
store_second at word other_at other value apart =
    same_words _ _ (λ q.
    word_at_two at word other_at value q
    ∙ store_there q at word other_at other value apart
    ∙ ap (λ (o : Option ℕ). if q == other_at then Some value else o) (sym (word_at_two at word other_at other q))
    ∙ sym (word_at-stored (two_words at word other_at other) other_at value q))

-- ---- a list of words

either : (b : Bool) (o : Option ℕ) → o ≡ (if b then o else o)
either true o = refl
either false o = refl

find_below :
    (ws : List ℕ) (base q : ℕ) → q < base → find nat_cmp q (words_from base ws) ≡ None
find_below [] base q below = refl
find_below (w ∷ ws) base q below =
    let other : (q == base) ≡ false = ne_eqb q base (omega arith) in
    let rest : find nat_cmp q (words_from (base + 4) ws) ≡ None =
    find_below ws (base + 4) q (omega arith) in
    find_first q (base, w) (words_from (base + 4) ws) ∙ rw (other, rest) refl

find_in_list :
    (ws : List ℕ) (base q : ℕ)
    → find nat_cmp (base + q) (words_from base ws)
    ≡ (if q % 4 == 0 then slice_get ws (q / 4) else None)
find_in_list [] base q = either (q % 4 == 0) None
find_in_list (w ∷ ws) base q =
    find_first (base + q) (base, w) (words_from (base + 4) ws)
    ∙ elim (cases_lt 3 q) [
      | inl later ↦
          let other : (base + q == base) ≡ false = ne_eqb (base + q) base (omega arith) in
          let key : base + q ≡ (base + 4) + (q - 4) = omega arith in
          let same : q % 4 ≡ (q - 4) % 4 = omega arith in
          let next : q / 4 ≡ suc ((q - 4) / 4) = omega arith in
          rw (other, key, same, next) (find_in_list ws (base + 4) (q - 4))
      | inr early ↦ elim (cases_lt 0 q) [
        | inl within ↦
            let other : (base + q == base) ≡ false = ne_eqb (base + q) base (omega arith) in
            let rest : find nat_cmp (base + q) (words_from (base + 4) ws) ≡ None =
            find_below ws (base + 4) (base + q) (omega arith) in
            let unaligned : (q % 4 == 0) ≡ false = ne_eqb (q % 4) 0 (omega arith) in
            rw (other, rest, unaligned) refl
        | inr none ↦
            let here : (base + q == base) ≡ true = eq-eqb (base + q) base (omega arith) in
            let aligned : (q % 4 == 0) ≡ true = eq-eqb (q % 4) 0 (omega arith) in
            let first : q / 4 ≡ 0 = omega arith in
            rw (here, aligned, first) refl
      ]
    ]

word_at-flat :
    (ws : List ℕ) (q : ℕ)
    → word_at (flat_words ws) q ≡ (if q % 4 == 0 then slice_get ws (q / 4) else None)
unfolding flat_words
word_at-flat ws q =
    let key : q ≡ 0 + q = omega arith in
    word_at-from (words_from 0 ws) q
    ∙ ap (λ (k : ℕ). find nat_cmp k (words_from 0 ws)) key ∙ find_in_list ws 0 q

get_if :
    (ws : List ℕ) (i : ℕ)
    → slice_get ws i ≡ (if nat_lt i (length ws) then Some (slice_index ws i) else None)
get_if ws i = elim (cases_lt i (length ws)) [
  | inl within ↦ rw (lt-ltb i (length ws) within) (slice_get-get_or ws i 0 within)
  | inr past ↦ rw (le-ltb i (length ws) past) (slice_get_past ws i past)
]

both_tests :
    (a b : Bool) (o : Option ℕ)
    → (if a then (if b then o else None) else None) ≡ (if a && b then o else None)
both_tests true b o = refl
both_tests false b o = refl

-- a word is held at the multiples of 4 within the list
pub word_at_flat :
    (ws : List ℕ) (q : ℕ)
    → word_at (flat_words ws) q
    ≡ (if (q % 4 == 0) && nat_lt (q / 4) (length ws) then Some (slice_index ws (q / 4))
    else None)
word_at_flat ws q =
    word_at-flat ws q
    ∙ ap (λ (o : Option ℕ). if q % 4 == 0 then o else None) (get_if ws (q / 4))
    ∙ both_tests (q % 4 == 0) (nat_lt (q / 4) (length ws)) (Some (slice_index ws (q / 4)))

get_set_same :
    (ws : List ℕ) (i value : ℕ) → i < length ws → slice_get (slice_set ws i value) i ≡ Some value
get_set_same [] i value within = absurd (omega arith)
get_set_same (w ∷ ws) zero value within = refl
get_set_same (w ∷ ws) (suc i) value within = get_set_same ws i value (omega arith)

get_set_other :
    (ws : List ℕ) (i k value : ℕ) → k ≢ i → slice_get (slice_set ws i value) k ≡ slice_get ws k
get_set_other [] i k value other = refl
get_set_other (w ∷ ws) zero zero value other = absurd (other refl)
get_set_other (w ∷ ws) zero (suc k) value other = refl
get_set_other (w ∷ ws) (suc i) zero value other = refl
get_set_other (w ∷ ws) (suc i) (suc k) value other =
    get_set_other ws i k value (λ e. other (ap suc e))

-- the look-up of a word in the list where one is set
flat_set :
    (ws : List ℕ) (at value q : ℕ) → at % 4 ≡ 0 → at / 4 < length ws
    → (if q % 4 == 0 then slice_get (slice_set ws (at / 4) value) (q / 4) else None)
    ≡ (if q == at then Some value else (if q % 4 == 0 then slice_get ws (q / 4) else None))
flat_set ws at value q aligned within = elim (cases_eq q at) [
  | inl same ↦
      let here : (q == at) ≡ true = eq-eqb q at same in
      let whole : (q % 4 == 0) ≡ true = eq-eqb (q % 4) 0 (omega arith) in
      let place : q / 4 ≡ at / 4 = omega arith in
      rw (here, whole, place) (get_set_same ws (at / 4) value within)
  | inr other ↦
      let elsewhere : (q == at) ≡ false = ne_eqb q at other in
      elim (cases_eq (q % 4) 0) [
        | inl whole ↦
            let test : (q % 4 == 0) ≡ true = eq-eqb (q % 4) 0 whole in
            let apart : q / 4 ≢ at / 4 = λ e. other (omega arith) in
            rw (elsewhere, test) (get_set_other ws (at / 4) (q / 4) value apart)
        | inr part ↦
            let test : (q % 4 == 0) ≡ false = ne_eqb (q % 4) 0 part in
            rw (elsewhere, test) refl
      ]
]

pub store_flat :
    (ws : List ℕ) (at value : ℕ) → at % 4 ≡ 0 → at / 4 < length ws
    → flat_words (slice_set ws (at / 4) value) ≡ stored (flat_words ws) at value
store_flat ws at value aligned within =
    same_words _ _ (λ q.
    word_at-flat (slice_set ws (at / 4) value) q
    ∙ flat_set ws at value q aligned within
    ∙ ap (λ (o : Option ℕ). if q == at then Some value else o) (sym (word_at-flat ws q))
    ∙ sym (word_at-stored (flat_words ws) at value q))
