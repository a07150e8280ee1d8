-- Slots in which hashing puts words.
use Rattle.std.proofs.Common.{◌≡◌, ◌≢◌, ◌<◌, ◌≤◌, ◌⊎◌, ◌+◌, ◌-◌, ◌*◌, ◌/◌, ◌%◌, ◌^◌, ℕ, zero, suc, List, [], ◌∷◌, length, drop, set, Bool, true, false, Option, Some, None, refl, sym, ap, ◌∙◌, arith, inl, inr, eq-eqb, le-leb, mul-le-mul}
use Rattle.std.specs.Prelude.{slice_index, slice_index_or, ◌==◌, if◌then◌else◌}
use Rattle.std.specs.FinMap.{find}
use Rattle.std.specs.Ordering.{nat_cmp}
use Rattle.std.proofs.lemmas.Bool.{ne_eqb, eqb-true, lt-leb, cases_lt, cases_eq, cases_Bool}
use Rattle.std.proofs.Math.Seq.{drop-cons}
use Rattle.std.proofs.lemmas.List.{length-set, get_or-set_same, get_or-set_other}
use Rattle.rv_exec.proofs.MemoryLemmas.{find_first, word_at-stored}
use Rattle.rv_exec.specs.Memory.{word_at, stored}
use Rattle.live_words.specs.Slots.{slot_of, upper_at, with_slot, taken, slotted_words, home_of, steps, steps_from_home, IsOther, IsPlaceFor, AreSlots}
use Rattle.live_words.specs.Words.{memory_of}
use Rattle.live_words.proofs.MemoryLemmas.{held_first, same_words}

-- ---- what is found in slots

same_suc : (q addr : ℕ) → (suc q == suc addr) ≡ (q == addr)
same_suc q addr = elim (cases_eq q addr) [
  | inl same ↦ eq-eqb (suc q) (suc addr) (ap suc same) ∙ sym (eq-eqb q addr same)
  | inr apart ↦ ne_eqb (suc q) (suc addr) (λ e. apart (omega (arith, e))) ∙ sym (ne_eqb q addr apart)
]

no_suc : (q : ℕ) → (suc q == 0) ≡ false
no_suc q = ne_eqb (suc q) 0 (λ e. absurd (omega (arith, e)))

find_taken :
    (q slot : ℕ) (slots : List ℕ)
    → find nat_cmp q (taken (slot ∷ slots))
    ≡ (if suc q == slot / 2 ^ 32 then Some (slot % 2 ^ 32) else find nat_cmp q (taken slots))
find_taken q slot slots = go (slot / 2 ^ 32) (slot % 2 ^ 32)
  where
    go :
        (upper word : ℕ)
        → find nat_cmp q (with_slot upper word (taken slots))
        ≡ (if suc q == upper then Some word else find nat_cmp q (taken slots))
    go zero word = rw (no_suc q) refl
    go (suc addr) word = rw (same_suc q addr) (find_first q (addr, word) (taken slots))

found_in :
    (slots : List ℕ) (place addr : ℕ) → place < length slots → upper_at slots place ≡ suc addr
    → ((other : ℕ) → other < place → upper_at slots other ≢ suc addr)
    → find nat_cmp addr (taken slots) ≡ Some (slice_index_or slots place 0 % 2 ^ 32)
found_in [] place addr h is first = absurd (omega arith)
found_in (slot ∷ slots) zero addr h is first =
    let here : (suc addr == slot / 2 ^ 32) ≡ true = eq-eqb (suc addr) (slot / 2 ^ 32) (sym is) in
    find_taken addr slot slots ∙ rw here refl
found_in (slot ∷ slots) (suc place) addr h is first =
    let there : (suc addr == slot / 2 ^ 32) ≡ false =
    ne_eqb (suc addr) (slot / 2 ^ 32) (λ e. first 0 (omega arith) (sym e)) in
    find_taken addr slot slots
    ∙ rw there (found_in slots place addr (omega arith) is (λ other k. first (suc other) (omega arith)))

found_nowhere :
    (slots : List ℕ) (addr : ℕ) → ((place : ℕ) → place < length slots → upper_at slots place ≢ suc addr)
    → find nat_cmp addr (taken slots) ≡ None
found_nowhere [] addr absent = refl
found_nowhere (slot ∷ slots) addr absent =
    let there : (suc addr == slot / 2 ^ 32) ≡ false =
    ne_eqb (suc addr) (slot / 2 ^ 32) (λ e. absent 0 (omega arith) (sym e)) in
    find_taken addr slot slots ∙ rw there (found_nowhere slots addr (λ place h. absent (suc place) (omega arith)))

upper_of : (addr word : ℕ) → word < 2 ^ 32 → slot_of (addr, word) / 2 ^ 32 ≡ suc addr
upper_of addr word h = omega arith

word_of : (addr word : ℕ) → word < 2 ^ 32 → slot_of (addr, word) % 2 ^ 32 ≡ word
word_of addr word h = omega arith

-- a slot that is free or has the address, written
found_set :
    (slots : List ℕ) (place addr word q : ℕ) → place < length slots → word < 2 ^ 32
    → (upper_at slots place ≡ 0) ⊎ (upper_at slots place ≡ suc addr)
    → ((other : ℕ) → other < place → upper_at slots other ≢ suc addr)
    → find nat_cmp q (taken (set slots place (slot_of (addr, word))))
    ≡ (if q == addr then Some word else find nat_cmp q (taken slots))
found_set [] place addr word q h small stops first = absurd (omega arith)
found_set (slot ∷ slots) zero addr word q h small stops first =
    find_taken q (slot_of (addr, word)) slots
    ∙ rw (upper_of addr word small, word_of addr word small, same_suc q addr)
    (elim (cases_Bool (q == addr)) [
      | inl here ↦ rw here refl
      | inr there ↦ rw there (sym (find_taken q slot slots ∙ rw (apart there stops) refl))
    ])
  where
    apart : (q == addr) ≡ false → (slot / 2 ^ 32 ≡ 0) ⊎ (slot / 2 ^ 32 ≡ suc addr) → (suc q == slot / 2 ^ 32) ≡ false
    apart there (inl free) = rw free (no_suc q)
    apart there (inr own) = rw own (same_suc q addr ∙ there)
found_set (slot ∷ slots) (suc place) addr word q h small stops first =
    find_taken q slot (set slots place (slot_of (addr, word)))
    ∙ ap (λ (o : Option ℕ). if suc q == slot / 2 ^ 32 then Some (slot % 2 ^ 32) else o)
    (found_set slots place addr word q (omega arith) small stops (λ other k. first (suc other) (omega arith)))
    ∙ apart (suc q == slot / 2 ^ 32) (q == addr) (Some (slot % 2 ^ 32)) (Some word) (find nat_cmp q (taken slots))
    (λ one other.
    let a : suc q ≡ slot / 2 ^ 32 = eqb-true (suc q) (slot / 2 ^ 32) one in
    let b : q ≡ addr = eqb-true q addr other in
    absurd (first 0 (omega arith) (sym a ∙ ap suc b)))
    ∙ ap (λ (o : Option ℕ). if q == addr then Some word else o) (sym (find_taken q slot slots))
  where
    apart :
        (b d : Bool) (x y z : Option ℕ) → (b ≡ true → d ≡ true → ⊥)
        → (if b then x else (if d then y else z)) ≡ (if d then y else (if b then x else z))
    apart true true x y z not_both = absurd (not_both refl refl)
    apart true false x y z not_both = refl
    apart false d x y z not_both = refl

-- ---- how many slots are taken

at_most : (upper word : ℕ) (pairs : List (ℕ × ℕ)) → length (with_slot upper word pairs) ≤ suc (length pairs)
at_most zero word pairs = omega arith
at_most (suc addr) word pairs = omega arith

at_least : (upper word : ℕ) (pairs : List (ℕ × ℕ)) → length pairs ≤ length (with_slot upper word pairs)
at_least zero word pairs = omega arith
at_least (suc addr) word pairs = omega arith

one_more :
    (upper word : ℕ) (pairs more : List (ℕ × ℕ)) → length more ≤ suc (length pairs)
    → length (with_slot upper word more) ≤ suc (length (with_slot upper word pairs))
one_more zero word pairs more h = h
one_more (suc addr) word pairs more h = omega arith

pub taken_set :
    (slots : List ℕ) (place slot : ℕ) → length (taken (set slots place slot)) ≤ suc (length (taken slots))
taken_set [] place slot = omega arith
taken_set (x ∷ slots) zero slot =
    let more : length (with_slot (slot / 2 ^ 32) (slot % 2 ^ 32) (taken slots)) ≤ suc (length (taken slots)) =
    at_most (slot / 2 ^ 32) (slot % 2 ^ 32) (taken slots) in
    let less : length (taken slots) ≤ length (with_slot (x / 2 ^ 32) (x % 2 ^ 32) (taken slots)) =
    at_least (x / 2 ^ 32) (x % 2 ^ 32) (taken slots) in
    omega (arith, more, less)
taken_set (x ∷ slots) (suc place) slot =
    one_more (x / 2 ^ 32) (x % 2 ^ 32) (taken slots) (taken (set slots place slot)) (taken_set slots place slot)

all_taken :
    (slots : List ℕ) → ((place : ℕ) → place < length slots → upper_at slots place ≢ 0)
    → length (taken slots) ≡ length slots
all_taken [] full = refl
all_taken (slot ∷ slots) full =
    go (slot / 2 ^ 32) (full 0 (omega arith)) ∙ ap suc (all_taken slots (λ place h. full (suc place) (omega arith)))
  where
    go : (upper : ℕ) → upper ≢ 0 → length (with_slot upper (slot % 2 ^ 32) (taken slots)) ≡ suc (length (taken slots))
    go zero some = absurd (some refl)
    go (suc addr) some = refl

-- where some are free, a search ends
pub not_full :
    (slots : List ℕ) (addr : ℕ) → length (taken slots) < length slots
    → ((other : ℕ) → other < length slots → IsOther slots addr other) → ⊥
not_full slots addr room others =
    let full : length (taken slots) ≡ length slots = all_taken slots (λ place h. (others place h).0) in
    omega (arith, full, room)

-- ---- how far places are behind another

ahead : (count from place : ℕ) → from ≤ place → steps count from place ≡ place - from
ahead count from place h = rw (le-leb from place h) refl

behind : (count from place : ℕ) → place < from → steps count from place ≡ place + count - from
behind count from place h = rw (lt-leb from place h) refl

steps_same :
    (count from one other : ℕ) → from ≤ count → one < count → other < count
    → steps count from one ≡ steps count from other → one ≡ other
steps_same count from one other home h k same = elim (cases_lt one from) [
  | inl before ↦ elim (cases_lt other from) [
    | inl second ↦
        let a : steps count from one ≡ one + count - from = behind count from one before in
        let b : steps count from other ≡ other + count - from = behind count from other second in
        omega (arith, a, b, same, home, before, second)
    | inr second ↦
        let a : steps count from one ≡ one + count - from = behind count from one before in
        let b : steps count from other ≡ other - from = ahead count from other (omega arith) in
        absurd (omega (arith, a, b, same, home, before, second, h, k))
  ]
  | inr after ↦ elim (cases_lt other from) [
    | inl second ↦
        let a : steps count from one ≡ one - from = ahead count from one (omega arith) in
        let b : steps count from other ≡ other + count - from = behind count from other second in
        absurd (omega (arith, a, b, same, home, after, second, h, k))
    | inr second ↦
        let a : steps count from one ≡ one - from = ahead count from one (omega arith) in
        let b : steps count from other ≡ other - from = ahead count from other (omega arith) in
        omega (arith, a, b, same, after, second)
  ]
]

pub home_within : (count addr : ℕ) → home_of count addr ≤ count
home_within count addr =
    let hash = addr * 0x9E3779B1 % 2 ^ 32 in
    let low : hash ≤ 2 ^ 32 = omega arith in
    let same : count ≤ count = omega arith in
    let most : hash * count ≤ 2 ^ 32 * count = mul-le-mul low same in
    omega (arith, most)

-- ---- slots in which each address is found where it is sought

pub one_place :
    (slots : List ℕ) (addr place other : ℕ) → AreSlots slots → IsPlaceFor slots addr place → other < length slots
    → upper_at slots other ≡ suc addr → other ≡ place
one_place slots addr place other are is h own =
    let home = home_of (length slots) addr in
    elim (cases_lt (steps (length slots) home other) (steps (length slots) home place)) [
      | inl fewer ↦ absurd ((is.reached other h fewer).1 own)
      | inr more ↦ elim (cases_lt (steps (length slots) home place) (steps (length slots) home other)) [
        | inl fewer ↦
            let passed : IsOther slots addr place = are.reached other addr h own place is.within fewer in
            absurd (stopped passed is.stops)
        | inr same ↦
            steps_same (length slots) home other place (home_within (length slots) addr) h is.within
            (omega (arith, more, same))
      ]
    ]
  where
    stopped : IsOther slots addr place → (upper_at slots place ≡ 0) ⊎ (upper_at slots place ≡ suc addr) → ⊥
    stopped passed (inl free) = passed.0 free
    stopped passed (inr own) = passed.1 own

pub owned :
    (slots : List ℕ) (addr place : ℕ) → IsPlaceFor slots addr place → upper_at slots place ≢ 0
    → upper_at slots place ≡ suc addr
owned slots addr place is some = go is.stops
  where
    go : (upper_at slots place ≡ 0) ⊎ (upper_at slots place ≡ suc addr) → upper_at slots place ≡ suc addr
    go (inl free) = absurd (some free)
    go (inr own) = own

first_place :
    (slots : List ℕ) (addr place : ℕ) → AreSlots slots → IsPlaceFor slots addr place
    → (other : ℕ) → other < place → upper_at slots other ≢ suc addr
first_place slots addr place are is other h own =
    let within : place < length slots = is.within in
    let same : other ≡ place = one_place slots addr place other are is (omega arith) own in
    omega (arith, same, h)

pub loaded :
    (slots : List ℕ) (addr place : ℕ) → AreSlots slots → IsPlaceFor slots addr place → upper_at slots place ≢ 0
    → word_at (slotted_words slots) addr ≡ Some (slice_index_or slots place 0 % 2 ^ 32)
loaded slots addr place are is some =
    held_first (taken slots) addr
    ∙ found_in slots place addr is.within (owned slots addr place is some) (first_place slots addr place are is)

pub not_loaded :
    (slots : List ℕ) (addr place : ℕ) → AreSlots slots → IsPlaceFor slots addr place → upper_at slots place ≡ 0
    → word_at (slotted_words slots) addr ≡ None
not_loaded slots addr place are is free =
    held_first (taken slots) addr
    ∙ found_nowhere slots addr
    (λ other h own.
    let same : other ≡ place = one_place slots addr place other are is h own in
    let upper : upper_at slots place ≡ suc addr = rw (← same) own in
    absurd (omega (arith, upper, free)))

pub nowhere_loaded :
    (slots : List ℕ) (addr : ℕ) → ((other : ℕ) → other < length slots → IsOther slots addr other)
    → word_at (slotted_words slots) addr ≡ None
nowhere_loaded slots addr others =
    held_first (taken slots) addr ∙ found_nowhere slots addr (λ other h. (others other h).1)

pub written :
    (slots : List ℕ) (addr place word : ℕ) → AreSlots slots → IsPlaceFor slots addr place → word < 2 ^ 32
    → slotted_words (set slots place (slot_of (addr, word))) ≡ stored (slotted_words slots) addr word
written slots addr place word are is small =
    same_words _ _
    (λ q.
    held_first (taken (set slots place (slot_of (addr, word)))) q
    ∙ found_set slots place addr word q is.within small is.stops (first_place slots addr place are is)
    ∙ ap (λ (o : Option ℕ). if q == addr then Some word else o) (sym (held_first (taken slots) q))
    ∙ sym (word_at-stored (slotted_words slots) addr word q))

-- a slot that is free or has the address, written: what is sought is found as before
pub still_slots :
    (slots : List ℕ) (addr place word : ℕ) → AreSlots slots → IsPlaceFor slots addr place → addr % 4 ≡ 0
    → word < 2 ^ 32 → AreSlots (set slots place (slot_of (addr, word)))
still_slots slots addr place word are is multiple small = record {
  few = rw len are.few;
  aligned = λ p a h own.
      elim (cases_eq p place) [
        | inl same ↦ rw (address p a same own) multiple
        | inr apart ↦ are.aligned p a (rw len at h) (rw (other_upper p apart) at own)
      ];
  reached = λ p a h own other k fewer.
      elim (cases_eq p place) [
        | inl same ↦
            rw (address p a same own)
            (unchanged addr other (λ e. nearer a other p fewer (e ∙ sym same))
            (is.reached other (rw len at k) (rw (len, same, address p a same own) at fewer)))
        | inr apart ↦
            let old : upper_at slots p ≡ suc a = rw (other_upper p apart) at own in
            let passed : IsOther slots a other = are.reached p a (rw len at h) old other (rw len at k) (rw len at fewer) in
            elim (cases_eq other place) [
              | inl here ↦
                  rw here
                  (passed_here a
                  (λ e.
                  let mine : upper_at slots p ≡ suc addr = old ∙ ap suc e in
                  apart (one_place slots addr place p are is (rw len at h) mine)))
              | inr elsewhere ↦ unchanged a other elsewhere passed
            ]
      ];
}
  where
    len : length (set slots place (slot_of (addr, word))) ≡ length slots
    len = length-set slots place (slot_of (addr, word))

    nearer :
        (a other p : ℕ)
        → steps_from_home (set slots place (slot_of (addr, word))) a other
        < steps_from_home (set slots place (slot_of (addr, word))) a p
        → other ≡ p → ⊥
    nearer a other p fewer same =
        let less :
        steps_from_home (set slots place (slot_of (addr, word))) a p
        < steps_from_home (set slots place (slot_of (addr, word))) a p = rw same at fewer in
        omega (arith, less)

    here_upper : upper_at (set slots place (slot_of (addr, word))) place ≡ suc addr
    here_upper =
        ap (λ slot. slot / 2 ^ 32) (get_or-set_same slots place (slot_of (addr, word)) 0 is.within)
        ∙ upper_of addr word small

    other_upper :
        (other : ℕ) → other ≢ place → upper_at (set slots place (slot_of (addr, word))) other ≡ upper_at slots other
    other_upper other apart =
        ap (λ slot. slot / 2 ^ 32) (get_or-set_other slots place other (slot_of (addr, word)) 0 apart)

    address : (p a : ℕ) → p ≡ place → upper_at (set slots place (slot_of (addr, word))) p ≡ suc a → a ≡ addr
    address p a same own =
        let upper : upper_at (set slots place (slot_of (addr, word))) place ≡ suc a = rw same at own in
        omega (arith, upper, here_upper)

    unchanged :
        (a other : ℕ) → other ≢ place → IsOther slots a other → IsOther (set slots place (slot_of (addr, word))) a other
    unchanged a other apart passed = rw (other_upper other apart) passed

    passed_here : (a : ℕ) → (a ≢ addr) → IsOther (set slots place (slot_of (addr, word))) a place
    passed_here a apart = (
      λ e. omega (arith, e, here_upper),
      λ e. apart (let same : a ≡ addr = omega (arith, e, here_upper) in same),
    )

-- ---- slots that are filled from free ones

pub none_taken :
    (slots : List ℕ) → ((place : ℕ) → place < length slots → slice_index slots place ≡ 0) → taken slots ≡ []
none_taken [] free = refl
none_taken (slot ∷ slots) free =
    let here : slot ≡ 0 = free 0 (omega arith) in
    rw here (none_taken slots (λ place h. free (suc place) (omega arith)))

pub free_slots :
    (slots : List ℕ) → length slots ≤ 2 ^ 32 → ((place : ℕ) → place < length slots → slice_index slots place ≡ 0)
    → AreSlots slots
free_slots slots few free = record {
  few = few;
  aligned = λ place addr h own. absurd (not_own place addr h own);
  reached = λ place addr h own. absurd (not_own place addr h own);
}
  where
    not_own : (place addr : ℕ) → place < length slots → upper_at slots place ≡ suc addr → ⊥
    not_own place addr h own =
        let upper : 0 / 2 ^ 32 ≡ suc addr = rw (free place h) at own in
        omega (arith, upper)

-- the words of a pair and of those behind it
pub one_before :
    (pairs : List (ℕ × ℕ)) (i : ℕ) → i < length pairs
    → stored (memory_of (drop (suc i) pairs)) (slice_index_or pairs i (0, 0)).0 (slice_index_or pairs i (0, 0)).1
    ≡ memory_of (drop i pairs)
one_before pairs i h =
    let pair : ℕ × ℕ = slice_index_or pairs i (0, 0) in
    let behind : List (ℕ × ℕ) = drop (suc i) pairs in
    same_words _ _
    (λ q.
    word_at-stored (memory_of behind) pair.0 pair.1 q
    ∙ ap (λ (o : Option ℕ). if q == pair.0 then Some pair.1 else o) (held_first behind q)
    ∙ sym (find_first q pair behind)
    ∙ ap (λ (ps : List (ℕ × ℕ)). find nat_cmp q ps) (sym (drop-cons pairs i (0, 0) h))
    ∙ sym (held_first (drop i pairs) q))
