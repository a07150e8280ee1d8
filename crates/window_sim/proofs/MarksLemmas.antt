-- Marks in words.
use Rattle.std.proofs.Common.{◌≡◌, ◌<◌, ◌+◌, ◌*◌, ◌/◌, ◌%◌, ◌^◌, ℕ, zero, suc, List, [], ◌∷◌, ◌++◌, length, take, set, Some, refl, ap, ◌∙◌, arith}
use Rattle.std.specs.Prelude.{slice_index, slice_get, ◌==◌}
use Rattle.std.proofs.lemmas.List.{length-set}
use Rattle.hierarchy.specs.declared.marked.Marked.{Marked}
use Rattle.window_sim.specs.Marks.{class_at, register_at, word_by, mark_in, marks_in}

-- the parts of a first word
record IsFirst (n class mispredicted transferred first second dest : ℕ) : Type 0 where
  class_is : n % 2 ^ 3 ≡ class
  mispredicted_is : n / 2 ^ 3 % 2 ≡ mispredicted
  transferred_is : n / 2 ^ 4 % 2 ≡ transferred
  first_is : n / 2 ^ 5 % 2 ^ 9 ≡ first
  second_is : n / 2 ^ 14 % 2 ^ 9 ≡ second
  dest_is : n / 2 ^ 23 % 2 ^ 9 ≡ dest

first_split :
    (n class mispredicted transferred first second dest : ℕ)
    → class < 8 → mispredicted < 2 → transferred < 2 → first < 512 → second < 512 → dest < 512
    → n ≡ class + mispredicted * 2 ^ 3 + transferred * 2 ^ 4 + first * 2 ^ 5 + second * 2 ^ 14 + dest * 2 ^ 23
    → IsFirst n class mispredicted transferred first second dest
first_split n class mispredicted transferred first second dest a b c d e f is = record {
  class_is = omega arith;
  mispredicted_is = omega arith;
  transferred_is = omega arith;
  first_is = omega arith;
  second_is = omega arith;
  dest_is = omega arith;
}

-- what is packed of a mark
pub record ArePacked (mark : Marked) (class mispredicted transferred first second dest word : ℕ) : Type 0 where
  pub class_is : class_at class ≡ mark.class
  pub class_most : class < 8
  pub mispredicted_is : (mispredicted == 1) ≡ mark.mispredicted
  pub mispredicted_most : mispredicted < 2
  pub transferred_is : (transferred == 1) ≡ mark.transferred
  pub transferred_most : transferred < 2
  pub first_is : register_at first ≡ mark.first
  pub first_most : first < 512
  pub second_is : register_at second ≡ mark.second
  pub second_most : second < 512
  pub dest_is : register_at dest ≡ mark.dest
  pub dest_most : dest < 512
  pub word_is : word_by mark.class word ≡ mark.word
  pub stall_most : mark.stall < 2 ^ 16
  pub latency_most : mark.latency < 2 ^ 16

pub mark_back :
    (mark : Marked) (class mispredicted transferred first second dest word one other : ℕ)
    → ArePacked mark class mispredicted transferred first second dest word
    → one ≡ class + mispredicted * 2 ^ 3 + transferred * 2 ^ 4 + first * 2 ^ 5 + second * 2 ^ 14 + dest * 2 ^ 23
    → other ≡ mark.stall + mark.latency * 2 ^ 16 + word * 2 ^ 32
    → mark_in one other ≡ mark
mark_back mark class mispredicted transferred first second dest word one other p is also =
    let s = first_split one class mispredicted transferred first second dest p.class_most p.mispredicted_most
    p.transferred_most p.first_most p.second_most p.dest_most is in
    let stall : other % 2 ^ 16 ≡ mark.stall = omega (arith, also, p.stall_most) in
    let latency : other / 2 ^ 16 % 2 ^ 16 ≡ mark.latency = omega (arith, also, p.stall_most, p.latency_most) in
    let rest : other / 2 ^ 32 ≡ word = omega (arith, also, p.stall_most, p.latency_most) in
    rw (
      s.class_is,
      s.mispredicted_is,
      s.transferred_is,
      s.first_is,
      s.second_is,
      s.dest_is,
      stall,
      latency,
      rest,
      p.class_is,
      p.mispredicted_is,
      p.transferred_is,
      p.first_is,
      p.second_is,
      p.dest_is,
      p.word_is,
    ) refl

-- ---- the marks in a row of words

pub marks_in_length : (words : List ℕ) → length (marks_in words) ≡ length words / 2
unfolding marks_in
marks_in_length [] = refl
marks_in_length (one ∷ []) = refl
marks_in_length (one ∷ other ∷ words) =
    let rest : length (marks_in words) ≡ length words / 2 = marks_in_length words in
    omega (arith, rest)

pub mark_at :
    (words : List ℕ) (i : ℕ) → i < length (marks_in words)
    → slice_get (marks_in words) i ≡ Some (mark_in (slice_index words (2 * i)) (slice_index words (2 * i + 1)))
unfolding marks_in
mark_at [] i h = absurd (omega arith)
mark_at (one ∷ []) i h = absurd (omega arith)
mark_at (one ∷ other ∷ words) zero h = refl
mark_at (one ∷ other ∷ words) (suc i) h =
    let place : 2 * suc i ≡ suc (suc (2 * i)) = omega arith in
    let next : 2 * suc i + 1 ≡ suc (suc (2 * i + 1)) = omega arith in
    rw (next, place) (mark_at words i (omega arith))

-- one more mark, written behind the first i
pub marks_more :
    (words : List ℕ) (i one other : ℕ) → 2 * i + 1 < length words
    → marks_in (take (2 * (i + 1)) (set (set words (2 * i) one) (2 * i + 1) other))
    ≡ marks_in (take (2 * i) words) ++ mark_in one other ∷ []
unfolding marks_in
marks_more [] i one other h = absurd (omega arith)
marks_more (x ∷ []) i one other h = absurd (omega arith)
marks_more (x ∷ y ∷ words) zero one other h = refl
marks_more (x ∷ y ∷ words) (suc i) one other h =
    let place : 2 * suc i ≡ suc (suc (2 * i)) = omega arith in
    let next : 2 * suc i + 1 ≡ suc (suc (2 * i + 1)) = omega arith in
    let end : 2 * (suc i + 1) ≡ suc (suc (2 * (i + 1))) = omega arith in
    rw (end, next, place)
    (ap (λ (ms : List Marked). mark_in x y ∷ ms) (marks_more words i one other (omega arith)))

pub marks_none : marks_in [] ≡ []
unfolding marks_in
marks_none = refl

pub packed_more :
    (words : List ℕ) (i len one other : ℕ) (mark : Marked) → length words ≡ 2 * len → i < len → mark_in one other ≡ mark
    → (length (set (set words (2 * i) one) (2 * i + 1) other) ≡ 2 * len)
    × (marks_in (take (2 * (i + 1)) (set (set words (2 * i) one) (2 * i + 1) other)) ≡ marks_in (take (2 * i) words) ++ mark ∷ [])
packed_more words i len one other mark room below is = (
  length-set (set words (2 * i) one) (2 * i + 1) other ∙ length-set words (2 * i) one ∙ room,
  marks_more words i one other (omega (arith, room, below))
      ∙ ap (λ (m : Marked). marks_in (take (2 * i) words) ++ m ∷ []) is,
)
