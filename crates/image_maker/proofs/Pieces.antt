-- How the lists of words and of groups grow, one at a time, and how long they are.
use Rattle.std.proofs.Common.{◌≡◌, ◌+◌, ◌*◌, ◌++◌, ℕ, zero, suc, List, [], ◌∷◌, length, map, refl, ap, arith, length-append}
use Rattle.std.proofs.lemmas.List.{flat_map_more, append-nil}
use Rattle.std.proofs.lemmas.List.FromFn.{map-range_with_len_more, length-map-range_with_len}
use Rattle.std.proofs.Math.ListN.{length-map}
use Rattle.std.specs.Int.{to_le_bytes, w32}
use Rattle.std.specs.List.{flat_map}
use Rattle.rv_isa.specs.Encoding.{word_of}
use Rattle.image_maker.specs.declared.choice.Kind.{Kind}
use Rattle.image_maker.specs.declared.choice.Kind.TheVariants as kind
use Rattle.image_maker.specs.declared.choice.Choice.{Choice}
use Rattle.image_maker.specs.Choice.{state_behind, choice_of}
use Rattle.image_maker.specs.Image.{words, file_header, image_file}
use Rattle.image_maker.specs.Program.{group_by, group_of, groups, program, start}

pub words_none : (front : List ℕ) → front ≡ front ++ words []
unfolding words
words_none front = rw (append-nil front)

pub words_more :
    (front before : List ℕ) (word : ℕ)
    → (front ++ words before) ++ to_le_bytes w32 word ≡ front ++ words (before ++ word ∷ [])
unfolding words
words_more front before word = flat_map_more (to_le_bytes w32) front before word

-- draws after draws
pub state_behind_both : (state m n : ℕ) → state_behind (state_behind state m) n ≡ state_behind state (m + n)
unfolding state_behind
state_behind_both state m zero = ap (state_behind state) (omega arith)
state_behind_both state m (suc n) =
    let more : m + suc n ≡ suc (m + n) = omega arith in
    rw (more, state_behind_both state m n)

pub groups_none : (seed : ℕ) → groups seed 0 ≡ []
unfolding groups
groups_none seed = refl

pub groups_more :
    (seed count : ℕ) → groups seed count ++ group_of (choice_of seed count) ≡ groups seed (count + 1)
unfolding groups
groups_more seed count =
    rw (map-range_with_len_more (choice_of seed) 0 count count (omega arith))
    (flat_map_more group_of [] (map (choice_of seed) _) (choice_of seed count))

-- each of the pieces has four elements
pub length_by_fours :
    {X A : Type 0} (piece : X → List A) → ((x : X) → length (piece x) ≡ 4)
    → (xs : List X) → length (flat_map piece xs) ≡ 4 * length xs
length_by_fours piece four [] = refl
length_by_fours piece four (x ∷ xs) =
    rw (length-append (piece x) (flat_map piece xs), four x, length_by_fours piece four xs) (omega arith)

four_by : (k : Kind) (choice : Choice) → length (group_by k choice.first choice.second choice.amount) ≡ 4
four_by kind.Mix choice = refl
four_by kind.Load choice = refl
four_by kind.Store choice = refl
four_by kind.Branch choice = refl

pub four_in : (choice : Choice) → length (group_of choice) ≡ 4
four_in choice = four_by choice.kind choice

pub length_groups : (seed count : ℕ) → length (groups seed count) ≡ 4 * count
unfolding groups
length_groups seed count =
    rw (
      length_by_fours group_of four_in (map (choice_of seed) _),
      length-map-range_with_len (choice_of seed) 0 count,
    )

pub length_program : (size seed : ℕ) → length (program size seed) ≡ 266
unfolding program start
length_program size seed =
    simp (length-append, length_groups seed 64)

pub length_words : (numbers : List ℕ) → length (words numbers) ≡ 4 * length numbers
unfolding words
length_words numbers = length_by_fours (to_le_bytes w32) (λ _. refl) numbers

pub length_file : (size seed : ℕ) → length (image_file size seed) ≡ 1180
unfolding image_file file_header
length_file size seed =
    let code = length_words (map word_of (program size seed)) in
    let count = length_program size seed in
    simp (length-append, length_words, length-map, length_program)
