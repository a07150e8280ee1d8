-- Which instruction stands at which place of the program.
use Rattle.std.proofs.Common.{◌≡◌, ◌<◌, ◌≤◌, ◌+◌, ◌-◌, ◌*◌, ◌%◌, ℕ, List, [], ◌∷◌, ◌++◌, length, map, take, get_or, refl, sym, ap, ◌∙◌, arith, append_assoc, pos, ◌/◌, zero, suc, inl, inr}
use Rattle.std.specs.Prelude.{◌*ℤ◌}
use Rattle.std.proofs.lemmas.Bool.{cases_lt}
use Rattle.std.proofs.lemmas.Int.{ints}
use Rattle.std.specs.List.{flat_map, range_with_len}
use Rattle.std.proofs.lemmas.List.{get_or_append_left, get_or-append-add, length-take-le}
use Rattle.std.proofs.lemmas.List.Concat.{get_or-flat_map}
use Rattle.std.proofs.lemmas.List.FromFn.{get_or-map-range_with_len, length-map-range_with_len}
use Rattle.rv_isa.specs.declared.inst.Inst.{Inst}
use Rattle.rv_isa.specs.declared.inst.Inst.TheVariants.{Addi, Andi, Add, Xor, And, Mul, Lw, Sw, Beq, Ecall}
use Rattle.rv_isa.specs.Table.{IsSigned}
use Rattle.image_maker.specs.declared.choice.Kind.{Kind}
use Rattle.image_maker.specs.declared.choice.Kind.TheVariants as kind
use Rattle.image_maker.specs.declared.choice.Choice.{Choice}
use Rattle.image_maker.specs.Choice.{state_behind, draw_of, kind_of, choice_from, choice_of, IsDrawnRegister}
use Rattle.image_maker.specs.Program.{start, group_by, group_of, groups, turn_end, exit, program}
use Rattle.image_maker.proofs.Pieces.{length_by_fours, length_groups, four_in}
use Rattle.image_maker.proofs.Groups.{IsGroup}
use Rattle.image_maker.proofs.Steps.{IsUsed}

abbrev choices : ℕ → List Choice
choices seed = map (choice_of seed) (range_with_len 0 64)

length_start : (size : ℕ) → length (start size) ≡ 5
unfolding start
length_start size = refl

in_two : (size seed : ℕ) → program size seed ≡ start size ++ (groups seed 64 ++ (turn_end ++ exit))
unfolding program
in_two size seed =
    append_assoc (start size ++ groups seed 64) turn_end exit
    ∙ append_assoc (start size) (groups seed 64) (turn_end ++ exit)

-- behind the first five
behind :
    (size seed place n : ℕ) → place ≡ 5 + n
    → get_or (program size seed) place Ecall ≡ get_or (groups seed 64 ++ (turn_end ++ exit)) n Ecall
behind size seed place n is =
    rw (is, in_two size seed, ← length_start size)
    (get_or-append-add (start size) (groups seed 64 ++ (turn_end ++ exit)) n Ecall)

in_group :
    (seed group j : ℕ) → group < 64 → j < 4
    → get_or (groups seed 64) (4 * group + j) Ecall ≡ get_or (group_of (choice_of seed group)) j Ecall
unfolding groups
in_group seed group j below four =
    let first : Choice = choice_of seed 0 in
    let here : get_or (choices seed) group first ≡ choice_of seed group =
    get_or-map-range_with_len (choice_of seed) 0 64 group group first below (omega arith) in
    let count : length (choices seed) ≡ 64 = length-map-range_with_len (choice_of seed) 0 64 in
    let front : length (flat_map group_of (take group (choices seed))) ≡ 4 * group =
    length_by_fours group_of four_in (take group (choices seed))
    ∙ ap (λ k. 4 * k) (length-take-le group (choices seed) (omega arith)) in
    let within : j < length (group_of (get_or (choices seed) group first)) =
    omega (arith, four_in (get_or (choices seed) group first)) in
    let found = get_or-flat_map group_of (choices seed) group j first Ecall (omega arith) within in
    ap (λ k. get_or (flat_map group_of (choices seed)) (k + j) Ecall) (sym front)
    ∙ found
    ∙ ap (λ c. get_or (group_of c) j Ecall) here

-- an instruction of a group
member :
    (size seed group j place : ℕ) → group < 64 → j < 4 → place ≡ 5 + (4 * group + j)
    → get_or (program size seed) place Ecall ≡ get_or (group_of (choice_of seed group)) j Ecall
member size seed group j place below four is =
    behind size seed place (4 * group + j) is
    ∙ get_or_append_left (groups seed 64) (turn_end ++ exit) Ecall (4 * group + j)
    (omega (arith, length_groups seed 64))
    ∙ in_group seed group j below four

pub is_group :
    (size seed group : ℕ) → group < 64
    → IsGroup (program size seed) (5 + 4 * group) (group_of (choice_of seed group))
is_group size seed group below = record {
  first = member size seed group 0 (5 + 4 * group) below (omega arith) (omega arith);
  second = member size seed group 1 (5 + 4 * group + 1) below (omega arith) (omega arith);
  third = member size seed group 2 (5 + 4 * group + 2) below (omega arith) (omega arith);
  fourth = member size seed group 3 (5 + 4 * group + 3) below (omega arith) (omega arith);
}

-- behind the groups
pub last :
    (size seed place j : ℕ) → place ≡ 261 + j
    → get_or (program size seed) place Ecall ≡ get_or (turn_end ++ exit) j Ecall
last size seed place j is =
    behind size seed place (256 + j) (omega arith)
    ∙ ap (λ k. get_or (groups seed 64 ++ (turn_end ++ exit)) (k + j) Ecall) (sym (length_groups seed 64))
    ∙ get_or-append-add (groups seed 64) (turn_end ++ exit) j Ecall

pub first_five :
    (size seed j : ℕ) → j < 5 → get_or (program size seed) j Ecall ≡ get_or (start size) j Ecall
first_five size seed j below =
    rw (in_two size seed)
    (get_or_append_left (start size) _ Ecall j (omega (arith, length_start size)))

-- ---- each instruction has its fields in range

small : (d : ℕ) → d ≤ 500 → IsSigned 12 (pos d)
small d h = (omega (arith, ints), omega (arith, ints))

fourfold : (d : ℕ) → d ≤ 500 → IsSigned 12 (pos 4 *ℤ pos d)
fourfold d h = (omega (arith, ints), omega (arith, ints))

used_start : (size j : ℕ) → size ≤ 1_000_000 → j < 5 → IsUsed (get_or (start size) j Ecall)
unfolding start
used_start size zero most h = (omega arith, (omega (arith, ints), omega (arith, ints)), refl)
used_start size (suc zero) most h = (omega arith, (omega (arith, ints), omega (arith, ints)), refl)
used_start size (suc (suc zero)) most h = (omega arith, omega arith, (omega (arith, ints), omega (arith, ints)))
used_start size (suc (suc (suc zero))) most h = (omega arith, (omega (arith, ints), omega (arith, ints)), omega arith)
used_start size (suc (suc (suc (suc zero)))) most h =
    (omega arith, omega arith, (omega (arith, ints), omega (arith, ints)))
used_start size (suc (suc (suc (suc (suc j))))) most h = absurd (omega arith)

used_four :
    (one two three four : Inst) (j : ℕ)
    → IsUsed one → IsUsed two → IsUsed three → IsUsed four → j < 4
    → IsUsed (get_or (one ∷ two ∷ three ∷ four ∷ []) j Ecall)
used_four one two three four zero a b c d h = a
used_four one two three four (suc zero) a b c d h = b
used_four one two three four (suc (suc zero)) a b c d h = c
used_four one two three four (suc (suc (suc zero))) a b c d h = d
used_four one two three four (suc (suc (suc (suc j)))) a b c d h = absurd (omega arith)

used_group :
    (k : Kind) (a b d j : ℕ)
    → IsDrawnRegister a → IsDrawnRegister b → d ≤ 500 → j < 4
    → IsUsed (get_or (group_by k a b (pos d)) j Ecall)
used_group kind.Mix a b d j ha hb few h =
    used_four (Add a a b) (Xor b b a) (Addi a a (pos d)) (Mul b b a) j
    (omega arith, omega arith, omega arith) (omega arith, omega arith, omega arith)
    (omega arith, omega arith, small d few) (omega arith, omega arith, omega arith) h
used_group kind.Load a b d j ha hb few h =
    used_four (Addi 7 7 (pos 4 *ℤ pos d)) (And 7 7 18) (Add 6 7 8) (Lw a 6 (pos 0)) j
    (omega arith, omega arith, fourfold d few) (omega arith, omega arith, omega arith)
    (omega arith, omega arith, omega arith) (omega arith, omega arith, small 0 (omega arith)) h
used_group kind.Store a b d j ha hb few h =
    used_four (Addi 7 7 (pos 4 *ℤ pos d)) (And 7 7 18) (Add 6 7 8) (Sw 6 b (pos 0)) j
    (omega arith, omega arith, fourfold d few) (omega arith, omega arith, omega arith)
    (omega arith, omega arith, omega arith) (omega arith, omega arith, small 0 (omega arith)) h
used_group kind.Branch a b d j ha hb few h =
    used_four (Andi 6 a (pos 1)) (Beq 6 0 (pos 4)) (Addi a a (pos d)) (Xor b b a) j
    (omega arith, omega arith, small 1 (omega arith))
    (omega arith, omega arith, (omega (arith, ints), omega (arith, ints)), refl)
    (omega arith, omega arith, small d few) (omega arith, omega arith, omega arith) h

used_choice :
    (seed group j : ℕ) → j < 4 → IsUsed (get_or (group_of (choice_of seed group)) j Ecall)
unfolding choice_from
used_choice seed group j h =
    let from : ℕ = state_behind seed (4 * group) in
    used_group (kind_of (draw_of from 0 % 4)) (10 + draw_of from 1 % 6) (10 + draw_of from 2 % 6)
    (1 + draw_of from 3 % 500) j
    (omega arith, omega arith) (omega arith, omega arith) (omega arith) h

used_last : (j : ℕ) → j < 5 → IsUsed (get_or (turn_end ++ exit) j Ecall)
used_last zero h = (omega arith, omega arith, (omega (arith, ints), omega (arith, ints)))
used_last (suc zero) h = (omega arith, omega arith, (omega (arith, ints), omega (arith, ints)), refl)
used_last (suc (suc zero)) h = (omega arith, omega arith, small 93 (omega arith))
used_last (suc (suc (suc zero))) h = (omega arith, omega arith, small 0 (omega arith))
used_last (suc (suc (suc (suc zero)))) h = tt
used_last (suc (suc (suc (suc (suc j))))) h = absurd (omega arith)

pub used_at :
    (size seed k : ℕ) → size ≤ 1_000_000 → k < 266 → IsUsed (get_or (program size seed) k Ecall)
used_at size seed k most below =
    elim (cases_lt k 5) [
      | inl early ↦ rw (first_five size seed k early) (used_start size k most early)
      | inr later ↦ elim (cases_lt k 261) [
        | inl within ↦
            let group : ℕ = (k - 5) / 4 in
            let j : ℕ = (k - 5) % 4 in
            rw (member size seed group j k (omega arith) (omega arith) (omega arith))
            (used_choice seed group j (omega arith))
        | inr late ↦ rw (last size seed k (k - 261) (omega arith)) (used_last (k - 261) (omega arith))
      ]
    ]
