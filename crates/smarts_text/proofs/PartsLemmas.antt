-- What stands left and right of a byte.
use Rattle.std.proofs.Common.{◌≡◌, ◌==◌, ◌<◌, ℕ, List, [], ◌∷◌, ◌++◌, false, true, length, get_or, Option, Some, None, refl, sym, arith, Bor, eqb, ◌≢◌, suc}
use Rattle.std.proofs.lemmas.Bool.{eq-eqb, ne_eqb}
use Rattle.std.proofs.lemmas.Str.Pattern.{split_parts, IsSplitOnceResult}
use Rattle.std.specs.List.{slice_split}
use Rattle.smarts_text.specs.Parts.{parts_copied, parts_round}

-- a text without the byte has no parts
no_parts :
    (c : ℕ) (bs : List ℕ) → ((i : ℕ) → i < length bs → get_or bs i 0 ≢ c) → parts_round c bs ≡ None
unfolding parts_round
no_parts c [] lacks = refl
no_parts c (b ∷ bs) lacks =
    let here : eqb b c ≡ false = ne_eqb b c (lacks 0 (omega arith)) in
    let rest : parts_round c bs ≡ None =
    no_parts c bs (λ i h. lacks (suc i) (omega arith)) in
    rw (here, rest) refl

-- the parts of a text are those round the first byte c
parts_here :
    (c : ℕ) (left right : List ℕ) → ((i : ℕ) → i < length left → get_or left i 0 ≢ c)
    → parts_round c (left ++ c ∷ right) ≡ Some (left, right)
unfolding parts_round
parts_here c [] right lacks = let here : eqb c c ≡ true = eq-eqb c c refl in rw here refl
parts_here c (b ∷ left) right lacks =
    let here : eqb b c ≡ false = ne_eqb b c (lacks 0 (omega arith)) in
    let rest : parts_round c (left ++ c ∷ right) ≡ Some (left, right) =
    parts_here c left right (λ i h. lacks (suc i) (omega arith)) in
    rw (here, rest) refl

-- a split at a byte gives the parts round the first one
pub parts_found :
    (c : ℕ) (bs : List ℕ) (r : Option (Bor (List ℕ) × Bor (List ℕ)))
    → IsSplitOnceResult c bs r → c < 128 → parts_copied r ≡ parts_round c bs
parts_found c bs None split small = sym (no_parts c bs (split_parts c bs None split small))
parts_found c bs (Some x) split small =
    let parts = split_parts c bs (Some x) split small in
    rw parts.0 (sym (parts_here c x.0.now x.1.now parts.1))

-- a text without the byte is one part
no_cut :
    (c : ℕ) (bs : List ℕ) → ((i : ℕ) → i < length bs → get_or bs i 0 ≢ c) → slice_split (λ b. b == c) bs ≡ bs ∷ []
no_cut c [] lacks = refl
no_cut c (b ∷ bs) lacks =
    let here : eqb b c ≡ false = ne_eqb b c (lacks 0 (omega arith)) in
    let rest : slice_split (λ b. b == c) bs ≡ bs ∷ [] =
    no_cut c bs (λ i h. lacks (suc i) (omega arith)) in
    rw (here, rest) refl

-- the first part of a text ends at the first byte c
cut_here :
    (c : ℕ) (left right : List ℕ) → ((i : ℕ) → i < length left → get_or left i 0 ≢ c)
    → slice_split (λ b. b == c) (left ++ c ∷ right) ≡ left ∷ slice_split (λ b. b == c) right
cut_here c [] right lacks = let here : eqb c c ≡ true = eq-eqb c c refl in rw here refl
cut_here c (b ∷ left) right lacks =
    let here : eqb b c ≡ false = ne_eqb b c (lacks 0 (omega arith)) in
    let rest : slice_split (λ b. b == c) (left ++ c ∷ right) ≡ left ∷ slice_split (λ b. b == c) right =
    cut_here c left right (λ i h. lacks (suc i) (omega arith)) in
    rw (here, rest) refl

pub uncut :
    (c : ℕ) (bs : List ℕ) → IsSplitOnceResult c bs None → c < 128 → slice_split (λ b. b == c) bs ≡ bs ∷ []
uncut c bs split small = no_cut c bs (split_parts c bs None split small)

pub cut_at :
    (c : ℕ) (bs : List ℕ) (left right : Bor (List ℕ)) → IsSplitOnceResult c bs (Some (left, right)) → c < 128
    → slice_split (λ b. b == c) bs ≡ left.now ∷ slice_split (λ b. b == c) right.now
cut_at c bs left right split small =
    let parts = split_parts c bs (Some (left, right)) split small in
    rw parts.0 (cut_here c left.now right.now parts.1)

-- how much is left of a text, of which there may be nothing
abbrev pub length_left : Option (Bor (List ℕ)) → ℕ
length_left None = 0
length_left (Some rest) = suc (length rest.now)
