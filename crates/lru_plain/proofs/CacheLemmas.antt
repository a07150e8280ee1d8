-- The plain cache, and lists whose elements are the blocks alone.
use Rattle.std.proofs.Common.{◌≡◌, ℕ, suc, ◌*◌, ◌%◌, ◌^◌, ◌<◌, ◌≤◌, true, eqb, List, [], ◌∷◌, length, get_or, refl, ap, inl, inr, ⊎_elim, arith, eqb-true, mul-le-mul}
use Rattle.std.specs.List.{Contains}
use Rattle.std.proofs.lemmas.Bool.{cases_Bool, false≢true}
use Rattle.std.proofs.lemmas.Nat.{pow_pos}
use Rattle.std.proofs.Math.Nat.{div-lt_iff_lt-mul, pow-le-pow_right}
use Rattle.lru_plain.specs.Shape.{Shape, IsShape, block_of}
use Rattle.lru_plain.specs.Cache.{touched, without}
use Rattle.lru_plain.specs.Lists.{Listing, without_block, has_block, used, free_block}
use Rattle.lru_plain.proofs.ListsLemmas.{has_at}

without_is : (block : ℕ) (xs : List ℕ) → without_block (λ b. b) block xs ≡ without block xs
without_is block [] = refl
without_is block (x ∷ xs) =
    elim (cases_Bool (eqb x block)) [
      | inl e ↦ rw e refl
      | inr e ↦ rw e (ap (λ (l : List ℕ). x ∷ l) (without_is block xs))
    ]

-- a use of an address's block is a touch
pub used_touched : (l : Listing ℕ) (addr : ℕ) → (used (λ b. b) l (block_of l.shape addr)).sets ≡ touched l.shape l.sets addr
used_touched l addr =
    rw (without_is (block_of l.shape addr) (get_or l.sets (block_of l.shape addr % 2 ^ l.shape.sets_log) [])) refl

pub has_contains : (block : ℕ) (xs : List ℕ) → has_block (λ b. b) block xs ≡ true → Contains xs block
has_contains block [] h = absurd (false≢true h)
has_contains block (x ∷ xs) h =
    elim (cases_Bool (eqb x block)) [
      | inl e ↦ (0, omega arith, eqb-true x block e)
      | inr e ↦
          let rest : Contains xs block = has_contains block xs (rw e at h) in
          (suc rest.0, let below : rest.0 < length xs = rest.1 in omega (arith, below), rest.2)
    ]

pub contains_has : (block : ℕ) (xs : List ℕ) → Contains xs block → has_block (λ b. b) block xs ≡ true
contains_has block xs (k, below, there) = has_at (λ b. b) block xs k block below there

-- the block of an address isn't the number in a free place
pub block_taken : (g : Shape) (addr : ℕ) → IsShape g → addr < 2 ^ 32 → block_of g addr < free_block
block_taken g addr shape below =
    let line : 4 ≤ g.line_log = ⊎_elim (λ (h : (4 ≤ g.line_log) × (g.line_log ≤ 8)). h.0) (λ h. omega (arith, h)) shape.line in
    let bytes : 2 ^ 4 ≤ 2 ^ g.line_log = pow-le-pow_right {n = 2} (omega arith) line in
    let same : free_block ≤ free_block = omega arith in
    let more : free_block * 2 ^ 4 ≤ free_block * 2 ^ g.line_log = mul-le-mul same bytes in
    let within : addr < free_block * 2 ^ g.line_log = omega (arith, below, more) in
    (div-lt_iff_lt-mul (pow_pos g.line_log)).1 within
