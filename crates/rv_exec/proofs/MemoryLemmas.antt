-- Words that are found in a memory and stored there; and that a write buffer of a whole program passes
-- exactly where each of its bytes is mapped.
use Rattle.std.proofs.Common.{List, ◌∷◌, Some, ap, ◌∙◌, ◌≡◌, ◌<◌, ◌≤◌, ◌⊎◌, ◌^◌, ◌+◌, ◌-◌, ℕ, Bool, true, false, arith, inl, inr, refl, eq-eqb, eqb-true}
use Rattle.std.specs.Prelude.{◌||◌, ◌&&◌, ◌==◌, nat_le, if◌then◌else◌}
use Rattle.std.proofs.lemmas.Bool.{cases_lt, leb-true, le-leb}
use Rattle.std.specs.FinMap as map
use Rattle.std.specs.FinMap.{find}
use Rattle.std.specs.Ordering.{nat_cmp}
use Rattle.std.specs.Cmp.{nat_cmp_total, unsigned_tied}
use Rattle.rv_exec.specs.Memory.{Words, Mapped, word_at, stored, passes, lies_within, IsMapped}
use Rattle.rv_exec.specs.Laws.{PassesWhereMapped}

-- what is found in a list of entries, with == for the comparison of keys
pub find_first :
    (q : ℕ) (e : ℕ × ℕ) (es : List (ℕ × ℕ))
    → find nat_cmp q (e ∷ es) ≡ (if q == e.0 then Some e.1 else find nat_cmp q es)
find_first q e es = ap (λ (b : Bool). if b then Some e.1 else find nat_cmp q es) (unsigned_tied q e.0)

pub word_at-stored :
    (words : Words) (at value q : ℕ)
    → word_at (stored words at value) q ≡ (if q == at then Some value else word_at words q)
word_at-stored words at value q =
    map.get-insert nat_cmp_total words at value q
    ∙ ap (λ (b : Bool). if b then Some value else word_at words q) (unsigned_tied q at)

-- ---- write buffers

either : (a b : Bool) → (a || b) ≡ true → (a ≡ true) ⊎ (b ≡ true)
either true b e = inl refl
either false b e = inr e

left : (a b : Bool) → a ≡ true → (a || b) ≡ true
left true b e = refl
left false b e = absurd (cc)

right : (a b : Bool) → b ≡ true → (a || b) ≡ true
right true b e = refl
right false b e = e

both : (a b : Bool) → (a && b) ≡ true → (a ≡ true) × (b ≡ true)
both true b e = (refl, e)
both false b e = absurd (cc)

within : (first end addr len : ℕ) → lies_within first end addr len ≡ true → (first ≤ addr) × (addr + len ≤ end)
within first end addr len e =
    let tests : (nat_le first addr ≡ true) × (nat_le (addr + len) end ≡ true) =
    both (nat_le first addr) (nat_le (addr + len) end) e in
    (leb-true first addr tests.0, leb-true (addr + len) end tests.1)

is_within : (first end addr len : ℕ) → first ≤ addr → addr + len ≤ end → lies_within first end addr len ≡ true
is_within first end addr len low high = rw (le-leb first addr low) (le-leb (addr + len) end high)

mapped :
    (low heap_low addr len : ℕ) → passes (Mapped low heap_low) addr len ≡ true
    → (k : ℕ) → k < len → IsMapped low heap_low (addr + k)
mapped low heap_low addr len e k inside =
    elim (either (len == 0) _ e) [
      | inl none ↦ let zero : len ≡ 0 = eqb-true len 0 none in absurd (omega arith)
      | inr some ↦ elim (either _ _ some) [
        | inl heap ↦
            let at : (low ≤ addr) × (addr + len ≤ heap_low + 2 ^ 26) =
            within low (heap_low + 2 ^ 26) addr len heap in
            inl (omega arith, omega arith)
        | inr stack ↦
            let at : (0x7FF00000 ≤ addr) × (addr + len ≤ 0x80000000) =
            within 0x7FF00000 0x80000000 addr len stack in
            inr (omega arith, omega arith)
      ]
    ]

-- the last byte of the heap, and of the stack, has no mapped byte behind it
heap_end :
    (low heap_low addr len : ℕ) → heap_low ≤ 0x70000000 → addr < heap_low + 2 ^ 26
    → ((k : ℕ) → k < len → IsMapped low heap_low (addr + k))
    → addr + len ≤ heap_low + 2 ^ 26
heap_end low heap_low addr len high first all =
    elim (cases_lt (heap_low + 2 ^ 26) (addr + len)) [
      | inl past ↦
          let k : ℕ = heap_low + 2 ^ 26 - addr in
          elim (all k (omega arith)) [
            | inl heap ↦ absurd (omega arith)
            | inr stack ↦ absurd (omega arith)
          ]
      | inr inside ↦ inside
    ]

stack_end :
    (low heap_low addr len : ℕ) → heap_low ≤ 0x70000000 → addr < 0x80000000
    → ((k : ℕ) → k < len → IsMapped low heap_low (addr + k)) → addr + len ≤ 0x80000000
stack_end low heap_low addr len high first all =
    elim (cases_lt 0x80000000 (addr + len)) [
      | inl past ↦
          let k : ℕ = 0x80000000 - addr in
          elim (all k (omega arith)) [
            | inl heap ↦ absurd (omega arith)
            | inr stack ↦ absurd (omega arith)
          ]
      | inr inside ↦ inside
    ]

passing :
    (low heap_low addr len : ℕ) → heap_low ≤ 0x70000000
    → ((k : ℕ) → k < len → IsMapped low heap_low (addr + k))
    → passes (Mapped low heap_low) addr len ≡ true
passing low heap_low addr len high all =
    let heap : Bool = lies_within low (heap_low + 2 ^ 26) addr len in
    let stack : Bool = lies_within 0x7FF00000 0x80000000 addr len in
    elim (cases_lt 0 len) [
      | inl some ↦ elim (all 0 some) [
        | inl at ↦
            let end : addr + len ≤ heap_low + 2 ^ 26 =
            heap_end low heap_low addr len high (omega arith) all in
            let is : heap ≡ true =
            is_within low (heap_low + 2 ^ 26) addr len (omega arith) end in
            right (len == 0) (heap || stack) (left heap stack is)
        | inr at ↦
            let end : addr + len ≤ 0x80000000 =
            stack_end low heap_low addr len high (omega arith) all in
            let is : stack ≡ true =
            is_within 0x7FF00000 0x80000000 addr len (omega arith) end in
            right (len == 0) (heap || stack) (right heap stack is)
      ]
      | inr none ↦ left (len == 0) (heap || stack) (eq-eqb len 0 (omega arith))
    ]

pub passes_where_mapped : PassesWhereMapped
passes_where_mapped low heap_low addr len high =
    (mapped low heap_low addr len, passing low heap_low addr len high)
