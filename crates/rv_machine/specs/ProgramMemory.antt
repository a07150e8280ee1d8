-- The memory of a whole program: two blocks of words, its own with the heap, and the stack.
use Rattle.std.specs.Prelude.{◌≡◌, ℕ, ◌+◌, ◌*◌, ◌%◌, ◌^◌, ◌<◌, ◌≤◌, List, [], ◌∷◌, ◌++◌, length}
use Rattle.std.specs.FinMap as map
use Rattle.rv_exec.specs.Memory.{Words, IsMapped}

-- the words of a block, each with its address: they stand 4 apart, from the base on
abbrev pub block : ℕ → List ℕ → List (ℕ × ℕ)
block base [] = []
block base (word ∷ words) = (base, word) ∷ block (base + 4) words

-- what two blocks hold, the one from `low` on, and the stack
unfoldable pub words_of : ℕ → List ℕ → List ℕ → Words
words_of low words stack = map.from_entries (block low words ++ block 0x7FF00000 stack)

-- the blocks of a machine: all words up to the heap's end, which is below the stack, and the
-- stack's 2^18
pub record AreBlocks (low heap_low : ℕ) (held stacked : List ℕ) : Type 0 where
  pub aligned : low % 4 ≡ 0
  pub highest : heap_low ≤ 0x70000000
  pub words : low + 4 * length held ≡ heap_low + 2 ^ 26
  pub size : length held ≤ 2 ^ 25
  pub stack : length stacked ≡ 2 ^ 18

-- the address of a word of a whole program
abbrev pub IsWordAddress : ℕ → ℕ → ℕ → Type 0
IsWordAddress low heap_low addr = (addr % 4 ≡ 0) × IsMapped low heap_low addr

-- the number of an address's word in a block that begins at the base. It is beyond every block
-- where the block has no such word, however long it is
pub record IsPlace (base addr place : ℕ) : Type 0 where
  pub place_of : (k : ℕ) → addr ≡ base + 4 * k → place ≡ k
  pub address : place < 2 ^ 26 → addr ≡ base + 4 * place
