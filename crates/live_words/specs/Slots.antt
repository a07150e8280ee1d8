-- Words with their addresses in slots, where hashing puts them.
use Rattle.std.specs.Prelude.{◌≡◌, ◌≢◌, ◌⊎◌, ℕ, zero, suc, ◌+◌, ◌*◌, ◌-◌, ◌/◌, ◌%◌, ◌^◌, ◌<◌, ◌≤◌, nat_le, if◌then◌else◌, List, [], ◌∷◌, length, slice_index_or}
use Rattle.rv_exec.specs.Memory.{Words}
use Rattle.live_words.specs.Words.{memory_of}

-- a pair as a slot: the address and one more in the upper half, the word in the lower one
abbrev pub slot_of : ℕ × ℕ → ℕ
slot_of pair = suc pair.0 * 2 ^ 32 + pair.1

-- the upper half of a slot: 0 where it is free, else one more than the address
abbrev pub upper_at : List ℕ → ℕ → ℕ
upper_at slots place = slice_index_or slots place 0 / 2 ^ 32

-- the pair of a slot before others
abbrev pub with_slot : ℕ → ℕ → List (ℕ × ℕ) → List (ℕ × ℕ)
with_slot zero word pairs = pairs
with_slot (suc addr) word pairs = (addr, word) ∷ pairs

-- the pairs in the slots that aren't free
abbrev pub taken : List ℕ → List (ℕ × ℕ)
taken [] = []
taken (slot ∷ slots) = with_slot (slot / 2 ^ 32) (slot % 2 ^ 32) (taken slots)

-- the memory that holds these pairs alone
abbrev pub slotted_words : List ℕ → Words
slotted_words slots = memory_of (taken slots)

-- the place among so many at which an address is sought first
abbrev pub home_of : ℕ → ℕ → ℕ
home_of count addr = addr * 0x9E3779B1 % 2 ^ 32 * count / 2 ^ 32

-- how many places one is behind another, where the first follows the last
abbrev pub steps : ℕ → ℕ → ℕ → ℕ
steps count from place = if nat_le from place then place - from else place + count - from

-- how many places it is behind its address's home
abbrev pub steps_from_home : List ℕ → ℕ → ℕ → ℕ
steps_from_home slots addr place = steps (length slots) (home_of (length slots) addr) place

-- the slot is taken by another address
abbrev pub IsOther : List ℕ → ℕ → ℕ → Type 0
IsOther slots addr place = (upper_at slots place ≢ 0) × (upper_at slots place ≢ suc addr)

-- the slots on the way from an address's home to a place are taken by others
abbrev pub IsReached : List ℕ → ℕ → ℕ → Type 0
IsReached slots addr place =
    (other : ℕ) → other < length slots → steps_from_home slots addr other < steps_from_home slots addr place
    → IsOther slots addr other

-- a search for an address ends at this place: it comes by slots that are taken by others, to one that is free or has
-- the address
pub record IsPlaceFor (slots : List ℕ) (addr place : ℕ) : Type 0 where
  pub within : place < length slots
  pub reached : IsReached slots addr place
  pub stops : (upper_at slots place ≡ 0) ⊎ (upper_at slots place ≡ suc addr)

-- slots in which each address is found where it is sought: so no address has two
pub record AreSlots (slots : List ℕ) : Type 0 where
  pub few : length slots ≤ 2 ^ 32
  pub aligned : (place addr : ℕ) → place < length slots → upper_at slots place ≡ suc addr → addr % 4 ≡ 0
  pub reached : (place addr : ℕ) → place < length slots → upper_at slots place ≡ suc addr → IsReached slots addr place
