-- Reading from left to right, with the first fault that is met.
use Rattle.std.specs.Prelude.{ℕ, zero, suc, ◌+◌, ◌-◌, List, [], ◌∷◌, ◌++◌, length, take, drop, Bool, Result, Ok, Err, nat_lt, if◌then◌else◌}
use Rattle.std.specs.Int.{Width, byte_len, from_le_bytes}
use Rattle.livepoint_format.specs.declared.fault.LibraryFault.{LibraryFault}
use Rattle.livepoint_format.specs.declared.fault.LibraryFault.TheVariants as faults

-- where a reader stands: how many bytes are behind it, and those that are left
pub record Spot : Type 0 where
  pub place : ℕ
  pub rest : List ℕ

-- a reader answers a value and where it then stands, or a fault
abbrev pub Reader : Type 0 → Type 0
Reader A = Spot → Result (A × Spot) LibraryFault

-- it reads nothing
abbrev pub done : {A : Type 0} → A → Reader A
done x at = Ok (x, at)

abbrev pub onward : {A B : Type 0} → Result (A × Spot) LibraryFault → (A → Reader B) → Result (B × Spot) LibraryFault
onward (Ok x) next = next x.0 x.1
onward (Err fault) next = Err fault

infixl 10 ◌>>=◌
-- one reader, and then another that knows what the first one read
abbrev pub ◌>>=◌ : {A B : Type 0} → Reader A → (A → Reader B) → Reader B
(first >>= next) at = onward (first at) next

-- a number of so many bytes, the lowest first; where they aren't all there, the number of bytes that there are
abbrev pub number : Width → Reader ℕ
number w at =
    if nat_lt (length at.rest) (byte_len w) then Err (faults.Truncated (at.place + length at.rest))
    else Ok (
      from_le_bytes w (take (byte_len w) at.rest),
      record { place = at.place + byte_len w; rest = drop (byte_len w) at.rest },
    )

-- a value that a test refuses gives a fault, which is told the place of its first byte
abbrev pub judged : {A : Type 0} → (A → Bool) → (ℕ → LibraryFault) → Reader A → Reader A
judged test fault read at = onward (read at) (λ x after. if test x then Ok (x, after) else Err (fault at.place))

-- the same of what was read before; nothing is read
abbrev pub demanded : Bool → LibraryFault → Reader (Unit {0})
demanded test fault at = if test then Ok (tt, at) else Err fault

-- so many items, each of which knows those before it
unfoldable pub items : {A : Type 0} → (List A → Reader A) → ℕ → List A → Reader (List A)
items item zero before at = Ok (before, at)
items item (suc n) before at = onward (item before at) (λ x after. items item n (before ++ x ∷ []) after)

-- a number, and then so many items
abbrev pub counted : {A : Type 0} → Reader ℕ → (List A → Reader A) → Reader (List A)
counted count item = do
  n ← count
  items item n []

abbrev pub bytes_taken : {A : Type 0} → ℕ → Result (A × Spot) LibraryFault → Result (A × ℕ) LibraryFault
bytes_taken base (Ok x) = Ok (x.0, x.1.place - base)
bytes_taken base (Err fault) = Err fault

-- a value and the number of bytes that were read for it
abbrev pub handed_out : {A : Type 0} → Spot → Reader A → Result (A × ℕ) LibraryFault
handed_out at read = bytes_taken at.place (read at)

abbrev pub starts_at : ℕ → List ℕ → Spot
starts_at base bytes = record { place = base; rest = bytes }
