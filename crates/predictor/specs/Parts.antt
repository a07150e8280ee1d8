-- Which parts an image may have, and the first place at which it has another.
use Rattle.std.specs.Prelude.{◌≡◌, ℕ, ◌/◌, ◌%◌, ◌^◌, ◌<◌, Bool, true, not, ◌&&◌, ◌||◌, ◌==◌, nat_le, nat_lt, if◌then◌else◌, Option, Some, None, Result, Ok, Err, List, length, slice_index, slice_index_or}
use Rattle.std.specs.List.{AllPass}
use Rattle.smarts_base.specs.Least.{least_below}
use Rattle.std.specs.Option.{option_or}
use Rattle.predictor.specs.declared.kind.PredictorKind.{PredictorKind}
use Rattle.predictor.specs.declared.kind.Scheme.{Scheme}
use Rattle.predictor.specs.declared.kind.Scheme.TheVariants.{Bimodal, Gshare}
use Rattle.predictor.specs.declared.parts.BadPart.{BadPart}
use Rattle.predictor.specs.Tables.{Tables, IsTables, no_target}

abbrev pub is_counter : ℕ → Bool
is_counter counter = nat_le counter 3

-- how many histories there are: bimodal keeps none, so that only 0 is one
abbrev pub histories : Scheme → ℕ → ℕ
histories Bimodal bits = 1
histories Gshare bits = 2 ^ bits

abbrev pub is_history : PredictorKind → ℕ → Bool
is_history kind history = nat_lt history (histories kind.scheme kind.bits)

-- instructions stand at multiples of 4
abbrev pub is_instruction : ℕ → Bool
is_instruction address = address % 4 == 0

-- the pc of an entry of the target table: that of no jump, or of one whose place this is
abbrev pub is_source : PredictorKind → ℕ → ℕ → Bool
is_source kind place pc =
    (pc == 1) || (is_instruction pc && (((pc / 4) % 2 ^ kind.target_log) == place))

-- the target behind this pc: 0 behind that of no jump, and else the address of an instruction
abbrev pub is_target : ℕ → ℕ → Bool
is_target pc target = if pc == 1 then target == 0 else is_instruction target

abbrev pub is_entry : PredictorKind → ℕ → ℕ × ℕ → Bool
is_entry kind place entry = is_source kind place entry.0 && is_target entry.0 entry.1

-- the places of parts that an image may not have
abbrev pub bad_counter : List ℕ → ℕ → Bool
bad_counter counters i = not (is_counter (slice_index counters i))

abbrev pub bad_entry : PredictorKind → List (ℕ × ℕ) → ℕ → Bool
bad_entry kind targets i = not (is_entry kind i (slice_index_or targets i no_target))

abbrev pub bad_address : List ℕ → ℕ → Bool
bad_address stack i = not (is_instruction (slice_index stack i))

-- the fault of a part at its first bad place, if it has one
abbrev pub fault_at : ℕ → Option ℕ → Option BadPart
fault_at part None = None
fault_at part (Some index) = Some (record { part = part; index = index })

-- the first fault, with the parts in the order counters, history, targets, stack
unfoldable pub fault_of : Tables → Option BadPart
fault_of t =
    option_or (fault_at 0 (least_below (length t.counters) (bad_counter t.counters)))
    (option_or (if is_history t.kind t.history then None else fault_at 1 (Some 0))
    (option_or (fault_at 2 (least_below (length t.targets) (bad_entry t.kind t.targets)))
    (fault_at 3 (least_below (length t.stack) (bad_address t.stack)))))

-- no part is outside its range
pub record IsInRange (t : Tables) : Type 0 where
  pub counters : AllPass is_counter t.counters
  pub history : is_history t.kind t.history ≡ true
  pub targets :
      (place : ℕ) → place < length t.targets
      → is_entry t.kind place (slice_index_or t.targets place no_target) ≡ true
  pub stack : AllPass is_instruction t.stack

-- what holds of every image: its lengths are those of its kind, and its parts are in their ranges
pub record IsImage (t : Tables) : Type 0 where
  pub tables : IsTables t
  pub ranges : IsInRange t

abbrev pub unless : Option BadPart → Tables → Result Tables BadPart
unless None t = Ok t
unless (Some fault) t = Err fault

-- the image of such parts, or the first fault
abbrev pub image_or_fault : Tables → Result Tables BadPart
image_or_fault t = unless (fault_of t) t
