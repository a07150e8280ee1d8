-- What a call answers that reads from a spot on.
use Rattle.std.specs.Prelude.{◌≡◌, ℕ, ◌+◌, ◌<◌, ◌^◌, Bool, true, false, Result, Ok, Err, List, length, slice_index}
use Rattle.smarts_base.specs.declared.refusal.Refusal.{Refusal}
use Rattle.smarts_base.specs.declared.refusal.Refusal.TheVariants.{Fault, NoMemory}
use Rattle.livepoint_format.specs.declared.fault.LibraryFault.{LibraryFault}
use Rattle.livepoint_format.specs.declared.cursor.Cursor.TheInside.{Inside}
use Rattle.livepoint_format.specs.Reading.{Spot}

-- the fault is the one that is met; want of memory may come at any time
abbrev pub Refuses : {A : Type 0} → Refusal LibraryFault → Result (A × Spot) LibraryFault → Type 0
Refuses (Fault fault) read = read ≡ Err fault
Refuses NoMemory read = Unit {0}

-- a value is the one that is read, and the cursor stands behind it
abbrev pub Reads : {X A : Type 0} → (X → A) → Result X (Refusal LibraryFault) → Spot → Result (A × Spot) LibraryFault → Type 0
Reads view (Ok x) after read = read ≡ Ok (view x, after)
Reads view (Err refusal) after read = Refuses refusal read

-- where the answer is true, this was read, and the cursor stands behind it; else it stands where it stood
abbrev pub Passed : {A : Type 0} → Bool → (Spot → Result (A × Spot) LibraryFault) → Spot → A → Spot → Type 0
Passed true read before x after = read before ≡ Ok (x, after)
Passed false read before x after = after ≡ before

-- numbers of bytes
pub record IsBytes (bytes : List ℕ) : Type 0 where
  pub each : (i : ℕ) → slice_index bytes i < 256

abbrev pub spot_of : Inside → Spot
spot_of fields = record { place = fields.place; rest = fields.rest.now }

-- places fit their type, and what is left are bytes
pub record IsCursor (fields : Inside) : Type 0 where
  pub within : fields.place + length fields.rest.now < 2 ^ 64
  pub bytes : IsBytes fields.rest.now
