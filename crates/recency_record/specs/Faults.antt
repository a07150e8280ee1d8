-- Which rule of a record a list of entries breaks first.
use Rattle.std.specs.Prelude.{ℕ, ◌+◌, ◌-◌, ◌^◌, ◌==◌, nat_lt, nat_le, Bool, false, not, ◌&&◌, if◌then◌else◌, Option, Some, None, Result, Ok, Err, List, [], ◌∷◌, ◌++◌, length, take, drop, slice_get}
use Rattle.std.specs.List.{list_any}
use Rattle.std.specs.Option.{option_or}
use Rattle.lru_plain.specs.Shape.{Shape, home_of}
use Rattle.recency_record.specs.declared.entry.Entry.{Entry}
use Rattle.recency_record.specs.declared.fault.RecordFault.{RecordFault}
use Rattle.recency_record.specs.declared.fault.RecordFault.TheVariants.{TooMany, WrongSet, Repeated, TimeRange, NotDescending}
use Rattle.recency_record.specs.Recency.{Recency}

-- there is such a block under this line, and it belongs to the set
abbrev pub belongs : Shape → ℕ → ℕ → Bool
belongs g set block = nat_lt block (2 ^ (32 - g.line_log)) && (home_of g block == set)

-- the entry just before is no later
abbrev pub is_no_later : Option Entry → ℕ → Bool
is_no_later None time = false
is_no_later (Some before) time = nat_le before.time time

-- the first rule that a block breaks behind the entries before it in its set
abbrev pub block_fault : Shape → ℕ → List Entry → ℕ → Option RecordFault
block_fault g set before block =
    if not (belongs g set block) then Some (WrongSet set (length before))
    else if list_any (λ x. x.block == block) before then Some (Repeated set (length before))
    else None

-- the first rule that a time breaks behind the entries before it in its set
abbrev pub time_fault : ℕ → ℕ → List Entry → ℕ → Option RecordFault
time_fault now set before time =
    if not (nat_lt time now) then Some (TimeRange set (length before))
    else if is_no_later (slice_get before (length before - 1)) time then Some (NotDescending set (length before))
    else None

-- the first rule that an entry breaks behind those before it in its set
unfoldable pub entry_fault : Shape → ℕ → ℕ → List Entry → Entry → Option RecordFault
entry_fault g now set before e = option_or (block_fault g set before e.block) (time_fault now set before e.time)

-- the first that an entry of a set breaks, behind those before
unfoldable pub entries_fault : Shape → ℕ → ℕ → List Entry → List Entry → Option RecordFault
entries_fault g time set before [] = None
entries_fault g time set before (e ∷ es) =
    option_or (entry_fault g time set before e) (entries_fault g time set (before ++ e ∷ []) es)

-- the first that a set breaks
unfoldable pub set_fault : Shape → ℕ → ℕ → List Entry → Option RecordFault
set_fault g time set es =
    if nat_lt g.ways (length es) then Some (TooMany set 0) else entries_fault g time set [] es

-- the first that the sets from this number on break
unfoldable pub sets_fault : Shape → ℕ → ℕ → List (List Entry) → Option RecordFault
sets_fault g time set [] = None
sets_fault g time set (es ∷ rest) = option_or (set_fault g time set es) (sets_fault g time (set + 1) rest)

-- entries dealt out to sets, so many to each in turn
abbrev pub dealt : List ℕ → List Entry → List (List Entry)
dealt [] es = []
dealt (count ∷ counts) es = take count es ∷ dealt counts (drop count es)

-- the value, where there is no fault
abbrev pub unless : {A E : Type 0} → Option E → A → Result A E
unless None value = Ok value
unless (Some fault) value = Err fault

-- the snapshot of these sets, or the first rule that they break
abbrev pub judged : Shape → ℕ → List (List Entry) → Result Recency RecordFault
judged g time sets =
    unless (sets_fault g time 0 sets) (record { shape = g; time = time; sets = sets })

-- the numbers of the rules, in the order in which they are judged
abbrev pub number_of : RecordFault → ℕ
number_of (TooMany set place) = 1
number_of (WrongSet set place) = 2
number_of (Repeated set place) = 3
number_of (TimeRange set place) = 4
number_of (NotDescending set place) = 5
