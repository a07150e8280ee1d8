-- Reading a library from left to right. The first fault that is met is the answer.
use Rattle.std.specs.Prelude.{ℕ, ◌+◌, ◌^◌, ◌==◌, nat_lt, nat_le, Bool, true, false, not, if◌then◌else◌, Result, Ok, Err, List, [], ◌∷◌, length, slice_get, ◌-◌}
use Rattle.std.specs.List.{list_any}
use Rattle.std.specs.Int.{Width, w8, w32, w64}
use Rattle.sample_design.specs.declared.units.UnitsFault.{UnitsFault}
use Rattle.sample_design.specs.Units.{units_of}
use Rattle.lru_plain.specs.Shape.{Shape, sets_of}
use Rattle.predictor.specs.declared.kind.PredictorKind.{PredictorKind}
use Rattle.predictor.specs.declared.kind.Scheme.{Scheme}
use Rattle.predictor.specs.declared.kind.Scheme.TheVariants.{Bimodal, Gshare}
use Rattle.predictor.specs.Tables.{Tables}
use Rattle.predictor.specs.Parts.{is_counter, is_history, is_instruction, is_source, is_target}
use Rattle.recency_record.specs.declared.entry.Entry.{Entry}
use Rattle.recency_record.specs.declared.fault.RecordFault.{RecordFault}
use Rattle.recency_record.specs.declared.fault.RecordFault.TheVariants.{TooMany, WrongSet, Repeated, TimeRange, NotDescending}
use Rattle.recency_record.specs.Recency.{Recency}
use Rattle.recency_record.specs.Faults.{belongs, is_no_later}
use Rattle.hierarchy.specs.declared.places.Places.{Places}
use Rattle.live_words.specs.Words.{rises}
use Rattle.live_points.specs.Kinds.{is_among}
use Rattle.livepoint_format.specs.declared.fault.LibraryFault.{LibraryFault}
use Rattle.livepoint_format.specs.declared.fault.LibraryFault.TheVariants as faults
use Rattle.livepoint_format.specs.declared.entries.Which.{Which}
use Rattle.livepoint_format.specs.Reading.{Spot, Reader, done, ◌>>=◌, number, judged, demanded, items, counted, starts_at}
use Rattle.livepoint_format.specs.Values.{Head, Point, Whole}
use Rattle.livepoint_format.specs.Shared.{Parts, words_of, are_apart}
use Rattle.livepoint_format.specs.Format.{magic, end_word, within, is_heap, is_first, kind_at, is_own, is_run, most_words, unit_of}
use Rattle.live_points.specs.Sharing.{ranks}

-- a number that a test refuses is a bad field
abbrev pub bad_field : ℕ → LibraryFault
bad_field place = faults.BadField place

abbrev pub field : Width → (ℕ → Bool) → Reader ℕ
field w test = judged test bad_field (number w)

abbrev pub zero_byte : Reader ℕ
zero_byte = field w8 (within 0 0)

unfoldable pub pair_at : Reader (ℕ × ℕ)
pair_at = do
  first ← number w32
  second ← number w32
  done (first, second)

-- ---- the header

unfoldable pub geometry_at : (ℕ → Bool) → Reader Shape
geometry_at is_line = do
  line_log ← field w8 is_line
  sets_log ← field w8 (within 0 12)
  ways ← field w8 (within 1 16)
  _ ← zero_byte
  done (record { line_log = line_log; sets_log = sets_log; ways = ways })

abbrev pub is_cache_line : ℕ → Bool
is_cache_line = within 4 8

abbrev pub is_page : ℕ → Bool
is_page = within 12 12

unfoldable pub geometries_at : Reader (Places Shape)
geometries_at = do
  l1i ← geometry_at is_cache_line
  l1d ← geometry_at is_cache_line
  l2 ← geometry_at is_cache_line
  itlb ← geometry_at is_page
  dtlb ← geometry_at is_page
  done (record { l1i = l1i; l1d = l1d; l2 = l2; itlb = itlb; dtlb = dtlb })

abbrev pub scheme_of : ℕ → Scheme
scheme_of n = if n == 0 then Bimodal else Gshare

unfoldable pub kind_read : Reader PredictorKind
kind_read = do
  scheme ← field w8 (within 0 1)
  bits ← field w8 (within 4 14)
  target_log ← field w8 (within 2 10)
  depth ← field w8 (within 0 16)
  done (record { scheme = scheme_of scheme; bits = bits; target_log = target_log; depth = depth })

-- a kind that repeats one before it is a bad field at its first byte
abbrev pub kind_after : List PredictorKind → Reader PredictorKind
kind_after before = judged (λ k. not (is_among k before)) bad_field kind_read

unfoldable pub kinds_count : Reader ℕ
kinds_count = do
  count ← field w8 (within 1 4)
  _ ← zero_byte
  _ ← zero_byte
  _ ← zero_byte
  done count

abbrev pub is_count : Result ℕ UnitsFault → ℕ → Bool
is_count (Ok count) points = count == points
is_count (Err fault) points = false

-- a run of this length has so many sampled units. The warming and the seed don't matter
abbrev pub counts : ℕ → ℕ → ℕ → ℕ → ℕ → Bool
counts points instructions unit every offset =
    is_count (units_of (record { unit = unit; warm = 0; every = every; offset = offset; seed = 0; budget = 1 }) instructions) points

-- the number of points, at 16, is judged once the offset is read
unfoldable pub head_at : Reader Head
head_at = do
  _ ← judged (λ n. n == magic) (λ _. faults.BadMagic) (number w32)
  version ← judged (within 1 2) (λ _. faults.BadVersion) (number w32)
  instructions ← field w64 (within 1 (2 ^ 36))
  points ← number w32
  unit ← field w32 (within 16 10000)
  warm ← field w32 (within 0 100000)
  every ← field w32 (within 1 1000000)
  offset ← field w32 (λ n. nat_lt n every)
  _ ← demanded (counts points instructions unit every offset) (faults.BadField 16)
  heap_low ← field w32 is_heap
  seed ← field w64 (within 0 (10 ^ 18))
  places ← geometries_at
  kinds ← counted kinds_count kind_after
  done (record {
    version = version;
    instructions = instructions;
    points = points;
    unit = unit;
    warm = warm;
    every = every;
    offset = offset;
    heap_low = heap_low;
    seed = seed;
    places = places;
    kinds = kinds;
  })

abbrev pub shared_after : List (ℕ × ℕ) → Reader (ℕ × ℕ)
shared_after before = judged (ranks before) (λ _. faults.BadShared (length before)) pair_at

-- version 1 has no table
unfoldable pub table_at : Bool → Reader (List (ℕ × ℕ))
table_at true = done []
table_at false = counted (field w32 (within 0 134217728)) shared_after

unfoldable pub header_at : Reader (Head × List (ℕ × ℕ))
header_at = do
  head ← head_at
  shared ← table_at (is_first head)
  done (head, shared)

-- ---- a point

abbrev pub word_after : ℕ → List (ℕ × ℕ) → Reader (ℕ × ℕ)
word_after point before = judged (rises before) (λ _. faults.BadWords point) pair_at

abbrev pub own_after : ℕ → List (ℕ × ℕ) → List (ℕ × ℕ) → Reader (ℕ × ℕ)
own_after point shared before = judged (is_own shared before) (λ _. faults.BadWords point) pair_at

abbrev pub run_after : ℕ → ℕ → ℕ → ℕ → List (ℕ × ℕ) → Reader (ℕ × ℕ)
run_after point most own size before = judged (is_run most own size before) (λ _. faults.BadRuns point) pair_at

unfoldable pub parts_at : ℕ → ℕ → List (ℕ × ℕ) → Reader Parts
parts_at point most shared = do
  owns ← field w32 (within 0 most)
  count ← field w32 (within 0 most)
  own ← items (own_after point shared) owns []
  runs ← items (run_after point most (length own) (length shared)) count []
  done (record { own = own; runs = runs })

-- the words of one address are found once the last run is read
unfoldable pub merged_at : ℕ → ℕ → List (ℕ × ℕ) → Reader (List (ℕ × ℕ))
merged_at point most shared = do
  parts ← judged (λ p. are_apart (words_of shared p)) (λ _. faults.BadWords point) (parts_at point most shared)
  done (words_of shared parts)

unfoldable pub words_at : Bool → ℕ → ℕ → List (ℕ × ℕ) → Reader (List (ℕ × ℕ))
words_at true point most shared = counted (field w32 (within 0 most)) (word_after point)
words_at false point most shared = merged_at point most shared

abbrev pub bad_record : Which → RecordFault → ℕ → LibraryFault
bad_record which fault _ = faults.BadRecord which.point which.place fault

-- the last of the entries before is in front of the next
unfoldable pub entry_after : Which → ℕ → ℕ → List Entry → Reader Entry
entry_after which limit set before = do
  block ← judged (λ b. not (list_any (λ e. e.block == b) before)) (bad_record which (Repeated set (length before)))
      (judged (belongs which.shape set) (bad_record which (WrongSet set (length before))) (number w32))
  time ← judged (λ t. not (is_no_later (slice_get before (length before - 1)) t)) (bad_record which (NotDescending set (length before)))
      (judged (λ t. nat_lt t limit) (bad_record which (TimeRange set (length before))) (number w64))
  done (record { block = block; time = time })

abbrev pub entry_count : Which → ℕ → Reader ℕ
entry_count which set = judged (λ n. nat_le n which.shape.ways) (bad_record which (TooMany set 0)) (number w8)

unfoldable pub set_at : Which → ℕ → ℕ → Reader (List Entry)
set_at which limit set = counted (entry_count which set) (entry_after which limit set)

abbrev pub set_after : Which → ℕ → List (List Entry) → Reader (List Entry)
set_after which limit before = set_at which limit (length before)

unfoldable pub snapshot_at : Which → Reader Recency
snapshot_at which = do
  time ← field w64 (λ n. nat_lt n (2 ^ 63))
  sets ← items (set_after which time) (sets_of which.shape) []
  done (record { shape = which.shape; time = time; sets = sets })

unfoldable pub snapshots_at : ℕ → Places Shape → Reader (Places Recency)
snapshots_at point shapes = do
  l1i ← snapshot_at (record { point = point; place = 0; shape = shapes.l1i })
  l1d ← snapshot_at (record { point = point; place = 1; shape = shapes.l1d })
  l2 ← snapshot_at (record { point = point; place = 2; shape = shapes.l2 })
  itlb ← snapshot_at (record { point = point; place = 3; shape = shapes.itlb })
  dtlb ← snapshot_at (record { point = point; place = 4; shape = shapes.dtlb })
  done (record { l1i = l1i; l1d = l1d; l2 = l2; itlb = itlb; dtlb = dtlb })

unfoldable pub target_after : PredictorKind → List (ℕ × ℕ) → Reader (ℕ × ℕ)
target_after kind before = do
  pc ← field w32 (is_source kind (length before))
  target ← field w32 (is_target pc)
  done (pc, target)

abbrev pub counter_after : List ℕ → Reader ℕ
counter_after before = field w8 is_counter

abbrev pub address_after : List ℕ → Reader ℕ
address_after before = field w32 is_instruction

unfoldable pub image_at : PredictorKind → Reader Tables
image_at kind = do
  counters ← items counter_after (2 ^ kind.bits) []
  history ← field w32 (is_history kind)
  targets ← items (target_after kind) (2 ^ kind.target_log) []
  stack ← counted (field w8 (within 0 kind.depth)) address_after
  done (record { kind = kind; counters = counters; history = history; targets = targets; stack = stack })

abbrev pub image_after : List PredictorKind → List Tables → Reader Tables
image_after kinds before = image_at (kind_at kinds (length before))

abbrev pub register_after : List ℕ → Reader ℕ
register_after before = number w32

abbrev pub registers_count : ℕ
registers_count = 31

unfoldable pub point_at : Head → List (ℕ × ℕ) → ℕ → ℕ → Reader Point
point_at h shared point wanted = do
  unit ← judged (λ n. n == wanted) (λ _. faults.BadOrder point) (number w32)
  pc ← field w32 is_instruction
  regs ← items register_after registers_count []
  brk ← field w32 (within h.heap_low (h.heap_low + 67108864))
  words ← words_at (is_first h) point (most_words h wanted) shared
  places ← snapshots_at point h.places
  images ← items (image_after h.kinds) (length h.kinds) []
  done (record {
    unit = unit;
    pc = pc;
    regs = 0 ∷ regs;
    brk = brk;
    words = words;
    places = places;
    images = images;
  })

-- ---- a library

abbrev pub point_after : Head → List (ℕ × ℕ) → List Point → Reader Point
point_after h shared before = point_at h shared (length before) (unit_of h (length before))

abbrev pub end_at : Reader ℕ
end_at = field w32 (λ n. n == end_word)

unfoldable pub whole_at : Reader Whole
whole_at = do
  front ← header_at
  points ← items (point_after front.0 front.1) front.0.points []
  _ ← end_at
  done (record { head = front.0; shared = front.1; points = points })

-- nothing stands behind the end
abbrev pub ended : Result (Whole × Spot) LibraryFault → Result Whole LibraryFault
ended (Ok x) = if length x.1.rest == 0 then Ok x.0 else Err (faults.TrailingBytes x.1.place)
ended (Err fault) = Err fault

-- the library that the bytes are, or the first fault
unfoldable pub library_of : List ℕ → Result Whole LibraryFault
library_of bytes =
    if nat_lt 1073741824 (length bytes) then Err (faults.TooLarge (length bytes))
    else ended (whole_at (starts_at 0 bytes))
