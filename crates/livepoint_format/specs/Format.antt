-- The bytes of a library, and the values that they may have.
use Rattle.std.specs.Prelude.{◌≡◌, ℕ, ◌+◌, ◌*◌, ◌%◌, ◌^◌, ◌<◌, ◌≤◌, ◌==◌, ◌&&◌, nat_lt, nat_le, Bool, true, false, Option, Some, None, Ok, List, [], ◌∷◌, ◌++◌, length, drop, sum_by, flat_map, slice_index, slice_index_or, All, is_none}
use Rattle.std.specs.Int.{w8, w32, w64, to_le_bytes}
use Rattle.sample_design.specs.declared.design.Design.{Design}
use Rattle.sample_design.specs.Order.{order_of}
use Rattle.sample_design.specs.Units.{sampled_unit, units_of, window_of}
use Rattle.lru_plain.specs.Shape.{Shape, sets_of}
use Rattle.predictor.specs.declared.kind.PredictorKind.{PredictorKind}
use Rattle.predictor.specs.declared.kind.Scheme.{Scheme}
use Rattle.predictor.specs.declared.kind.Scheme.TheVariants.{Bimodal, Gshare}
use Rattle.predictor.specs.Kind.{IsKind}
use Rattle.predictor.specs.Tables.{Tables}
use Rattle.predictor.specs.Parts.{IsImage}
use Rattle.recency_record.specs.declared.entry.Entry.{Entry}
use Rattle.recency_record.specs.Recency.{Recency}
use Rattle.recency_record.specs.Faults.{sets_fault}
use Rattle.hierarchy.specs.declared.places.Places.{Places}
use Rattle.hierarchy.specs.Config.{ArePlaces}
use Rattle.live_words.specs.Follow.{last_of, Follow}
use Rattle.live_points.specs.Kinds.{is_among}
use Rattle.live_points.specs.Sharing.{ranks}
use Rattle.live_words.specs.Words.{rises, IsPair, AreWords}
use Rattle.livepoint_format.specs.Values.{Head, Point, Whole}
use Rattle.livepoint_format.specs.Shared.{Parts, parts_of, place_in}

-- ---- spelling

-- numbers of one, four and eight bytes, the lowest first
unfoldable pub byte : ℕ → List ℕ
byte n = to_le_bytes w8 n

unfoldable pub word : ℕ → List ℕ
word n = to_le_bytes w32 n

unfoldable pub long : ℕ → List ℕ
long n = to_le_bytes w64 n

unfoldable pub pair : ℕ × ℕ → List ℕ
pair p = word p.0 ++ word p.1

-- the letters TSLP and TEND
abbrev pub magic : ℕ
magic = 1347179348

abbrev pub end_word : ℕ
end_word = 1145980244

unfoldable pub geometry : Shape → List ℕ
geometry g = byte g.line_log ++ (byte g.sets_log ++ (byte g.ways ++ byte 0))

abbrev pub scheme_number : Scheme → ℕ
scheme_number Bimodal = 0
scheme_number Gshare = 1

unfoldable pub kind : PredictorKind → List ℕ
kind k = byte (scheme_number k.scheme) ++ (byte k.bits ++ (byte k.target_log ++ byte k.depth))

unfoldable pub geometries : Places Shape → List ℕ
geometries p = geometry p.l1i ++ (geometry p.l1d ++ (geometry p.l2 ++ (geometry p.itlb ++ geometry p.dtlb)))

-- the number of kinds, three zeros, and the kinds
unfoldable pub kinds_text : List PredictorKind → List ℕ
kinds_text ks = (byte (length ks) ++ (byte 0 ++ (byte 0 ++ byte 0))) ++ flat_map kind ks

unfoldable pub head : Head → List ℕ
head h =
    word magic ++ (word h.version ++ (long h.instructions ++ (word h.points ++ (word h.unit ++ (word h.warm
    ++ (word h.every ++ (word h.offset ++ (word h.heap_low ++ (long h.seed ++ (geometries h.places
    ++ kinds_text h.kinds))))))))))

abbrev pub is_first : Head → Bool
is_first h = h.version == 1

-- version 1 has no table
unfoldable pub table : Bool → List (ℕ × ℕ) → List ℕ
table true shared = []
table false shared = word (length shared) ++ flat_map pair shared

unfoldable pub header : Head → List (ℕ × ℕ) → List ℕ
header h shared = head h ++ table (is_first h) shared

unfoldable pub parts_text : Parts → List ℕ
parts_text p = word (length p.own) ++ (word (length p.runs) ++ (flat_map pair p.own ++ flat_map pair p.runs))

-- version 1 spells each word of a point, version 2 its own pairs and its runs
unfoldable pub words_text : Bool → List (ℕ × ℕ) → List (ℕ × ℕ) → List ℕ
words_text true shared words = word (length words) ++ flat_map pair words
words_text false shared words = parts_text (parts_of shared words)

unfoldable pub entry : Entry → List ℕ
entry e = word e.block ++ long e.time

unfoldable pub set : List Entry → List ℕ
set es = byte (length es) ++ flat_map entry es

unfoldable pub snapshot : Recency → List ℕ
snapshot r = long r.time ++ flat_map set r.sets

unfoldable pub snapshots : Places Recency → List ℕ
snapshots p = snapshot p.l1i ++ (snapshot p.l1d ++ (snapshot p.l2 ++ (snapshot p.itlb ++ snapshot p.dtlb)))

unfoldable pub image : Tables → List ℕ
image t =
    flat_map byte t.counters ++ (word t.history ++ (flat_map pair t.targets
    ++ (byte (length t.stack) ++ flat_map word t.stack)))

-- register 0 isn't spelled
unfoldable pub point : Bool → List (ℕ × ℕ) → Point → List ℕ
point first shared p =
    word p.unit ++ (word p.pc ++ (flat_map word (drop 1 p.regs) ++ (word p.brk
    ++ (words_text first shared p.words ++ (snapshots p.places ++ flat_map image p.images)))))

unfoldable pub spelling : Whole → List ℕ
spelling l =
    header l.head l.shared ++ (flat_map (point (is_first l.head) l.shared) l.points ++ word end_word)

-- ---- what may stand there

abbrev pub within : ℕ → ℕ → ℕ → Bool
within least most n = nat_le least n && nat_le n most

abbrev pub is_heap : ℕ → Bool
is_heap addr = (addr % 4096 == 0) && nat_le addr 0x70000000

abbrev pub design_of : Head → Design
design_of h = record {
  unit = h.unit;
  warm = h.warm;
  every = h.every;
  offset = h.offset;
  seed = h.seed;
  budget = 1;
}

-- the unit of the k-th point, and the most words that a point of a unit may have
abbrev pub unit_of : Head → ℕ → ℕ
unit_of h k = sampled_unit (design_of h) (slice_index (order_of h.points h.seed) k)

abbrev pub most_words : Head → ℕ → ℕ
most_words h unit = 2 * (window_of (design_of h) unit).len

-- a kind that differs from those before it
pub record IsNewKind (before : List PredictorKind) (k : PredictorKind) : Type 0 where
  pub kind : IsKind k
  pub new : is_among k before ≡ false

-- each field is in its range
pub record IsHeader (h : Head) : Type 0 where
  pub version : (1 ≤ h.version) × (h.version ≤ 2)
  pub instructions : (1 ≤ h.instructions) × (h.instructions ≤ 2 ^ 36)
  pub unit : (16 ≤ h.unit) × (h.unit ≤ 10000)
  pub warm : h.warm ≤ 100000
  pub every : (1 ≤ h.every) × (h.every ≤ 1000000)
  pub offset : h.offset < h.every
  pub points : units_of (design_of h) h.instructions ≡ Ok h.points
  pub heap_low : (h.heap_low % 4096 ≡ 0) × (h.heap_low ≤ 0x70000000)
  pub seed : h.seed ≤ 10 ^ 18
  pub places : ArePlaces h.places
  pub few_kinds : (1 ≤ length h.kinds) × (length h.kinds ≤ 4)
  pub kinds : Follow IsNewKind [] h.kinds

abbrev pub IsTable : Bool → List (ℕ × ℕ) → Type 0
IsTable true shared = shared ≡ []
IsTable false shared = Follow (IsPair ranks) [] shared

-- a table that the bytes have room for
abbrev pub AreShared : Bool → List (ℕ × ℕ) → Type 0
AreShared true shared = shared ≡ []
AreShared false shared = (length shared ≤ 134217728) × Follow (IsPair ranks) [] shared

-- a pair that may stand among a point's own behind those before it
abbrev pub is_own : List (ℕ × ℕ) → List (ℕ × ℕ) → ℕ × ℕ → Bool
is_own shared before p = rises before p && is_none (place_in shared p)

-- a run begins above the end of the one before
abbrev pub begins : Option (ℕ × ℕ) → ℕ → Bool
begins None first = true
begins (Some run) first = nat_lt (run.0 + run.1) first

-- a run that may stand behind those before it, where a point has so many own words and at most so many in all
abbrev pub is_run : ℕ → ℕ → ℕ → List (ℕ × ℕ) → ℕ × ℕ → Bool
is_run most own size before run =
    nat_le 1 run.1
    && (begins (last_of before) run.0
    && (nat_le (run.0 + run.1) size
    && nat_le (own + sum_by (λ r. r.1) before + run.1) most))

-- own pairs and runs of a point that has at most so many words
pub record AreParts (most : ℕ) (shared : List (ℕ × ℕ)) (p : Parts) : Type 0 where
  pub few_own : length p.own ≤ most
  pub few_runs : length p.runs ≤ most
  pub own : Follow (IsPair (is_own shared)) [] p.own
  pub runs : Follow (IsPair (is_run most (length p.own) (length shared))) [] p.runs

-- a snapshot of this shape that a record of less than 2^63 references may have
pub record IsSnap (g : Shape) (s : Recency) : Type 0 where
  pub shape : s.shape ≡ g
  pub time : s.time < 2 ^ 63
  pub count : length s.sets ≡ sets_of g
  pub sound : sets_fault g s.time 0 s.sets ≡ None

pub record AreSnaps (shapes : Places Shape) (p : Places Recency) : Type 0 where
  pub l1i : IsSnap shapes.l1i p.l1i
  pub l1d : IsSnap shapes.l1d p.l1d
  pub l2 : IsSnap shapes.l2 p.l2
  pub itlb : IsSnap shapes.itlb p.itlb
  pub dtlb : IsSnap shapes.dtlb p.dtlb

-- the kind of the image at a place
abbrev pub kind_at : List PredictorKind → ℕ → PredictorKind
kind_at kinds k =
    slice_index_or kinds k (record { scheme = Bimodal; bits = 0; target_log = 0; depth = 0 })

-- an image of this kind, of numbers that fit their bytes
pub record IsImageOf (k : PredictorKind) (t : Tables) : Type 0 where
  pub kind : t.kind ≡ k
  pub image : IsImage t
  pub targets : All (λ (e : ℕ × ℕ). (e.0 < 2 ^ 32) × (e.1 < 2 ^ 32)) t.targets
  pub stack : All (λ address. address < 2 ^ 32) t.stack

-- one image a kind
pub record AreImages (kinds : List PredictorKind) (images : List Tables) : Type 0 where
  pub count : length images ≡ length kinds
  pub each : Follow (λ before. IsImageOf (kind_at kinds (length before))) [] images

-- a point that may stand behind this header as that of this unit
pub record IsPoint (h : Head) (wanted : ℕ) (p : Point) : Type 0 where
  pub unit : (p.unit ≡ wanted) × (p.unit < 2 ^ 32)
  pub pc : (p.pc % 4 ≡ 0) × (p.pc < 2 ^ 32)
  pub registers : p.regs ≡ 0 ∷ drop 1 p.regs
  pub count : length p.regs ≡ 32
  pub fit : All (λ n. n < 2 ^ 32) p.regs
  pub brk : (h.heap_low ≤ p.brk) × (p.brk ≤ h.heap_low + 67108864)
  pub words : AreWords p.words
  pub few : length p.words ≤ most_words h wanted
  pub places : AreSnaps h.places p.places
  pub images : AreImages h.kinds p.images

-- a library: as many points as the header says, each of the unit that the order of visits has there
pub record IsWhole (l : Whole) : Type 0 where
  pub header : IsHeader l.head
  pub table : IsTable (is_first l.head) l.shared
  pub count : length l.points ≡ l.head.points
  pub points : Follow (λ before. IsPoint l.head (unit_of l.head (length before))) [] l.points

-- one that is no longer than a library may be
pub record IsLibrary (l : Whole) : Type 0 where
  pub whole : IsWhole l
  pub short : length (spelling l) ≤ 1073741824
