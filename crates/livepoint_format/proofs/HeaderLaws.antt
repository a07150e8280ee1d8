-- Headers and tables: they are read exactly where their spelling stands.
use Rattle.std.proofs.Common.{◌≡◌, ℕ, ◌%◌, ◌^◌, ◌<◌, ◌≤◌, Bool, true, false, not, eqb, ltb, leb, cond, Result, Ok, Err, List, [], ◌∷◌, ◌++◌, length, refl, sym, ap, ◌∙◌, arith, inl, inr, eq-eqb, eqb-true, lt-ltb, ltb-true, ltb-false}
use Rattle.std.specs.Int.{Width, w8, w32, w64, to_le_bytes}
use Rattle.std.proofs.lemmas.Bool.{and_parts, leb-true, le-leb, cases_eq}
use Rattle.sample_design.specs.declared.design.Design.{Design}
use Rattle.sample_design.specs.declared.units.UnitsFault.{UnitsFault}
use Rattle.sample_design.specs.declared.units.UnitsFault.TheVariants.{NoUnits, TooMany}
use Rattle.sample_design.specs.Units.{units_of, unit_count, judged as units_judged}
use Rattle.lru_plain.specs.Shape.{Shape}
use Rattle.predictor.specs.declared.kind.PredictorKind.{PredictorKind}
use Rattle.predictor.specs.declared.kind.Scheme.{Scheme}
use Rattle.predictor.specs.declared.kind.Scheme.TheVariants.{Bimodal, Gshare}
use Rattle.predictor.specs.Kind.{IsKind}
use Rattle.hierarchy.specs.declared.places.Places.{Places}
use Rattle.hierarchy.specs.Config.{IsCacheShape, IsTlbShape, ArePlaces}
use Rattle.live_words.specs.Follow.{Follow}
use Rattle.live_words.specs.Words.{IsPair}
use Rattle.live_points.specs.Kinds.{is_among, may_join}
use Rattle.livepoint_format.specs.declared.fault.LibraryFault.{LibraryFault}
use Rattle.livepoint_format.specs.Reads.{IsBytes}
use Rattle.livepoint_format.specs.Reading.{Spot, judged, counted}
use Rattle.livepoint_format.specs.Values.{Head}
use Rattle.livepoint_format.specs.Format.{byte, word, long, pair, magic, geometry, scheme_number, kind, geometries, kinds_text, head, table, header, is_first, within, is_heap, design_of, IsNewKind, IsHeader, AreShared}
use Rattle.live_points.specs.Sharing.{ranks}
use Rattle.livepoint_format.specs.Decoding.{bad_field, field, pair_at, geometry_at, is_cache_line, is_page, geometries_at, scheme_of, kind_read, kind_after, kinds_count, is_count, counts, head_at, table_at, header_at}
use Rattle.livepoint_format.proofs.Spells.{Spells, built, built_by, built_last, finished, said_so, made, number_spells, judged_spells, demanded_spells, counted_spell, IsWide, wide8, wide32, wide64}

-- ---- fields

pub test_spells : (w : Width) (bound : ℕ) → IsWide w bound → (test : ℕ → Bool)
    → Spells (field w test) (to_le_bytes w) (λ n. (n < bound) × (test n ≡ true))
test_spells w bound wide test = judged_spells test bad_field (number_spells w bound wide)

-- a test that only numbers of this width pass
pub small_spells : (w : Width) (bound : ℕ) → IsWide w bound → (test : ℕ → Bool) → ((n : ℕ) → test n ≡ true → n < bound)
    → Spells (field w test) (to_le_bytes w) (λ n. test n ≡ true)
small_spells w bound wide test small =
    said_so (test_spells w bound wide test) (λ n i. i.1) (λ n i. (small n i, i)) (λ n i. refl)

pub within_of_test : (least most n : ℕ) → within least most n ≡ true → (least ≤ n) × (n ≤ most)
within_of_test least most n e =
    let both : (leb least n ≡ true) × (leb n most ≡ true) = and_parts _ _ e in
    (leb-true _ _ both.0, leb-true _ _ both.1)

pub test_of_within : (least most n : ℕ) → least ≤ n → n ≤ most → within least most n ≡ true
test_of_within least most n low high = rw (le-leb least n low, le-leb n most high) refl

pub within_spells : (w : Width) (bound : ℕ) → IsWide w bound → (least most : ℕ) → most < bound
    → Spells (field w (within least most)) (to_le_bytes w) (λ n. (least ≤ n) × (n ≤ most))
within_spells w bound wide least most small =
    said_so (test_spells w bound wide (within least most))
    (λ n i. within_of_test least most n i.1)
    (λ n i. (omega (arith, i.1), test_of_within least most n i.0 i.1))
    (λ n i. refl)

pub below_spells : (w : Width) (bound : ℕ) → IsWide w bound → (end : ℕ) → end ≤ bound
    → Spells (field w (λ n. ltb n end)) (to_le_bytes w) (λ n. n < end)
below_spells w bound wide end small =
    said_so (test_spells w bound wide (λ n. ltb n end))
    (λ n i. ltb-true _ _ i.1)
    (λ n i. (omega (arith, i), lt-ltb n end i))
    (λ n i. refl)

pub zero_is : (x : ℕ) → (0 ≤ x) × (x ≤ 0) → 0 ≡ x
zero_is x i = omega (arith, i.1)

pub pair_spells : Spells pair_at pair (λ p. (p.0 < 2 ^ 32) × (p.1 < 2 ^ 32))
unfolding pair_at pair word
pair_spells = finished
    (built (λ (p : ℕ × ℕ). p.0) (number_spells w32 (2 ^ 32) wide32) (λ x y i g. refl) λ first _.
    built_last (λ (p : ℕ × ℕ). p.1) (number_spells w32 (2 ^ 32) wide32) (λ x y i g. refl) λ second _.
    made (first, second))
    (λ p f e. (f.0, f.1.0))
    (λ p i. ((i.0, (i.1, tt)), refl))

-- a pair that a test lets pass
pub tested_pairs : (test : List (ℕ × ℕ) → ℕ × ℕ → Bool) (before : List (ℕ × ℕ)) (fault : ℕ → LibraryFault)
    → Spells (judged (test before) fault pair_at) pair (IsPair test before)
tested_pairs test before fault =
    said_so (judged_spells (test before) fault pair_spells)
    (λ p i. record { addr = i.0.0; value = i.0.1; passes = i.1 })
    (λ p i. ((i.addr, i.value), i.passes))
    (λ p i. refl)

-- ---- geometries

record IsGeometry (is_line : ℕ → Bool) (g : Shape) : Type 0 where
  line : is_line g.line_log ≡ true
  sets : (0 ≤ g.sets_log) × (g.sets_log ≤ 12)
  ways : (1 ≤ g.ways) × (g.ways ≤ 16)

geometry_spells : (is_line : ℕ → Bool) → ((n : ℕ) → is_line n ≡ true → n < 256) → Spells (geometry_at is_line) geometry (IsGeometry is_line)
unfolding geometry_at geometry byte
geometry_spells is_line small = finished
    (built (λ (g : Shape). g.line_log) (small_spells w8 256 wide8 is_line small) (λ x y i g. refl) λ line_log _.
    built (λ (g : Shape). g.sets_log) (within_spells w8 256 wide8 0 12 (omega arith)) (λ x y i g. refl) λ sets_log _.
    built (λ (g : Shape). g.ways) (within_spells w8 256 wide8 1 16 (omega arith)) (λ x y i g. refl) λ ways _.
    built_last (λ (g : Shape). 0) (within_spells w8 256 wide8 0 0 (omega arith)) (λ x y i g. zero_is x i) λ nothing _.
    made (record { line_log = line_log; sets_log = sets_log; ways = ways }))
    (λ g f e. record { line = f.0; sets = f.1.0; ways = f.1.1.0 })
    (λ g i. ((i.line, (i.sets, (i.ways, ((omega arith, omega arith), tt)))), refl))

cache_spells : Spells (geometry_at is_cache_line) geometry IsCacheShape
cache_spells =
    said_so (geometry_spells is_cache_line (λ n e. let i : (4 ≤ n) × (n ≤ 8) = within_of_test 4 8 n e in omega (arith, i.1)))
    (λ g i.
    let line : (4 ≤ g.line_log) × (g.line_log ≤ 8) = within_of_test 4 8 g.line_log i.line in
    record { shape = record { line = inl line; sets = i.sets.1; least = i.ways.0; most = i.ways.1 }; line = line.1 })
    (λ g i. record {
      line = elim i.shape.line [
        | inl in_range ↦ test_of_within 4 8 g.line_log in_range.0 in_range.1
        | inr page ↦ absurd (let h : g.line_log ≤ 8 = i.line in omega arith)
      ];
      sets = (omega arith, i.shape.sets);
      ways = (i.shape.least, i.shape.most);
    })
    (λ g i. refl)

tlb_spells : Spells (geometry_at is_page) geometry IsTlbShape
tlb_spells =
    said_so (geometry_spells is_page (λ n e. let i : (12 ≤ n) × (n ≤ 12) = within_of_test 12 12 n e in omega (arith, i.1)))
    (λ g i.
    let line : (12 ≤ g.line_log) × (g.line_log ≤ 12) = within_of_test 12 12 g.line_log i.line in
    let page : g.line_log ≡ 12 = omega (arith, line.0, line.1) in
    record { shape = record { line = inr page; sets = i.sets.1; least = i.ways.0; most = i.ways.1 }; page = page })
    (λ g i. record {
      line = test_of_within 12 12 g.line_log (let h : g.line_log ≡ 12 = i.page in omega arith) (let h : g.line_log ≡ 12 = i.page in omega arith);
      sets = (omega arith, i.shape.sets);
      ways = (i.shape.least, i.shape.most);
    })
    (λ g i. refl)

geometries_spell : Spells geometries_at geometries ArePlaces
unfolding geometries_at geometries
geometries_spell = finished
    (built (λ (p : Places Shape). p.l1i) cache_spells (λ x y i g. refl) λ l1i _.
    built (λ (p : Places Shape). p.l1d) cache_spells (λ x y i g. refl) λ l1d _.
    built (λ (p : Places Shape). p.l2) cache_spells (λ x y i g. refl) λ l2 _.
    built (λ (p : Places Shape). p.itlb) tlb_spells (λ x y i g. refl) λ itlb _.
    built_last (λ (p : Places Shape). p.dtlb) tlb_spells (λ x y i g. refl) λ dtlb _.
    made (record { l1i = l1i; l1d = l1d; l2 = l2; itlb = itlb; dtlb = dtlb }))
    (λ p f e. record { l1i = f.0; l1d = f.1.0; l2 = f.1.1.0; itlb = f.1.1.1.0; dtlb = f.1.1.1.1.0 })
    (λ p i. ((i.l1i, (i.l1d, (i.l2, (i.itlb, (i.dtlb, tt))))), refl))

-- ---- kinds

scheme_again : (n : ℕ) → (0 ≤ n) × (n ≤ 1) → scheme_number (scheme_of n) ≡ n
scheme_again n i =
    elim (cases_eq n 0) [
      | inl zero ↦ rw zero refl
      | inr other ↦
          let one : n ≡ 1 = omega (arith, i.1) in
          rw one refl
    ]

number_again : (s : Scheme) → s ≡ scheme_of (scheme_number s)
number_again Bimodal = refl
number_again Gshare = refl

scheme_small : (s : Scheme) → (0 ≤ scheme_number s) × (scheme_number s ≤ 1)
scheme_small Bimodal = (omega arith, omega arith)
scheme_small Gshare = (omega arith, omega arith)

kind_spells : Spells kind_read kind IsKind
unfolding kind_read kind byte
kind_spells = finished
    (built (λ (k : PredictorKind). scheme_number k.scheme) (within_spells w8 256 wide8 0 1 (omega arith)) (λ x y i g. scheme_again x i) λ scheme _.
    built (λ (k : PredictorKind). k.bits) (within_spells w8 256 wide8 4 14 (omega arith)) (λ x y i g. refl) λ bits _.
    built (λ (k : PredictorKind). k.target_log) (within_spells w8 256 wide8 2 10 (omega arith)) (λ x y i g. refl) λ target_log _.
    built_last (λ (k : PredictorKind). k.depth) (within_spells w8 256 wide8 0 16 (omega arith)) (λ x y i g. refl) λ depth _.
    made (record { scheme = scheme_of scheme; bits = bits; target_log = target_log; depth = depth }))
    (λ k f e. record {
      least_bits = f.1.0.0;
      most_bits = f.1.0.1;
      least_target_log = f.1.1.0.0;
      most_target_log = f.1.1.0.1;
      most_depth = f.1.1.1.0.1;
    })
    (λ k i. (
      (scheme_small k.scheme, ((i.least_bits, i.most_bits), ((i.least_target_log, i.most_target_log), ((omega arith, i.most_depth), tt)))),
      ap (λ (s : Scheme). let r : PredictorKind = record { scheme = s; bits = k.bits; target_log = k.target_log; depth = k.depth } in r) (number_again k.scheme),
    ))

new_kind_spells : (before : List PredictorKind) → Spells (kind_after before) kind (IsNewKind before)
new_kind_spells before =
    said_so (judged_spells (λ k. not (is_among k before)) bad_field kind_spells)
    (λ k i. record { kind = i.0; new = turned _ i.1 })
    (λ k i. (i.kind, ap not i.new))
    (λ k i. refl)
  where
    turned : (b : Bool) → not b ≡ true → b ≡ false
    turned true e = absurd cc
    turned false e = refl

abbrev count_text : ℕ → List ℕ
count_text n = byte n ++ (byte 0 ++ (byte 0 ++ byte 0))

kinds_count_spells : Spells kinds_count count_text (λ n. (1 ≤ n) × (n ≤ 4))
unfolding kinds_count byte
kinds_count_spells = finished
    (built (λ (n : ℕ). n) (within_spells w8 256 wide8 1 4 (omega arith)) (λ x y i g. refl) λ count _.
    built (λ (n : ℕ). 0) (within_spells w8 256 wide8 0 0 (omega arith)) (λ x y i g. zero_is x i) λ first _.
    built (λ (n : ℕ). 0) (within_spells w8 256 wide8 0 0 (omega arith)) (λ x y i g. zero_is x i) λ second _.
    built_last (λ (n : ℕ). 0) (within_spells w8 256 wide8 0 0 (omega arith)) (λ x y i g. zero_is x i) λ third _.
    made count)
    (λ n f e. f.0)
    (λ n i. ((i, ((omega arith, omega arith), ((omega arith, omega arith), ((omega arith, omega arith), tt)))), refl))

kinds_spell : Spells (counted kinds_count kind_after) kinds_text (λ ks. ((1 ≤ length ks) × (length ks ≤ 4)) × Follow IsNewKind [] ks)
unfolding kinds_text
kinds_spell = counted_spell new_kind_spells kinds_count_spells

-- ---- the header

heap_is : (n : ℕ) → is_heap n ≡ true → (n % 4096 ≡ 0) × (n ≤ 0x70000000)
heap_is n e =
    let both : (eqb (n % 4096) 0 ≡ true) × (leb n 0x70000000 ≡ true) = and_parts _ _ e in
    (eqb-true _ _ both.0, leb-true _ _ both.1)

is_heap_of : (n : ℕ) → n % 4096 ≡ 0 → n ≤ 0x70000000 → is_heap n ≡ true
is_heap_of n aligned low = rw (eq-eqb (n % 4096) 0 aligned, le-leb n 0x70000000 low) refl

heap_spells : Spells (field w32 is_heap) (to_le_bytes w32) (λ n. (n % 4096 ≡ 0) × (n ≤ 0x70000000))
heap_spells =
    said_so (test_spells w32 (2 ^ 32) wide32 is_heap)
    (λ n i. heap_is n i.1)
    (λ n i. (omega (arith, i.1), is_heap_of n i.0 i.1))
    (λ n i. refl)

count_is : (r : Result ℕ UnitsFault) (points : ℕ) → is_count r points ≡ true → r ≡ Ok points
count_is (Ok n) points e = ap Ok (eqb-true n points e)
count_is (Err fault) points e = absurd cc

is_count_of : (r : Result ℕ UnitsFault) (points : ℕ) → r ≡ Ok points → is_count r points ≡ true
is_count_of r points e = rw e (eq-eqb points points refl)

-- warming and seed don't change the number of units
units_unseeded : (h : Head) → units_of (record { unit = h.unit; warm = 0; every = h.every; offset = h.offset; seed = 0; budget = 1 }) h.instructions
    ≡ units_of (design_of h) h.instructions
unfolding units_of unit_count
units_unseeded h = refl

units_few : (instructions count points : ℕ) → units_judged instructions count ≡ Ok points → points ≤ 65536
units_few instructions count points e = go (eqb count 0) (ltb 65536 count) refl e
  where
    same : Ok count ≡ (let r : Result ℕ UnitsFault = Ok points in r) → count ≡ points
    same e = cc

    go : (a b : Bool) → ltb 65536 count ≡ b → cond a (Err (NoUnits instructions)) (cond b (Err (TooMany count)) (let r : Result ℕ UnitsFault = Ok count in r)) ≡ Ok points → points ≤ 65536
    go true b test e = absurd cc
    go false true test e = absurd cc
    go false false test e = let k : count ≡ points = same e in let h : count ≤ 65536 = ltb-false _ _ test in omega arith

pub points_few : (design : Design) (instructions points : ℕ) → units_of design instructions ≡ Ok points → points ≤ 65536
unfolding units_of
points_few design instructions points e = units_few instructions (unit_count design instructions) points e

pub head_spells : Spells head_at head IsHeader
unfolding head_at head word long
head_spells = finished
    (built (λ (h : Head). magic) (judged_spells (λ n. eqb n magic) _ (number_spells w32 (2 ^ 32) wide32)) (λ x y i g. sym (eqb-true _ _ i.1)) λ letters _.
    built (λ (h : Head). h.version) (judged_spells (within 1 2) _ (number_spells w32 (2 ^ 32) wide32)) (λ x y i g. refl) λ version _.
    built (λ (h : Head). h.instructions) (within_spells w64 (2 ^ 64) wide64 1 (2 ^ 36) (omega arith)) (λ x y i g. refl) λ instructions _.
    built (λ (h : Head). h.points) (number_spells w32 (2 ^ 32) wide32) (λ x y i g. refl) λ points _.
    built (λ (h : Head). h.unit) (within_spells w32 (2 ^ 32) wide32 16 10000 (omega arith)) (λ x y i g. refl) λ unit _.
    built (λ (h : Head). h.warm) (within_spells w32 (2 ^ 32) wide32 0 100000 (omega arith)) (λ x y i g. refl) λ warm _.
    built (λ (h : Head). h.every) (within_spells w32 (2 ^ 32) wide32 1 1000000 (omega arith)) (λ x y i g. refl) λ every every_in.
    built (λ (h : Head). h.offset) (below_spells w32 (2 ^ 32) wide32 every (omega (arith, every_in.1))) (λ x y i g. refl) λ offset _.
    built (λ (h : Head). tt) (demanded_spells (counts points instructions unit every offset) _) (λ x y i g. refl) λ tested _.
    built (λ (h : Head). h.heap_low) heap_spells (λ x y i g. refl) λ heap_low _.
    built (λ (h : Head). h.seed) (within_spells w64 (2 ^ 64) wide64 0 (10 ^ 18) (omega arith)) (λ x y i g. refl) λ seed _.
    built (λ (h : Head). h.places) geometries_spell (λ x y i g. refl) λ places _.
    built_last (λ (h : Head). h.kinds) kinds_spell (λ x y i g. refl) λ kinds _.
    made (record {
      version = version;
      instructions = instructions;
      points = points;
      unit = unit;
      warm = warm;
      every = every;
      offset = offset;
      heap_low = heap_low;
      seed = seed;
      places = places;
      kinds = kinds;
    }))
    (λ h (m, (v, (n, (p, (u, (w, (e, (o, (c, (l, (s, (g, (k, end))))))))))))) same. record {
      version = within_of_test 1 2 h.version v.1;
      instructions = n;
      unit = u;
      warm = w.1;
      every = e;
      offset = o;
      points = sym (units_unseeded h) ∙ count_is _ h.points c;
      heap_low = l;
      seed = s.1;
      places = g;
      few_kinds = k.0;
      kinds = k.1;
    })
    (λ h i. (
      (
        (omega arith, eq-eqb magic magic refl),
        (
          (omega (arith, i.version.1), test_of_within 1 2 h.version i.version.0 i.version.1),
          (
            i.instructions,
            (
              omega (arith, points_few (design_of h) h.instructions h.points i.points),
              (
                i.unit,
                (
                  (omega arith, i.warm),
                  (
                    i.every,
                    (
                      i.offset,
                      (
                        is_count_of _ h.points (units_unseeded h ∙ i.points),
                        (
                          i.heap_low,
                          (
                            (omega arith, i.seed),
                            (
                              i.places,
                              (
                                (i.few_kinds, i.kinds),
                                tt,
                              ),
                            ),
                          ),
                        ),
                      ),
                    ),
                  ),
                ),
              ),
            ),
          ),
        ),
      ),
      refl,
    ))

-- ---- the table

pub table_spells : (first : Bool) → Spells (table_at first) (table first) (AreShared first)
unfolding table_at table word
table_spells true = finished (made []) (λ s i e. e) (λ s i. (tt, i))
table_spells false =
    said_so (counted_spell (λ before. tested_pairs ranks before _) (within_spells w32 (2 ^ 32) wide32 0 134217728 (omega arith)))
    (λ s i. (i.0.1, i.1))
    (λ s i. ((omega arith, i.0), i.1))
    (λ s i. refl)

-- a header and its table
pub record IsFront (f : Head × List (ℕ × ℕ)) : Type 0 where
  pub header : IsHeader f.0
  pub shared : AreShared (is_first f.0) f.1

pub header_spells : Spells header_at (λ f. header f.0 f.1) IsFront
unfolding header_at header
header_spells = finished
    (built_by (λ (f : Head × List (ℕ × ℕ)). f.0) head_spells (λ x y i g. refl) λ h _.
    built_last (λ (f : Head × List (ℕ × ℕ)). f.1) (table_spells (is_first h)) (λ x y i g. refl) λ shared _.
    made (h, shared))
    (λ f i e. record { header = i.0; shared = i.1.0 })
    (λ f i. ((i.header, (i.shared, tt)), refl))

pub ranked_of_shared : (first : Bool) (shared : List (ℕ × ℕ)) → AreShared first shared → Follow (IsPair ranks) [] shared
ranked_of_shared true shared are = rw are tt
ranked_of_shared false shared are = are.1

pub few_of_shared : (first : Bool) (shared : List (ℕ × ℕ)) → AreShared first shared → length shared < 2 ^ 32
few_of_shared true shared are = rw are (omega arith)
few_of_shared false shared are = omega (arith, are.0)

-- a table that was read
pub shared_of_read : (first : Bool) (at : Spot) (shared : List (ℕ × ℕ)) (after : Spot) → IsBytes at.rest → table_at first at ≡ Ok (shared, after)
    → AreShared first shared
shared_of_read first at shared after bytes read = ((table_spells first).takes at shared after bytes read).is_in

-- a new kind joins others where there is room
pub joins : (kind : PredictorKind) (kinds after : List PredictorKind) (added : Bool) → length kinds < 4 → is_among kind kinds ≡ false
    → added ≡ may_join kind kinds → after ≡ cond added (kinds ++ kind ∷ []) kinds → after ≡ kinds ++ kind ∷ []
joins kind kinds after added few new is same =
    let joined : added ≡ true = is ∙ rw (lt-ltb (length kinds) 4 few, new) refl in
    same ∙ rw joined refl
