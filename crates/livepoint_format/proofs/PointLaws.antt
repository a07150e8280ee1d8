-- Records, images, words and points: they are read exactly where their spelling stands.
use Rattle.std.proofs.Common.{◌≡◌, ℕ, zero, suc, ◌+◌, ◌-◌, ◌*◌, ◌%◌, ◌^◌, ◌<◌, ◌≤◌, Bool, true, false, not, eqb, ltb, leb, Option, Some, None, List, [], ◌∷◌, ◌++◌, length, drop, take, get_or, All, refl, sym, ap, subst, ◌∙◌, arith, inl, inr, eq-eqb, eqb-true, ltb-true, length-append, length-take-le}
use Rattle.std.specs.Prelude.{flat_map}
use Rattle.std.specs.Int.{w8, w32, w64}
use Rattle.std.specs.Option.{option_or}
use Rattle.std.proofs.lemmas.Bool.{and_parts, leb-true, le-leb, cases_lt}
use Rattle.std.proofs.lemmas.List.Elements.{All-from_get_or, All-get_or}
use Rattle.std.proofs.Math.Nat.{pow-le-pow_right}
use Rattle.lru_plain.specs.Shape.{Shape, IsShape, sets_of}
use Rattle.predictor.specs.declared.kind.PredictorKind.{PredictorKind}
use Rattle.predictor.specs.Kind.{IsKind}
use Rattle.predictor.specs.Tables.{Tables, no_target}
use Rattle.predictor.specs.Parts.{is_counter, is_history, is_instruction, is_source, is_target, is_entry}
use Rattle.predictor.proofs.Faults.{history_below}
use Rattle.recency_record.specs.declared.entry.Entry.{Entry}
use Rattle.recency_record.specs.Recency.{Recency}
use Rattle.recency_record.specs.Faults.{belongs, entry_fault, entries_fault, set_fault, sets_fault}
use Rattle.recency_record.proofs.Judgements.{Passes, passes, passed}
use Rattle.recency_record.proofs.FirstFaults.{too_many, not_too_many}
use Rattle.hierarchy.specs.declared.places.Places.{Places}
use Rattle.hierarchy.specs.Config.{ArePlaces}
use Rattle.live_words.specs.Follow.{Follow}
use Rattle.live_words.specs.Words.{rises, IsPair, AreWords}
use Rattle.live_words.proofs.FollowLemmas.{follow_at, follow_by}
use Rattle.livepoint_format.specs.declared.entries.Which.{Which}
use Rattle.livepoint_format.specs.Reading.{number, items}
use Rattle.livepoint_format.specs.Values.{Head, Point}
use Rattle.livepoint_format.specs.Shared.{Parts, parts_of, words_of}
use Rattle.livepoint_format.specs.Format.{byte, word, long, pair, parts_text, words_text, entry, set, snapshot, snapshots, image, point, is_first, most_words, IsHeader, AreShared, is_own, is_run, AreParts, IsSnap, AreSnaps, kind_at, IsImageOf, AreImages, IsPoint, IsNewKind}
use Rattle.livepoint_format.specs.Decoding.{parts_at, merged_at, words_at, entry_after, set_at, set_after, snapshot_at, snapshots_at, target_after, counter_after, address_after, image_at, image_after, register_after, registers_count, point_at}
use Rattle.livepoint_format.proofs.Spells.{Spells, built, built_last, finished, said_so, made, number_spells, judged_spells, items_spell, few_items_spell, counted_spell, wide8, wide32, wide64}
use Rattle.livepoint_format.proofs.Follows.{follow_weaker, all_of_follow, follow_of_all}
use Rattle.livepoint_format.proofs.Parts.{words_apart, words_again, parts_are, parts_again, words_are, words_few}
use Rattle.livepoint_format.proofs.HeaderLaws.{test_spells, small_spells, within_spells, below_spells, tested_pairs}

turned : (b : Bool) → not b ≡ true → b ≡ false
turned true e = absurd cc
turned false e = refl

-- ---- records

abbrev IsNextEntry : Shape → ℕ → ℕ → List Entry → Entry → Type 0
IsNextEntry g limit number before e = entry_fault g limit number before e ≡ None

below_line : (n line : ℕ) → n < 2 ^ (32 - line) → n < 2 ^ 32
below_line n line h =
    let most : 2 ^ (32 - line) ≤ 2 ^ 32 = pow-le-pow_right {n = 2} (omega arith) (let k : 32 - line ≤ 32 = omega arith in k) in
    omega arith

pub entry_spells : (which : Which) (limit number : ℕ) → limit < 2 ^ 63 → (before : List Entry)
    → Spells (entry_after which limit number before) entry (IsNextEntry which.shape limit number before)
unfolding entry_after entry word long
entry_spells which limit number small before = finished
    (built (λ (e : Entry). e.block) (judged_spells _ _ (judged_spells (belongs which.shape number) _ (number_spells w32 (2 ^ 32) wide32))) (λ x y i g. refl) λ block _.
    built_last (λ (e : Entry). e.time) (judged_spells _ _ (judged_spells (λ t. ltb t limit) _ (number_spells w64 (2 ^ 64) wide64))) (λ x y i g. refl) λ time _.
    made (record { block = block; time = time }))
    (λ e f same. passed which.shape limit number before e
    (record { home = f.0.0.1; new = turned _ f.0.1; early = f.1.0.0.1; falls = turned _ f.1.0.1 }))
    (λ e i.
    let p : Passes which.shape limit number before e = passes which.shape limit number before e i in
    let home : (ltb e.block (2 ^ (32 - which.shape.line_log)) ≡ true) × _ = and_parts _ _ p.home in
    let early : e.time < limit = ltb-true _ _ p.early in (
      (
        ((below_line e.block which.shape.line_log (ltb-true _ _ home.0), p.home), ap not p.new),
        (((omega arith, p.early), ap not p.falls), tt),
      ),
      refl,
    ))

neither : {A : Type 0} (a b : Option A) → option_or a b ≡ None → (a ≡ None) × (b ≡ None)
neither None b h = (refl, h)
neither {A} (Some x) b h = absurd (let e : Some x ≡ (let n : Option A = None in n) = h in cc)

entries_of_follow : (g : Shape) (limit number : ℕ) (before es : List Entry) → Follow (IsNextEntry g limit number) before es
    → entries_fault g limit number before es ≡ None
unfolding entries_fault
entries_of_follow g limit number before [] follow = refl
entries_of_follow g limit number before (e ∷ es) follow =
    rw follow.0 (entries_of_follow g limit number (before ++ e ∷ []) es follow.1)

follow_of_entries : (g : Shape) (limit number : ℕ) (before es : List Entry) → entries_fault g limit number before es ≡ None
    → Follow (IsNextEntry g limit number) before es
unfolding entries_fault
follow_of_entries g limit number before [] none = tt
follow_of_entries g limit number before (e ∷ es) none =
    let both : (entry_fault g limit number before e ≡ None) × (entries_fault g limit number (before ++ e ∷ []) es ≡ None) = neither _ _ none in
    (both.0, follow_of_entries g limit number (before ++ e ∷ []) es both.1)

abbrev IsNextSet : Shape → ℕ → List (List Entry) → List Entry → Type 0
IsNextSet g limit before es = set_fault g limit (length before) es ≡ None

set_few : (g : Shape) (limit number : ℕ) (es : List Entry) → set_fault g limit number es ≡ None → length es ≤ g.ways
set_few g limit number es none =
    elim (cases_lt g.ways (length es)) [
      | inl many ↦ absurd (let e = sym none ∙ too_many g limit number es many in cc)
      | inr few ↦ few
    ]

pub set_spells : (which : Which) → IsShape which.shape → (limit : ℕ) → limit < 2 ^ 63 → (before : List (List Entry))
    → Spells (set_after which limit before) set (IsNextSet which.shape limit before)
unfolding set_at set byte
set_spells which shape limit small before =
    said_so (counted_spell (entry_spells which limit (length before) small)
    (judged_spells (λ n. leb n which.shape.ways) _ (number_spells w8 256 wide8)))
    (λ es i.
    not_too_many which.shape limit (length before) es (leb-true _ _ i.0.1)
    ∙ entries_of_follow which.shape limit (length before) [] es i.1)
    (λ es i.
    let few : length es ≤ which.shape.ways = set_few which.shape limit (length before) es i in (
      (omega (arith, few, shape.most), le-leb (length es) which.shape.ways few),
      follow_of_entries which.shape limit (length before) [] es (sym (not_too_many which.shape limit (length before) es few) ∙ i),
    ))
    (λ es i. refl)

push_long : {A : Type 0} (before : List A) (x : A) → length (before ++ x ∷ []) ≡ length before + 1
push_long before x = length-append before (x ∷ [])

pub sets_of_follow : (g : Shape) (limit : ℕ) (before sets : List (List Entry)) → Follow (IsNextSet g limit) before sets
    → sets_fault g limit (length before) sets ≡ None
unfolding sets_fault
sets_of_follow g limit before [] follow = refl
sets_of_follow g limit before (es ∷ sets) follow =
    rw (follow.0, ← push_long before es) (sets_of_follow g limit (before ++ es ∷ []) sets follow.1)

follow_of_sets : (g : Shape) (limit : ℕ) (before sets : List (List Entry)) → sets_fault g limit (length before) sets ≡ None
    → Follow (IsNextSet g limit) before sets
unfolding sets_fault
follow_of_sets g limit before [] none = tt
follow_of_sets g limit before (es ∷ sets) none =
    let both : (set_fault g limit (length before) es ≡ None) × (sets_fault g limit (length before + 1) sets ≡ None) = neither _ _ none in
    (both.0, follow_of_sets g limit (before ++ es ∷ []) sets (rw (push_long before es) both.1))

pub snapshot_spells : (which : Which) → IsShape which.shape → Spells (snapshot_at which) snapshot (IsSnap which.shape)
unfolding snapshot_at snapshot long
snapshot_spells which shape = finished
    (built (λ (r : Recency). r.time) (below_spells w64 (2 ^ 64) wide64 (2 ^ 63) (omega arith)) (λ x y i g. refl) λ time small.
    built_last (λ (r : Recency). r.sets) (items_spell (set_spells which shape time small) (sets_of which.shape)) (λ x y i g. refl) λ sets _.
    made (record { shape = which.shape; time = time; sets = sets }))
    (λ r f same. record {
      shape = ap (λ (s : Recency). s.shape) same;
      time = f.0;
      count = f.1.0.0;
      sound = sets_of_follow which.shape r.time [] r.sets f.1.0.1;
    })
    (λ r i. (
      (i.time, ((i.count, follow_of_sets which.shape r.time [] r.sets i.sound), tt)),
      ap (λ (g : Shape). let s : Recency = record { shape = g; time = r.time; sets = r.sets } in s) i.shape,
    ))

pub snapshots_spell : (number : ℕ) (shapes : Places Shape) → ArePlaces shapes → Spells (snapshots_at number shapes) snapshots (AreSnaps shapes)
unfolding snapshots_at snapshots
snapshots_spell number shapes are = finished
    (built (λ (p : Places Recency). p.l1i) (snapshot_spells _ are.l1i.shape) (λ x y i g. refl) λ l1i _.
    built (λ (p : Places Recency). p.l1d) (snapshot_spells _ are.l1d.shape) (λ x y i g. refl) λ l1d _.
    built (λ (p : Places Recency). p.l2) (snapshot_spells _ are.l2.shape) (λ x y i g. refl) λ l2 _.
    built (λ (p : Places Recency). p.itlb) (snapshot_spells _ are.itlb.shape) (λ x y i g. refl) λ itlb _.
    built_last (λ (p : Places Recency). p.dtlb) (snapshot_spells _ are.dtlb.shape) (λ x y i g. refl) λ dtlb _.
    made (record { l1i = l1i; l1d = l1d; l2 = l2; itlb = itlb; dtlb = dtlb }))
    (λ p f e. record { l1i = f.0; l1d = f.1.0; l2 = f.1.1.0; itlb = f.1.1.1.0; dtlb = f.1.1.1.1.0 })
    (λ p i. ((i.l1i, (i.l1d, (i.l2, (i.itlb, (i.dtlb, tt))))), refl))

-- ---- images

pub counter_spells : (before : List ℕ) → Spells (counter_after before) byte (λ n. is_counter n ≡ true)
unfolding byte
counter_spells before = small_spells w8 256 wide8 is_counter (λ n e. let h : n ≤ 3 = leb-true _ _ e in omega arith)

abbrev IsAddress : ℕ → Type 0
IsAddress n = (n < 2 ^ 32) × (is_instruction n ≡ true)

address_spells : (before : List ℕ) → Spells (address_after before) word IsAddress
unfolding word
address_spells before = test_spells w32 (2 ^ 32) wide32 is_instruction

-- an entry of the target table passes its test behind those before it
abbrev stands_at : PredictorKind → List (ℕ × ℕ) → ℕ × ℕ → Bool
stands_at kind before e = is_entry kind (length before) e

target_spells : (kind : PredictorKind) (before : List (ℕ × ℕ)) → Spells (target_after kind before) pair (IsPair (stands_at kind) before)
unfolding target_after pair word
target_spells kind before = finished
    (built (λ (e : ℕ × ℕ). e.0) (test_spells w32 (2 ^ 32) wide32 (is_source kind (length before))) (λ x y i g. refl) λ pc _.
    built_last (λ (e : ℕ × ℕ). e.1) (test_spells w32 (2 ^ 32) wide32 (is_target pc)) (λ x y i g. refl) λ target _.
    made (pc, target))
    (λ e f same. record { addr = f.0.0; value = f.1.0.0; passes = rw (f.0.1, f.1.0.1) refl })
    (λ e i.
    let both : (is_source kind (length before) e.0 ≡ true) × (is_target e.0 e.1 ≡ true) = and_parts _ _ i.passes in
    (((i.addr, both.0), ((i.value, both.1), tt)), refl))

history_small : (kind : PredictorKind) → IsKind kind → (n : ℕ) → is_history kind n ≡ true → n < 2 ^ 32
history_small kind is n e =
    let below : n < 2 ^ kind.bits = history_below kind.scheme kind.bits n e in
    let most : 2 ^ kind.bits ≤ 2 ^ 14 = pow-le-pow_right {n = 2} (omega arith) is.most_bits in
    omega arith

abbrev Fits : ℕ × ℕ → Type 0
Fits e = (e.0 < 2 ^ 32) × (e.1 < 2 ^ 32)

targets_fit : (kind : PredictorKind) (ts : List (ℕ × ℕ)) → Follow (IsPair (stands_at kind)) [] ts → All Fits ts
targets_fit kind ts follow =
    All-from_get_or Fits ts no_target
    (λ i h. let p : IsPair (stands_at kind) (take i ts) (get_or ts i no_target) = follow_at (IsPair (stands_at kind)) [] ts i no_target follow h in (p.addr, p.value))

taken_long : (ts : List (ℕ × ℕ)) (i : ℕ) → i < length ts → length (take i ts) ≡ i
taken_long ts i h = length-take-le i ts (omega arith)

targets_stand : (kind : PredictorKind) (ts : List (ℕ × ℕ)) → Follow (IsPair (stands_at kind)) [] ts
    → (i : ℕ) → i < length ts → is_entry kind i (get_or ts i no_target) ≡ true
targets_stand kind ts follow i h =
    let p : IsPair (stands_at kind) (take i ts) (get_or ts i no_target) = follow_at (IsPair (stands_at kind)) [] ts i no_target follow h in
    subst (λ (n : ℕ). is_entry kind n (get_or ts i no_target) ≡ true) (taken_long ts i h) p.passes

follow_of_targets : (kind : PredictorKind) (ts : List (ℕ × ℕ)) → All Fits ts
    → ((i : ℕ) → i < length ts → is_entry kind i (get_or ts i no_target) ≡ true) → Follow (IsPair (stands_at kind)) [] ts
follow_of_targets kind ts fit each =
    follow_by (IsPair (stands_at kind)) [] ts no_target
    (λ i h.
    let f : Fits (get_or ts i no_target) = All-get_or Fits ts i no_target h fit in
    record {
      addr = f.0;
      value = f.1;
      passes = subst (λ (n : ℕ). is_entry kind n (get_or ts i no_target) ≡ true) (sym (taken_long ts i h)) (each i h);
    })

pub image_spells : (kind : PredictorKind) → IsKind kind → Spells (image_at kind) image (IsImageOf kind)
unfolding image_at image byte word
image_spells kind is = finished
    (built (λ (t : Tables). t.counters) (items_spell counter_spells (2 ^ kind.bits)) (λ x y i g. refl) λ counters _.
    built (λ (t : Tables). t.history) (small_spells w32 (2 ^ 32) wide32 (is_history kind) (history_small kind is)) (λ x y i g. refl) λ history _.
    built (λ (t : Tables). t.targets) (items_spell (target_spells kind) (2 ^ kind.target_log)) (λ x y i g. refl) λ targets _.
    built_last (λ (t : Tables). t.stack) (counted_spell address_spells (within_spells w8 256 wide8 0 kind.depth (omega (arith, is.most_depth)))) (λ x y i g. refl) λ stack _.
    made (record { kind = kind; counters = counters; history = history; targets = targets; stack = stack }))
    (λ t (c, (h, (g, (s, end)))) same.
    let same_kind : t.kind ≡ kind = ap (λ (t : Tables). t.kind) same in
    record {
      kind = same_kind;
      image = record {
        tables = record {
          kind = rw same_kind is;
          counters = rw same_kind c.0;
          history = rw same_kind (history_below kind.scheme kind.bits t.history h);
          targets = rw same_kind g.0;
          stack = rw same_kind s.0.1;
        };
        ranges = record {
          counters = all_of_follow (λ n. is_counter n ≡ true) [] t.counters 0 c.1;
          history = rw same_kind h;
          targets = rw same_kind (targets_stand kind t.targets g.1);
          stack = all_of_follow (λ n. is_instruction n ≡ true) [] t.stack 0 (follow_weaker (λ b. IsAddress) (λ b n. is_instruction n ≡ true) (λ b n a. a.1) [] t.stack s.1);
        };
      };
      targets = targets_fit kind t.targets g.1;
      stack = all_of_follow (λ n. n < 2 ^ 32) [] t.stack 0 (follow_weaker (λ b. IsAddress) (λ b n. n < 2 ^ 32) (λ b n a. a.0) [] t.stack s.1);
    })
    (λ t i.
    let tables = rw i.kind at i.image.tables.counters in (
      (
        (rw i.kind at i.image.tables.counters, follow_of_all (λ n. is_counter n ≡ true) [] t.counters 0 i.image.ranges.counters),
        (
          rw i.kind at i.image.ranges.history,
          (
            (rw i.kind at i.image.tables.targets, follow_of_targets kind t.targets i.targets (rw i.kind at i.image.ranges.targets)),
            (
              (
                (omega arith, rw i.kind at i.image.tables.stack),
                follow_of_all IsAddress [] t.stack 0
                    (All-from_get_or IsAddress t.stack 0 (λ k h. (All-get_or (λ n. n < 2 ^ 32) t.stack k 0 h i.stack, All-get_or (λ n. is_instruction n ≡ true) t.stack k 0 h i.image.ranges.stack))),
              ),
              tt,
            ),
          ),
        ),
      ),
      ap (λ (k : PredictorKind). let u : Tables = record { kind = k; counters = t.counters; history = t.history; targets = t.targets; stack = t.stack } in u) i.kind,
    ))

pub kind_is : (kinds : List PredictorKind) → Follow IsNewKind [] kinds → (i : ℕ) → i < length kinds → IsKind (kind_at kinds i)
kind_is kinds follow i h = (follow_at IsNewKind [] kinds i _ follow h).kind

images_spell : (kinds : List PredictorKind) → Follow IsNewKind [] kinds
    → Spells (items (image_after kinds) (length kinds) []) (flat_map image) (AreImages kinds)
images_spell kinds follow =
    said_so (few_items_spell (length kinds) (λ before few. image_spells (kind_at kinds (length before)) (kind_is kinds follow (length before) few)) (length kinds) (omega arith))
    (λ images i. record { count = i.0; each = i.1 })
    (λ images i. (i.count, i.each))
    (λ images i. refl)

-- ---- words

pub parts_spell : (number most : ℕ) → most < 2 ^ 32 → (shared : List (ℕ × ℕ)) → Spells (parts_at number most shared) parts_text (AreParts most shared)
unfolding parts_at parts_text word
parts_spell number most small shared = finished
    (built (λ (p : Parts). length p.own) (within_spells w32 (2 ^ 32) wide32 0 most small) (λ x y i g. g.1.0.0) λ owns _.
    built (λ (p : Parts). length p.runs) (within_spells w32 (2 ^ 32) wide32 0 most small) (λ x y i g. g.1.0.0) λ count _.
    built (λ (p : Parts). p.own) (items_spell (λ before. tested_pairs (is_own shared) before _) owns) (λ x y i g. refl) λ own _.
    built_last (λ (p : Parts). p.runs) (items_spell (λ before. tested_pairs (is_run most (length own) (length shared)) before _) count) (λ x y i g. refl) λ runs _.
    made (record { own = own; runs = runs }))
    (λ p f e. record { few_own = f.0.1; few_runs = f.1.0.1; own = f.1.1.0.1; runs = f.1.1.1.0.1 })
    (λ p i. (((omega arith, i.few_own), ((omega arith, i.few_runs), ((refl, i.own), ((refl, i.runs), tt)))), refl))

-- the words of a point, as they may be read
pub record AreFewWords (most : ℕ) (ws : List (ℕ × ℕ)) : Type 0 where
  pub words : AreWords ws
  pub few : length ws ≤ most

merged_spells : (number most : ℕ) → most < 2 ^ 32 → (shared : List (ℕ × ℕ)) → AreShared false shared
    → Spells (merged_at number most shared) (words_text false shared) (AreFewWords most)
unfolding merged_at words_text
merged_spells number most small shared are = finished
    (built_last (parts_of shared) (judged_spells _ _ (parts_spell number most small shared)) (λ p ws i g. parts_again shared are.1 most p i.0) λ p _.
    made (words_of shared p))
    (λ ws f same. record {
      words = rw same (words_are shared are.1 most (parts_of shared ws) f.0.0 f.0.1);
      few = rw same (words_few shared are.1 most (parts_of shared ws) f.0.0);
    })
    (λ ws i.
    let again : words_of shared (parts_of shared ws) ≡ ws = words_again shared are.1 ws i.words in
    (((parts_are shared are.1 most ws (omega (arith, are.0)) i.words i.few, rw again (words_apart ws i.words)), tt), sym again))

pub words_spell : (first : Bool) (number most : ℕ) → most < 2 ^ 32 → (shared : List (ℕ × ℕ)) → AreShared first shared
    → Spells (words_at first number most shared) (words_text first shared) (AreFewWords most)
unfolding words_at words_text word
words_spell true number most small shared are =
    said_so (counted_spell (λ before. tested_pairs rises before _) (within_spells w32 (2 ^ 32) wide32 0 most small))
    (λ ws i. record { words = i.1; few = i.0.1 })
    (λ ws i. ((omega arith, i.few), i.words))
    (λ ws i. refl)
words_spell false number most small shared are = merged_spells number most small shared are

-- ---- points

register_spells : (before : List ℕ) → Spells (register_after before) word (λ n. n < 2 ^ 32)
unfolding word
register_spells before = number_spells w32 (2 ^ 32) wide32

most_small : (h : Head) (wanted : ℕ) → IsHeader h → most_words h wanted < 2 ^ 32
most_small h wanted is =
    let warm : h.warm ≤ 100000 = is.warm in
    let unit : h.unit ≤ 10000 = is.unit.1 in
    let first : ℕ = wanted * h.unit in
    let skip : first - (first - h.warm) ≤ h.warm = omega arith in
    omega arith

all_behind : (n : ℕ) (ns : List ℕ) → n < 2 ^ 32 → All (λ k. k < 2 ^ 32) ns → All (λ k. k < 2 ^ 32) (n ∷ ns)
all_behind n ns small all =
    All-from_get_or (λ k. k < 2 ^ 32) (n ∷ ns) 0 (λ i h. go i h)
  where
    go : (i : ℕ) → i < length (n ∷ ns) → get_or (n ∷ ns) i 0 < 2 ^ 32
    go zero h = small
    go (suc i) h = All-get_or (λ k. k < 2 ^ 32) ns i 0 (omega arith) all

all_of_rest : (ns : List ℕ) → All (λ k. k < 2 ^ 32) ns → All (λ k. k < 2 ^ 32) (drop 1 ns)
all_of_rest [] all = all
all_of_rest (n ∷ ns) all = All-from_get_or (λ k. k < 2 ^ 32) ns 0 (λ i h. All-get_or (λ k. k < 2 ^ 32) (n ∷ ns) (suc i) 0 (omega arith) all)

rest_long : (ns : List ℕ) → length ns ≡ 32 → length (drop 1 ns) ≡ 31
rest_long [] e = absurd (omega arith)
rest_long (n ∷ ns) e = omega arith

whole_long : (ns : List ℕ) → ns ≡ 0 ∷ drop 1 ns → length (drop 1 ns) ≡ 31 → length ns ≡ 32
whole_long ns e long = ap length e ∙ ap suc long

pub point_spells : (h : Head) → IsHeader h → (shared : List (ℕ × ℕ)) → AreShared (is_first h) shared → (number wanted : ℕ)
    → Spells (point_at h shared number wanted) (point (is_first h) shared) (IsPoint h wanted)
unfolding point_at point word
point_spells h is shared are number wanted = finished
    (built (λ (p : Point). p.unit) (judged_spells (λ n. eqb n wanted) _ (number_spells w32 (2 ^ 32) wide32)) (λ x y i g. refl) λ unit _.
    built (λ (p : Point). p.pc) (test_spells w32 (2 ^ 32) wide32 is_instruction) (λ x y i g. refl) λ pc _.
    built (λ (p : Point). drop 1 p.regs) (items_spell register_spells registers_count) (λ x y i g. refl) λ regs _.
    built (λ (p : Point). p.brk) (within_spells w32 (2 ^ 32) wide32 h.heap_low (h.heap_low + 67108864) (omega (arith, is.heap_low.1))) (λ x y i g. refl) λ brk _.
    built (λ (p : Point). p.words) (words_spell (is_first h) number (most_words h wanted) (most_small h wanted is) shared are) (λ x y i g. refl) λ words _.
    built (λ (p : Point). p.places) (snapshots_spell number h.places is.places) (λ x y i g. refl) λ places _.
    built_last (λ (p : Point). p.images) (images_spell h.kinds is.kinds) (λ x y i g. refl) λ images _.
    made (record { unit = unit; pc = pc; regs = 0 ∷ regs; brk = brk; words = words; places = places; images = images }))
    (λ p (u, (c, (r, (b, (w, (s, (m, end))))))) same.
    let regs : p.regs ≡ 0 ∷ drop 1 p.regs = ap (λ (p : Point). p.regs) same in
    record {
      unit = (eqb-true _ _ u.1, u.0);
      pc = (eqb-true _ _ c.1, c.0);
      registers = regs;
      count = whole_long p.regs regs r.0;
      fit = rw regs (all_behind 0 (drop 1 p.regs) (omega arith) (all_of_follow (λ n. n < 2 ^ 32) [] (drop 1 p.regs) 0 r.1));
      brk = b;
      words = w.words;
      few = w.few;
      places = s;
      images = m;
    })
    (λ p i. (
      (
        (i.unit.1, rw i.unit.0 (eq-eqb wanted wanted refl)),
        (
          (i.pc.1, eq-eqb (p.pc % 4) 0 i.pc.0),
          (
            (rest_long p.regs i.count, follow_of_all (λ n. n < 2 ^ 32) [] (drop 1 p.regs) 0 (all_of_rest p.regs i.fit)),
            (
              i.brk,
              (
                record { words = i.words; few = i.few },
                (
                  i.places,
                  (
                    i.images,
                    tt,
                  ),
                ),
              ),
            ),
          ),
        ),
      ),
      ap (λ (regs : List ℕ). let q : Point = record { unit = p.unit; pc = p.pc; regs = regs; brk = p.brk; words = p.words; places = p.places; images = p.images } in q) i.registers,
    ))
