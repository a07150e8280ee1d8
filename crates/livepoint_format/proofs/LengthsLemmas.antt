-- How long spellings are.
use Rattle.std.proofs.Common.{◌≡◌, ℕ, suc, ◌+◌, ◌*◌, ◌^◌, ◌<◌, ◌≤◌, Bool, true, false, cond, eqb, List, [], ◌∷◌, ◌++◌, length, take, drop, get_or, refl, ap, ◌∙◌, arith, append-nil, inl, inr, eq-eqb, length-append}
use Rattle.std.specs.Prelude.{flat_map}
use Rattle.std.proofs.lemmas.Bool.{cases_eq, ne_eqb}
use Rattle.std.proofs.lemmas.Grind.{flat_map-append}
use Rattle.std.proofs.lemmas.List.{take_all}
use Rattle.std.proofs.Math.Nat.{pow-le-pow_right}
use Rattle.hierarchy.specs.declared.places.Places.{Places}
use Rattle.predictor.specs.Tables.{Tables}
use Rattle.predictor.specs.Parts.{IsImage}
use Rattle.recency_record.specs.declared.entry.Entry.{Entry}
use Rattle.recency_record.specs.Recency.{Recency}
use Rattle.predictor.specs.declared.kind.PredictorKind.{PredictorKind}
use Rattle.livepoint_format.specs.Values.{Head, Point, Whole}
use Rattle.livepoint_format.specs.Shared.{parts_of}
use Rattle.livepoint_format.specs.Splitting.{extended}
use Rattle.livepoint_format.specs.Lengths.{end_of}
use Rattle.livepoint_format.specs.Format.{byte, word, long, pair, geometry, geometries, kind, kinds_text, head, table, header, is_first, end_word, parts_text, words_text, entry, set, snapshot, snapshots, image, point, spelling}
use Rattle.livepoint_format.proofs.LibraryLaws.{pairs_long}
use Rattle.livepoint_format.proofs.SplittingLemmas.{take_one}

-- ---- runs that are counted

pub end_extended : (runs : List (ℕ × ℕ)) (p : ℕ) → end_of (extended runs p) ≡ p + 2
end_extended [] p = omega arith
end_extended (run ∷ []) p =
    elim (cases_eq (run.0 + run.1) p) [
      | inl e ↦ rw (eq-eqb (run.0 + run.1) p e) (omega (arith, e))
      | inr e ↦ rw (ne_eqb (run.0 + run.1) p e) (omega arith)
    ]
end_extended (run ∷ (next ∷ [])) p =
    elim (cases_eq (next.0 + next.1) p) [
      | inl e ↦ rw (eq-eqb (next.0 + next.1) p e) (omega (arith, e))
      | inr e ↦ rw (ne_eqb (next.0 + next.1) p e) (omega arith)
    ]
end_extended (run ∷ (next ∷ (other ∷ runs))) p = end_extended (next ∷ (other ∷ runs)) p

pub long_extended : (runs : List (ℕ × ℕ)) (p : ℕ) → length (extended runs p) ≡ length runs + cond (eqb (end_of runs) (p + 1)) 0 1
long_extended [] p = rw (ne_eqb 0 (p + 1) (λ e. omega (arith, e))) refl
long_extended (run ∷ []) p =
    elim (cases_eq (run.0 + run.1) p) [
      | inl e ↦
          let end : suc (run.0 + run.1) ≡ p + 1 = omega (arith, e) in
          rw (eq-eqb (run.0 + run.1) p e, eq-eqb (suc (run.0 + run.1)) (p + 1) end) refl
      | inr e ↦
          rw (ne_eqb (run.0 + run.1) p e, ne_eqb (suc (run.0 + run.1)) (p + 1) (λ s. e (omega (arith, s)))) refl
    ]
long_extended (run ∷ (next ∷ runs)) p = omega (arith, long_extended (next ∷ runs) p)

-- ---- one item more

pub one_longer : {A : Type 0} (f : A → List ℕ) (xs : List A) (i : ℕ) (d : A) → i < length xs
    → length (flat_map f (take (i + 1) xs)) ≡ length (flat_map f (take i xs)) + length (f (get_or xs i d))
one_longer {A} f xs i d below =
    ap (λ (l : List A). length (flat_map f l)) (take_one xs i d below)
    ∙ ap length (flat_map-append f (take i xs) (get_or xs i d ∷ []))
    ∙ length-append (flat_map f (take i xs)) (flat_map f (get_or xs i d ∷ []))
    ∙ ap (λ (l : List ℕ). length (flat_map f (take i xs)) + length l) (append-nil (f (get_or xs i d)))

pub all_long : {A : Type 0} (f : A → List ℕ) (xs : List A) (i : ℕ) → length xs ≤ i → length (flat_map f (take i xs)) ≡ length (flat_map f xs)
all_long {A} f xs i past = ap (λ (l : List A). length (flat_map f l)) (take_all i xs past)

-- ---- parts

pub words_long : (ns : List ℕ) → length (flat_map word ns) ≡ 4 * length ns
unfolding word
words_long [] = refl
words_long (n ∷ ns) = omega (arith, words_long ns)

pub bytes_long : (ns : List ℕ) → length (flat_map byte ns) ≡ length ns
unfolding byte
bytes_long [] = refl
bytes_long (n ∷ ns) = omega (arith, bytes_long ns)

pub entries_long : (es : List Entry) → length (flat_map entry es) ≡ 12 * length es
unfolding entry word long
entries_long [] = refl
entries_long (e ∷ es) = omega (arith, entries_long es)

pub kinds_long : (ks : List PredictorKind) → length (flat_map kind ks) ≡ 4 * length ks
unfolding kind byte
kinds_long [] = refl
kinds_long (k ∷ ks) = omega (arith, kinds_long ks)

pub head_long : (h : Head) → length (head h) ≡ 72 + 4 * length h.kinds
unfolding head word long geometries geometry kinds_text byte
head_long h = omega (arith, kinds_long h.kinds)

pub table_long : (shared : List (ℕ × ℕ)) → length (table false shared) ≡ 4 + 8 * length shared
unfolding table word
table_long shared = omega (arith, pairs_long shared)

pub listed_long : (shared words : List (ℕ × ℕ)) → length (words_text true shared words) ≡ 4 + 8 * length words
unfolding words_text word
listed_long shared words = omega (arith, pairs_long words)

pub parts_long : (shared words : List (ℕ × ℕ))
    → length (words_text false shared words) ≡ 8 + 8 * (length (parts_of shared words).own + length (parts_of shared words).runs)
unfolding words_text parts_text word
parts_long shared words =
    omega (
      arith,
      length-append (flat_map pair (parts_of shared words).own) (flat_map pair (parts_of shared words).runs),
      pairs_long (parts_of shared words).own,
      pairs_long (parts_of shared words).runs,
    )

pub set_long : (es : List Entry) → length (set es) ≡ 1 + 12 * length es
unfolding set byte
set_long es = omega (arith, entries_long es)

pub snapshot_long : (r : Recency) → length (snapshot r) ≡ 8 + length (flat_map set r.sets)
unfolding snapshot long
snapshot_long r = omega arith

pub snapshots_long : (p : Places Recency)
    → length (snapshots p) ≡ length (snapshot p.l1i) + (length (snapshot p.l1d) + (length (snapshot p.l2) + (length (snapshot p.itlb) + length (snapshot p.dtlb))))
unfolding snapshots
snapshots_long p =
    omega (
      arith,
      length-append (snapshot p.l1i) (snapshot p.l1d ++ (snapshot p.l2 ++ (snapshot p.itlb ++ snapshot p.dtlb))),
      length-append (snapshot p.l1d) (snapshot p.l2 ++ (snapshot p.itlb ++ snapshot p.dtlb)),
      length-append (snapshot p.l2) (snapshot p.itlb ++ snapshot p.dtlb),
      length-append (snapshot p.itlb) (snapshot p.dtlb),
    )

pub image_long : (t : Tables) → length (image t) ≡ length t.counters + (5 + (8 * length t.targets + 4 * length t.stack))
unfolding image word byte
image_long t =
    omega (
      arith,
      length-append (flat_map byte t.counters) (word t.history ++ (flat_map pair t.targets ++ (byte (length t.stack) ++ flat_map word t.stack))),
      bytes_long t.counters,
      length-append (flat_map pair t.targets) (byte (length t.stack) ++ flat_map word t.stack),
      pairs_long t.targets,
      words_long t.stack,
    )

-- an image has at most 2^14 counters, 2^10 targets and 16 addresses
pub image_small : (t : Tables) → IsImage t → (length t.counters ≤ 16384) × ((length t.targets ≤ 1024) × (length t.stack ≤ 16))
image_small t is =
    let counters : 2 ^ t.kind.bits ≤ 2 ^ 14 = pow-le-pow_right {n = 2} (omega arith) is.tables.kind.most_bits in
    let targets : 2 ^ t.kind.target_log ≤ 2 ^ 10 = pow-le-pow_right {n = 2} (omega arith) is.tables.kind.most_target_log in (
      omega (arith, is.tables.counters, counters),
      (omega (arith, is.tables.targets, targets), omega (arith, is.tables.stack, is.tables.kind.most_depth)),
    )

pub point_long : (first : Bool) (shared : List (ℕ × ℕ)) (p : Point)
    → length (point first shared p)
    ≡ 12 + (4 * length (drop 1 p.regs) + (length (words_text first shared p.words) + (length (snapshots p.places) + length (flat_map image p.images))))
unfolding point word
point_long first shared p =
    omega (
      arith,
      length-append (flat_map word (drop 1 p.regs)) (word p.brk ++ (words_text first shared p.words ++ (snapshots p.places ++ flat_map image p.images))),
      words_long (drop 1 p.regs),
      length-append (words_text first shared p.words) (snapshots p.places ++ flat_map image p.images),
      length-append (snapshots p.places) (flat_map image p.images),
    )

pub header_long : (h : Head) (shared : List (ℕ × ℕ)) → length (header h shared) ≡ length (head h) + length (table (is_first h) shared)
unfolding header
header_long h shared = length-append (head h) (table (is_first h) shared)

pub spelling_long : (l : Whole)
    → length (spelling l) ≡ length (header l.head l.shared) + (length (flat_map (point (is_first l.head) l.shared) l.points) + 4)
unfolding spelling word
spelling_long l =
    omega (
      arith,
      length-append (header l.head l.shared) (flat_map (point (is_first l.head) l.shared) l.points ++ word end_word),
      length-append (flat_map (point (is_first l.head) l.shared) l.points) (word end_word),
    )
