-- Entries that break no rule are those of a snapshot.
use Rattle.std.proofs.Common.{◌≡◌, ◌≢◌, ℕ, zero, suc, ◌+◌, ◌-◌, ◌^◌, ◌<◌, Bool, true, false, not, eqb, ltb, cond, List, [], ◌∷◌, ◌++◌, length, get_or, slice_get, ◌↔◌, Option, Some, None, refl, sym, subst, ◌∙◌, arith, true≢false, eqb-true, eq-eqb, ltb-true, ltb-false, lt-ltb, le-ltb, leb-false, append_assoc, append-nil, one-mul, ◌*◌}
use Rattle.std.specs.List.{list_any}
use Rattle.std.proofs.lemmas.Bool.{and_parts, or_parts, ne_eqb, lt-leb}
use Rattle.std.specs.Option.{option_or}
use Rattle.lru_plain.specs.Shape.{Shape, IsShape, sets_of, home_of}
use Rattle.recency_record.specs.declared.entry.Entry.{Entry}
use Rattle.recency_record.specs.declared.fault.RecordFault.{RecordFault}
use Rattle.recency_record.specs.declared.fault.RecordFault.TheVariants.{TooMany, WrongSet, Repeated, TimeRange, NotDescending}
use Rattle.std.specs.List.{AllByRecursion}
use Rattle.recency_record.specs.Recency.{Recency, IsRecency, AreSets, IsSet, IsEntry, IsRanked}
use Rattle.recency_record.specs.Faults.{belongs, is_no_later, block_fault, time_fault, entry_fault, entries_fault, set_fault, sets_fault, dealt}
use Rattle.recency_record.proofs.Eachs.{each_append, each_both, each_weaker}
use Rattle.recency_record.proofs.Ranks.{ranked_push}
use Rattle.recency_record.proofs.Rows.{dealt_length}

neither : (a b : Option RecordFault) → option_or a b ≡ None → (a ≡ None) × (b ≡ None)
neither None b h = (refl, h)
neither (Some x) b h = absurd (let e : Some x ≡ None = h in cc)

-- an entry that breaks no rule
pub record Passes (g : Shape) (now number : ℕ) (before : List Entry) (e : Entry) : Type 0 where
  pub home : belongs g number e.block ≡ true
  pub new : list_any (λ x. eqb x.block e.block) before ≡ false
  pub early : ltb e.time now ≡ true
  pub falls : is_no_later (slice_get before (length before - 1)) e.time ≡ false

block_passes : (g : Shape) (number : ℕ) (before : List Entry) (block : ℕ) → block_fault g number before block ≡ None
    → (belongs g number block ≡ true) × (list_any (λ x. eqb x.block block) before ≡ false)
block_passes g number before block h =
    go (belongs g number block) (list_any (λ x. eqb x.block block) before) h
  where
    go : (a b : Bool)
        → cond (not a) (Some (WrongSet number (length before))) (cond b (Some (Repeated number (length before))) None) ≡ None
        → (a ≡ true) × (b ≡ false)
    go false b h = absurd cc
    go true true h = absurd cc
    go true false h = (refl, refl)

time_passes : (now number : ℕ) (before : List Entry) (time : ℕ) → time_fault now number before time ≡ None
    → (ltb time now ≡ true) × (is_no_later (slice_get before (length before - 1)) time ≡ false)
time_passes now number before time h =
    go (ltb time now) (is_no_later (slice_get before (length before - 1)) time) h
  where
    go : (a b : Bool)
        → cond (not a) (Some (TimeRange number (length before))) (cond b (Some (NotDescending number (length before))) None) ≡ None
        → (a ≡ true) × (b ≡ false)
    go false b h = absurd cc
    go true true h = absurd cc
    go true false h = (refl, refl)

pub passes : (g : Shape) (now number : ℕ) (before : List Entry) (e : Entry) → entry_fault g now number before e ≡ None → Passes g now number before e
unfolding entry_fault
passes g now number before e h =
    let both : (block_fault g number before e.block ≡ None) × (time_fault now number before e.time ≡ None) = neither _ _ h in
    let block : (belongs g number e.block ≡ true) × (list_any (λ x. eqb x.block e.block) before ≡ false) = block_passes g number before e.block both.0 in
    let time : (ltb e.time now ≡ true) × (is_no_later (slice_get before (length before - 1)) e.time ≡ false) = time_passes now number before e.time both.1 in
    record { home = block.0; new = block.1; early = time.0; falls = time.1 }

pub passed : (g : Shape) (now number : ℕ) (before : List Entry) (e : Entry) → Passes g now number before e → entry_fault g now number before e ≡ None
unfolding entry_fault
passed g now number before e h = rw (h.home, h.new, h.early, h.falls) refl

-- later than the last is later than all
all_later : (before : List Entry) (e : Entry) → IsRanked before
    → is_no_later (slice_get before (length before - 1)) e.time ≡ false → AllByRecursion (λ x. e.time < x.time) before
all_later [] e r h = tt
all_later (x ∷ []) e r h = (omega (arith, leb-false x.time e.time h), tt)
all_later (x ∷ y ∷ ys) e r h =
    let step : suc (suc (length ys)) - 1 ≡ suc (suc (length ys) - 1) = omega arith in
    let rest : AllByRecursion (λ z. e.time < z.time) (y ∷ ys) = all_later (y ∷ ys) e r.1 (rw step at h) in
    let before : y.time < x.time = r.0.0.0 in
    let after : e.time < y.time = rest.0 in
    (omega (arith, before, after), rest)

all_other : (before : List Entry) (e : Entry) → list_any (λ x. eqb x.block e.block) before ≡ false → AllByRecursion (λ x. x.block ≢ e.block) before
all_other [] e h = tt
all_other (x ∷ xs) e h =
    let both : (eqb x.block e.block ≡ false) × (list_any (λ z. eqb z.block e.block) xs ≡ false) = or_parts _ _ h in
    ((λ same. true≢false (sym (eq-eqb x.block e.block same) ∙ both.0)), all_other xs e both.1)

entry_of : (g : Shape) (now number : ℕ) (before : List Entry) (e : Entry) → Passes g now number before e → IsEntry g now number e
entry_of g now number before e h =
    let both : (ltb e.block (2 ^ (32 - g.line_log)) ≡ true) × (eqb (home_of g e.block) number ≡ true) = and_parts _ _ h.home in
    record { block = ltb-true _ _ both.0; home = eqb-true _ _ both.1; time = ltb-true _ _ h.early }

entries_pass :
    (g : Shape) (now number : ℕ) (before es : List Entry) → entries_fault g now number before es ≡ None
    → IsRanked before → AllByRecursion (IsEntry g now number) before
    → IsRanked (before ++ es) × AllByRecursion (IsEntry g now number) (before ++ es)
unfolding entries_fault
entries_pass g now number before [] h r each = rw (append-nil before) (r, each)
entries_pass g now number before (e ∷ es) h r each =
    let both : (entry_fault g now number before e ≡ None) × (entries_fault g now number (before ++ e ∷ []) es ≡ None) = neither _ _ h in
    let pass : Passes g now number before e = passes g now number before e both.0 in
    let ranked : IsRanked (before ++ e ∷ []) =
    ranked_push before e (each_both (λ x. e.time < x.time) (λ x. x.block ≢ e.block) before (all_later before e r pass.falls) (all_other before e pass.new)) r in
    let more : AllByRecursion (IsEntry g now number) (before ++ e ∷ []) =
    each_append (IsEntry g now number) before (e ∷ []) each (entry_of g now number before e pass, tt) in
    rw (← append_assoc before (e ∷ []) es) (entries_pass g now number (before ++ e ∷ []) es both.1 ranked more)

set_pass : (g : Shape) (now number : ℕ) (es : List Entry) → set_fault g now number es ≡ None → IsSet g now number es
unfolding set_fault
set_pass g now number es h =
    go (ltb g.ways (length es)) refl h
  where
    go : (b : Bool) → ltb g.ways (length es) ≡ b
        → cond b (Some (TooMany number 0)) (entries_fault g now number [] es) ≡ None → IsSet g now number es
    go true e h = absurd cc
    go false e h =
        let all : IsRanked es × AllByRecursion (IsEntry g now number) es = entries_pass g now number [] es h tt tt in
        record { cut = omega (arith, ltb-false g.ways (length es) e); ranked = all.0; entries = all.1 }

sets_pass : (g : Shape) (now number : ℕ) (sets : List (List Entry)) → sets_fault g now number sets ≡ None
    → (k : ℕ) → k < length sets → IsSet g now (number + k) (get_or sets k [])
unfolding sets_fault
sets_pass g now number [] h k below = absurd (omega arith)
sets_pass g now number (es ∷ rest) h zero below =
    let both : (set_fault g now number es ≡ None) × (sets_fault g now (number + 1) rest ≡ None) = neither _ _ h in
    let same : number + 0 ≡ number = omega arith in
    rw same (set_pass g now number es both.0)
sets_pass g now number (es ∷ rest) h (suc k) below =
    let both : (set_fault g now number es ≡ None) × (sets_fault g now (number + 1) rest ≡ None) = neither _ _ h in
    let same : number + suc k ≡ (number + 1) + k = omega arith in
    rw same (sets_pass g now (number + 1) rest both.1 k (omega arith))

pub recency_of_sound : (g : Shape) (time : ℕ) (sets : List (List Entry)) → IsShape g → length sets ≡ sets_of g
    → sets_fault g time 0 sets ≡ None → IsRecency (record { shape = g; time = time; sets = sets })
recency_of_sound g time sets shape count sound = record {
  shape = shape;
  count = count;
  sets = λ k below.
      let same : 0 + k ≡ k = omega arith in
      subst (λ (n : ℕ). IsSet g time n (get_or sets k [])) same (sets_pass g time 0 sets sound k (rw count below));
}

-- and the entries of a snapshot break none
each_behind : (P : Entry → Type 0) (xs ys : List Entry) (e : Entry) → AllByRecursion P (xs ++ e ∷ ys) → P e
each_behind P [] ys e h = h.0
each_behind P (x ∷ xs) ys e h = each_behind P xs ys e h.1

ranked_behind : (before after : List Entry) (e : Entry) → IsRanked (before ++ e ∷ after)
    → AllByRecursion (λ x. (e.time < x.time) × (x.block ≢ e.block)) before
ranked_behind [] after e h = tt
ranked_behind (x ∷ xs) after e h =
    let own : (e.time < x.time) × (e.block ≢ x.block) = each_behind (λ y. (y.time < x.time) × (y.block ≢ x.block)) xs after e h.0 in
    ((own.0, λ same. own.1 (sym same)), ranked_behind xs after e h.1)

none_repeats : (before : List Entry) (block : ℕ) → AllByRecursion (λ x. x.block ≢ block) before → list_any (λ x. eqb x.block block) before ≡ false
none_repeats [] block h = refl
none_repeats (x ∷ xs) block h = rw (ne_eqb x.block block h.0) (none_repeats xs block h.1)

last_later : (before : List Entry) (time : ℕ) → AllByRecursion (λ x. time < x.time) before
    → is_no_later (slice_get before (length before - 1)) time ≡ false
last_later [] time h = refl
last_later (x ∷ []) time h = lt-leb x.time time h.0
last_later (x ∷ y ∷ ys) time h =
    let step : suc (suc (length ys)) - 1 ≡ suc (suc (length ys) - 1) = omega arith in
    rw step (last_later (y ∷ ys) time h.1)

entry_none : (g : Shape) (now number : ℕ) (before after : List Entry) (e : Entry) → IsRanked (before ++ e ∷ after) → IsEntry g now number e
    → entry_fault g now number before e ≡ None
unfolding entry_fault
entry_none g now number before after e ranked entry =
    let behind : AllByRecursion (λ x. (e.time < x.time) × (x.block ≢ e.block)) before = ranked_behind before after e ranked in
    rw (
      lt-ltb e.block (2 ^ (32 - g.line_log)) entry.block,
      eq-eqb (home_of g e.block) number entry.home,
      none_repeats before e.block (each_weaker (λ x. (e.time < x.time) × (x.block ≢ e.block)) (λ x. x.block ≢ e.block) before (λ x h. h.1) behind),
      lt-ltb e.time now entry.time,
      last_later before e.time (each_weaker (λ x. (e.time < x.time) × (x.block ≢ e.block)) (λ x. e.time < x.time) before (λ x h. h.0) behind),
    ) refl

entries_none : (g : Shape) (now number : ℕ) (before es : List Entry) → IsRanked (before ++ es) → AllByRecursion (IsEntry g now number) es
    → entries_fault g now number before es ≡ None
unfolding entries_fault
entries_none g now number before [] ranked each = refl
entries_none g now number before (e ∷ es) ranked each =
    rw (
      entry_none g now number before es e ranked each.0,
      entries_none g now number (before ++ e ∷ []) es (rw (append_assoc before (e ∷ []) es) ranked) each.1,
    ) refl

set_none : (g : Shape) (now number : ℕ) (es : List Entry) → IsSet g now number es → set_fault g now number es ≡ None
unfolding set_fault
set_none g now number es h = rw (le-ltb g.ways (length es) h.cut) (entries_none g now number [] es h.ranked h.entries)

sets_none : (g : Shape) (now number : ℕ) (sets : List (List Entry))
    → ((k : ℕ) → k < length sets → IsSet g now (number + k) (get_or sets k [])) → sets_fault g now number sets ≡ None
unfolding sets_fault
sets_none g now number [] h = refl
sets_none g now number (es ∷ rest) h =
    let same : number + 0 ≡ number = omega arith in
    let first : IsSet g now number es = subst (λ (n : ℕ). IsSet g now n es) same (h 0 (omega arith)) in
    rw (
      set_none g now number es first,
      sets_none g now (number + 1) rest
          (λ k below.
          let along : number + suc k ≡ (number + 1) + k = omega arith in
          subst (λ (n : ℕ). IsSet g now n (get_or rest k [])) along (h (suc k) (omega (arith, below)))),
    ) refl

-- so what holds of every snapshot is no fault
pub recency_is_sound : (r : Recency) → IsRecency r → sets_fault r.shape r.time 0 r.sets ≡ None
recency_is_sound r h =
    sets_none r.shape r.time 0 r.sets
    (λ k below.
    let same : k ≡ 0 + k = omega arith in
    subst (λ (n : ℕ). IsSet r.shape r.time n (get_or r.sets k [])) same (h.sets k (rw h.count at below)))

-- and there is none exactly where all rules are kept
pub faults_are : (g : Shape) (time : ℕ) (counts : List ℕ) (entries : List Entry) → length counts ≡ sets_of g
    → (sets_fault g time 0 (dealt counts entries) ≡ None) ↔ AreSets g time (dealt counts entries)
faults_are g time counts entries count = (
  (λ sound k below.
      let same : 0 + k ≡ k = omega arith in
      subst (λ (n : ℕ). IsSet g time n (get_or (dealt counts entries) k [])) same
      (sets_pass g time 0 (dealt counts entries) sound k (rw (dealt_length counts entries, count) below))),
  (λ h. sets_none g time 0 (dealt counts entries)
      (λ k below.
      let same : k ≡ 0 + k = omega arith in
      subst (λ (n : ℕ). IsSet g time n (get_or (dealt counts entries) k [])) same
      (h k (rw (dealt_length counts entries, count) at below)))),
)

-- how many blocks there are under a line, as a shift
pub block_bound : (line : ℕ) → 1 * 2 ^ (32 - line) ≡ 2 ^ (32 - line)
block_bound line = one-mul (2 ^ (32 - line))
