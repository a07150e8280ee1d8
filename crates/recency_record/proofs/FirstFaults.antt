-- The first fault, entry by entry and set by set.
use Rattle.std.proofs.Common.{◌≡◌, ℕ, ◌+◌, ◌-◌, ◌<◌, ◌≤◌, true, false, List, [], ◌∷◌, ◌++◌, length, take, drop, get_or, sum, Option, Some, None, is_some, refl, sym, ap, ◌∙◌, arith, add-one, lt-ltb, le-ltb}
use Rattle.std.proofs.Math.Seq.{drop-cons}
use Rattle.std.proofs.lemmas.Bool.{false≢true, true≢false}
use Rattle.std.proofs.lemmas.List.{drop_all, take_more, length-drop}
use Rattle.std.proofs.lemmas.List.Sums.{sum_by-drop_more}
use Rattle.std.specs.Option.{option_or}
use Rattle.lru_plain.specs.Shape.{Shape}
use Rattle.recency_record.specs.declared.entry.Entry.{Entry}
use Rattle.recency_record.specs.declared.fault.RecordFault.{RecordFault}
use Rattle.recency_record.specs.declared.fault.RecordFault.TheVariants.{TooMany}
use Rattle.recency_record.specs.Faults.{entry_fault, entries_fault, set_fault, sets_fault, dealt}

pub too_many : (g : Shape) (now number : ℕ) (es : List Entry) → g.ways < length es
    → set_fault g now number es ≡ Some (TooMany number 0)
unfolding set_fault
too_many g now number es h = rw (lt-ltb g.ways (length es) h) refl

pub not_too_many : (g : Shape) (now number : ℕ) (es : List Entry) → length es ≤ g.ways
    → set_fault g now number es ≡ entries_fault g now number [] es
unfolding set_fault
not_too_many g now number es h = rw (le-ltb g.ways (length es) h) refl

there : (r other : Option RecordFault) → is_some r ≡ true → r ≡ option_or r other
there None other h = absurd (false≢true h)
there (Some fault) other h = refl

absent : (r other : Option RecordFault) → is_some r ≡ false → option_or r other ≡ other
absent None other h = refl
absent (Some fault) other h = absurd (true≢false h)

entries_step : (g : Shape) (now number : ℕ) (es : List Entry) (k : ℕ) (d : Entry) → k < length es
    → entries_fault g now number (take k es) (drop k es)
    ≡ option_or (entry_fault g now number (take k es) (get_or es k d))
    (entries_fault g now number (take (k + 1) es) (drop (k + 1) es))
unfolding entries_fault
entries_step g now number es k d h =
    let rest : drop k es ≡ get_or es k d ∷ drop (k + 1) es = rw (add-one, drop-cons es k d) refl in
    let more : take (k + 1) es ≡ take k es ++ get_or es k d ∷ [] = take_more es k d h in
    rw (rest, more) refl

module _ (g : Shape) (now number : ℕ) (es : List Entry) (whole : Option RecordFault) (k : ℕ) where
  pub entry_found : (d : Entry) (r : Option RecordFault) → k < length es
      → whole ≡ entries_fault g now number (take k es) (drop k es)
      → r ≡ entry_fault g now number (take k es) (get_or es k d) → is_some r ≡ true → r ≡ whole
  entry_found d r h at is some =
      there r (entries_fault g now number (take (k + 1) es) (drop (k + 1) es)) some
      ∙ ap (λ (o : Option RecordFault). option_or o (entries_fault g now number (take (k + 1) es) (drop (k + 1) es))) is
      ∙ sym (entries_step g now number es k d h) ∙ sym at

  pub entry_passed : (d : Entry) (r : Option RecordFault) → k < length es
      → whole ≡ entries_fault g now number (take k es) (drop k es)
      → r ≡ entry_fault g now number (take k es) (get_or es k d) → is_some r ≡ false
      → whole ≡ entries_fault g now number (take (k + 1) es) (drop (k + 1) es)
  entry_passed d r h at is none =
      at ∙ entries_step g now number es k d h
      ∙ ap (λ (o : Option RecordFault). option_or o (entries_fault g now number (take (k + 1) es) (drop (k + 1) es))) (sym is)
      ∙ absent r (entries_fault g now number (take (k + 1) es) (drop (k + 1) es)) none

  pub entries_passed : length es ≤ k
      → whole ≡ entries_fault g now number (take k es) (drop k es) → None ≡ whole
  unfolding entries_fault
  entries_passed h at = sym (at ∙ rw (drop_all k es h) refl)

module _ (g : Shape) (now number : ℕ) (counts : List ℕ) (rest own behind : List Entry) (count : ℕ)
    (whole r : Option RecordFault) where
  sets_step : number < length counts → count ≡ get_or counts number 0
      → own ≡ take count rest → behind ≡ drop count rest
      → sets_fault g now number (dealt (drop number counts) rest)
      ≡ option_or (set_fault g now number own) (sets_fault g now (number + 1) (dealt (drop (number + 1) counts) behind))
  unfolding sets_fault
  sets_step h is front back =
      let next : drop number counts ≡ get_or counts number 0 ∷ drop (number + 1) counts =
      rw (add-one, drop-cons counts number 0) refl in
      rw (next, front, back, is) refl

  pub set_found : number < length counts → count ≡ get_or counts number 0
      → own ≡ take count rest → behind ≡ drop count rest
      → whole ≡ sets_fault g now number (dealt (drop number counts) rest)
      → r ≡ set_fault g now number own → is_some r ≡ true → r ≡ whole
  set_found h is front back at fault some =
      there r (sets_fault g now (number + 1) (dealt (drop (number + 1) counts) behind)) some
      ∙ ap (λ (o : Option RecordFault). option_or o (sets_fault g now (number + 1) (dealt (drop (number + 1) counts) behind))) fault
      ∙ sym (sets_step h is front back) ∙ sym at

  pub set_passed : number < length counts → count ≡ get_or counts number 0
      → own ≡ take count rest → behind ≡ drop count rest
      → whole ≡ sets_fault g now number (dealt (drop number counts) rest)
      → r ≡ set_fault g now number own → is_some r ≡ false
      → whole ≡ sets_fault g now (number + 1) (dealt (drop (number + 1) counts) behind)
  set_passed h is front back at fault none =
      at ∙ sets_step h is front back
      ∙ ap (λ (o : Option RecordFault). option_or o (sets_fault g now (number + 1) (dealt (drop (number + 1) counts) behind))) (sym fault)
      ∙ absent r (sets_fault g now (number + 1) (dealt (drop (number + 1) counts) behind)) none

  pub long_passed : number < length counts → count ≡ get_or counts number 0 → behind ≡ drop count rest
      → sum (drop number counts) ≡ length rest → sum (drop (number + 1) counts) ≡ length behind
  long_passed h is back long =
      let more : sum (drop number counts) ≡ get_or counts number 0 + sum (drop (number + 1) counts) =
      sum_by-drop_more (λ x. x) counts number 0 h in
      let left : length behind ≡ length rest - count = ap length back ∙ length-drop count rest in
      omega (arith, more, left, long, is)

pub sets_passed : (g : Shape) (now number : ℕ) (counts : List ℕ) (rest : List Entry) (whole : Option RecordFault)
    → length counts ≤ number → whole ≡ sets_fault g now number (dealt (drop number counts) rest) → None ≡ whole
unfolding sets_fault
sets_passed g now number counts rest whole h at = sym (at ∙ rw (drop_all number counts h) refl)

-- there is room for the next set's entries
pub room_left : (counts : List ℕ) (number long : ℕ) → number < length counts → sum (drop number counts) ≡ long
    → get_or counts number 0 ≤ long
room_left counts number long h at =
    let more : sum (drop number counts) ≡ get_or counts number 0 + sum (drop (number + 1) counts) =
    sum_by-drop_more (λ x. x) counts number 0 h in
    omega (arith, more, at)
