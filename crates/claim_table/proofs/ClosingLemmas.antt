-- What a board tells the one pass that is left.
use Rattle.std.proofs.Common.{◌≡◌, ◌≢◌, ◌⊎◌, ◌+◌, ◌-◌, ◌*◌, ◌<◌, ◌≤◌, ℕ, suc, true, false, min, Option, Some, None, List, ◌∷◌, length, get_or, set, inl, inr, refl, arith, sym, ap, subst, ◌∙◌}
use Rattle.std.specs.List.{sum_by}
use Rattle.std.proofs.lemmas.Bool.{cases_lt, cases_Bool}
use Rattle.std.proofs.lemmas.List.Sums.{sum_by-le}
use Rattle.std.proofs.lemmas.Option.{slice_get-get_or}
use mathlib.Core.Option.{some}
use lib.ListN.{get_elem?}
use Rattle.atomic_table.specs.Table.{State, Final, Seen}
use Rattle.atomic_table.proofs.Lists.{at_set}
use Rattle.confidence.specs.Answer.{IsValidAnswer}
use Rattle.confidence.specs.declared.answer.Answer.{Answer}
use Rattle.confidence.specs.declared.answer.Answer.TheVariants.{Cycles}
use Rattle.ordered_fold.specs.declared.front.Front.{Front}
use Rattle.ordered_fold.specs.Front.{is_going, pushed, folded, IsSound}
use Rattle.ordered_fold.specs.Cell.{code, answer_of}
use Rattle.ordered_fold.specs.Batch.{fold_from, folded_number, IsHeldAnswer, IsBatch}
use Rattle.ordered_fold.proofs.CellLemmas.{answer_of-code}
use Rattle.ordered_fold.specs.Machine.{Core, seat_at, cell_at, code_or_zero}
use Rattle.ordered_fold.proofs.Fronts.{not_both}
use Rattle.ordered_fold.proofs.BatchLemmas.{prefix_of, fold_from-more, fold_from-over, whole_fold, valid_of}
use Rattle.ordered_fold.proofs.MachineLemmas.{not_some}
use Rattle.ordered_fold.proofs.RunLemmas.{told_stop}
use Rattle.claim_table.specs.declared.rule.Key.{Key}
use Rattle.claim_table.specs.declared.rule.View.{View}
use Rattle.claim_table.specs.Shown.{BoardShown, PassShown, IsPassOf}
use Rattle.claim_table.specs.Board.{list_at, IsBoard, IsAlone}
use Rattle.claim_table.specs.Steps.{answers_of, spent_view}
use Rattle.claim_table.specs.Closing.{HasCells}
use Rattle.claim_table.proofs.DrawnLemmas.{folded_drawn}
use Rattle.claim_table.proofs.ViewLemmas.{there, found_at, sum-changed, own_key, view_key, seat_of, alone_live}

-- an element by its place
at_place : (l : List ℕ) (k : ℕ) → k < length l → get_elem? l k ≡ some (get_or l k 0)
at_place l k below =
    let (a, at) = there l k below in
    at ∙ ap some (sym (found_at l k a 0 at).1)

-- the pass draws no more: it drew beyond the answers, or saw an end
abbrev pub IsOver : View → Type 0
IsOver v = (v.seat.past ≡ true) ⊎ (v.seat.seen_end ≢ None)

pub record Tells (lists : List (List Answer)) (v : View) (words : List ℕ) : Type 0 where
  pub cells : HasCells v.start (answers_of lists v) words
  pub sound : IsSound (fold_from v.start (answers_of lists v) (length (answers_of lists v)))
  pub folded : folded_number v.start (fold_from v.start (answers_of lists v) (length (answers_of lists v))) ≤ v.points
  pub points : v.points ≤ length (answers_of lists v)

pub tells :
    (lists : List (List Answer)) (s : State (Option Front) View) (id : ℕ) (v : View)
    → IsBoard lists (view_key v) s → get_elem? s.views id ≡ some v → v.seat.live ≡ true
    → v.seat.hand ≡ None → IsAlone v → IsOver v → Tells lists v s.words
tells lists s id v board at live bare alone over = record {
  cells = λ k below goes. (get_or answers k (Cycles 0), slice_get-get_or answers k (Cycles 0) below, holds k below goes);
  sound = (prefix_of v.start answers size board.batch (omega arith)).sound;
  folded = omega (arith, points, folded, most);
  points = omega (arith, points);
}
  where
    answers : List Answer
    answers = answers_of lists v

    core : Core
    core = board.core

    size : ℕ
    size = length answers

    mine : seat_at core.seats id ≡ v.seat
    mine = seat_of lists (view_key v) s board id v at live

    -- a number that was drawn is in no hand, since the one pass's is empty
    full_drawn : (k : ℕ) → k < core.claim → k < size → cell_at core.cells k ≢ 0
    full_drawn k drawn below bare_cell =
        let (j, has) = board.is.drawn k drawn below bare_cell in
        let e : j ≡ id = alone_live lists (view_key v) s board id v at alone j has.0 in
        let here : (seat_at core.seats id).hand ≡ Some k = subst (λ i. (seat_at core.seats i).hand ≡ Some k) e has.1 in
        not_some (ap (λ x. x.hand) mine ∙ bare) here

    past_all : v.seat.past ≡ true → size ≤ core.claim
    past_all past = (board.is.each id).past (ap (λ x. x.live) mine ∙ live) (ap (λ x. x.past) mine ∙ past)

    -- an end that was seen was announced, so the front has it
    ended : v.seat.seen_end ≢ None → is_going core.front.ending ≡ false
    ended seen = by v.seat.seen_end refl
      where
        by : (end : Option ℕ) → v.seat.seen_end ≡ end → is_going core.front.ending ≡ false
        by None e = absurd (seen e)
        by (Some count) e =
            let stop : core.stop ≡ count + 1 = (board.is.each id).seen (ap (λ x. x.live) mine ∙ live) count (ap (λ x. x.seen_end) mine ∙ e) in
            (told_stop v.start answers core board.is (λ zero. omega (arith, stop, zero))).1

    m : ℕ
    m = folded_number v.start core.front

    full : (k : ℕ) → k < size → is_going (fold_from v.start answers k).ending ≡ true → cell_at core.cells k ≢ 0
    full k below goes = by_over over
      where
        by_order : is_going core.front.ending ≡ false → (k < m) ⊎ (m ≤ k) → cell_at core.cells k ≢ 0
        by_order over (inl folded) = board.is.full k folded
        by_order over (inr past) =
            let sum : m + (k - m) ≡ k = omega (arith, past) in
            let at_m : is_going (fold_from v.start answers m).ending ≡ false = subst (λ f. is_going f.ending ≡ false) board.is.front over in
            let same : fold_from v.start answers k ≡ fold_from v.start answers m = rw sum at (fold_from-over v.start answers m (k - m) at_m) in
            absurd (not_both (is_going (fold_from v.start answers k).ending) goes (ap (λ f. is_going f.ending) same ∙ at_m))

        by_over : IsOver v → cell_at core.cells k ≢ 0
        by_over (inl past) = full_drawn k (omega (arith, past_all past, below)) below
        by_over (inr seen) = by_order (ended seen) (cases_lt k m)

    holds : (k : ℕ) → k < size → is_going (fold_from v.start answers k).ending ≡ true → get_elem? s.words (k + 3) ≡ some (code (get_or answers k (Cycles 0)))
    holds k below goes =
        let three : k + 3 ≡ suc (suc (suc k)) = omega arith in
        let word = (board.is.code k (full k below goes)).1 ∙ ap code_or_zero (slice_get-get_or answers k (Cycles 0) below) in
        ap (λ ws. get_elem? ws (k + 3)) board.words
        ∙ ap (λ i. get_elem? (core.claim ∷ core.lock ∷ core.stop ∷ core.cells) i) three
        ∙ at_place core.cells k (omega (arith, below, board.is.wide))
        ∙ ap some word

    -- no other view has drawn a number of an answer that counts
    others : List View
    others = set s.views id spent_view

    no_points : (u : View) (j : ℕ) → ((j ≡ id) × (spent_view ≡ u)) ⊎ ((j ≢ id) × (get_elem? s.views j ≡ some u)) → u.points ≡ 0
    no_points u j (inl (e, f)) = ap (λ x. x.points) (sym f)
    no_points u j (inr (e, f)) = by_live (cases_Bool u.seat.live)
      where
        by_live : (u.seat.live ≡ true) ⊎ (u.seat.live ≡ false) → u.points ≡ 0
        by_live (inr dead) = (board.each j u f).spent dead
        by_live (inl lives) =
            absurd (e (alone_live lists (view_key v) s board id v at alone j (ap (λ x. x.live) (seat_of lists (view_key v) s board j u f lives) ∙ lives)))

    none_each : (k : ℕ) (d : View) → k < length others → (get_or others k d).points ≤ 0
    none_each k d below =
        let (u, place) = there others k below in
        let same : get_or others k d ≡ u = (found_at others k u d place).1 in
        omega (arith, ap (λ x. x.points) same, no_points u k (at_set s.views id k spent_view u place))

    rest : sum_by (λ u. u.points) others ≤ length others * 0
    rest = sum_by-le (λ u. u.points) 0 others none_each

    points : v.points ≡ min core.claim size
    points = omega (arith, rest, sum-changed (λ u. u.points) s.views id v spent_view at, board.points)

    most : folded_number v.start (fold_from v.start answers size) ≤ size
    most = omega (arith, (prefix_of v.start answers size board.batch (omega arith)).most)

    folded : folded_number v.start (fold_from v.start answers size) ≤ core.claim
    folded = by_over over
      where
        by_over : IsOver v → folded_number v.start (fold_from v.start answers size) ≤ core.claim
        by_over (inl past) = omega (arith, most, past_all past)
        by_over (inr seen) =
            let at_m : is_going (fold_from v.start answers m).ending ≡ false = subst (λ f. is_going f.ending ≡ false) board.is.front (ended seen) in
            let same : core.front ≡ fold_from v.start answers size = board.is.front ∙ whole_fold v.start answers m at_m in
            subst (λ f. folded_number v.start f ≤ core.claim) same (folded_drawn v.start answers core board.is)

-- the same of a board that was ended, in terms of the board
pub record Closes (lists : List (List Answer)) (board : BoardShown) (v : View) (words : List ℕ) : Type 0 where
  pub cells : HasCells board.start (list_at lists board.which) words
  pub sound : IsSound (fold_from board.start (list_at lists board.which) board.size)
  pub folded : folded_number board.start (fold_from board.start (list_at lists board.which) board.size) ≤ v.points
  pub points : v.points ≤ board.size

pub closes :
    (lists : List (List Answer)) (key : Key) (board : BoardShown) (pass : PassShown)
    (words : List ℕ) (slots : List (Option Front))
    → Final (Seen (IsBoard lists key) pass.id pass.view) words slots → IsPassOf board pass
    → board.size ≡ length (list_at lists board.which) → pass.view.seat.live ≡ true
    → pass.view.seat.hand ≡ None → IsAlone pass.view → IsOver pass.view
    → Closes lists board pass.view words
closes lists key board pass words slots (s, (holds, at), same, homes, values) of size live bare alone over =
    let v : View = pass.view in
    let own : key ≡ view_key v = own_key lists key s pass.id v holds at live in
    let told : Tells lists v s.words = tells lists s pass.id v (subst (λ k. IsBoard lists k s) own holds) at live bare alone over in
    let batch : ◌≡◌ {A = Front × ℕ} (v.start, v.which) (board.start, board.which) = λ i. (of.start i, of.which i) in
    let cells : HasCells board.start (list_at lists board.which) s.words = subst (λ (p : Front × ℕ). HasCells p.0 (list_at lists p.1) s.words) batch told.cells in
    let folded : folded_number board.start (fold_from board.start (list_at lists board.which) (length (list_at lists board.which))) ≤ v.points =
    subst (λ (p : Front × ℕ). folded_number p.0 (fold_from p.0 (list_at lists p.1) (length (list_at lists p.1))) ≤ v.points) batch told.folded in
    let sound : IsSound (fold_from board.start (list_at lists board.which) (length (list_at lists board.which))) =
    subst (λ (p : Front × ℕ). IsSound (fold_from p.0 (list_at lists p.1) (length (list_at lists p.1)))) batch told.sound in
    let points : v.points ≤ length (list_at lists board.which) = subst (λ (p : Front × ℕ). v.points ≤ length (list_at lists p.1)) batch told.points in
    record {
      cells = subst (HasCells board.start (list_at lists board.which)) same cells;
      sound = subst (λ n. IsSound (fold_from board.start (list_at lists board.which) n)) (sym size) sound;
      folded = subst (λ n. folded_number board.start (fold_from board.start (list_at lists board.which) n) ≤ v.points) (sym size) folded;
      points = omega (arith, points, size);
    }

pub fold_none : (start : Front) (answers : List Answer) → start ≡ fold_from start answers 0
unfolding fold_from
fold_none start answers = refl

-- the next cell's answer, folded
pub record FoldsWord (start : Front) (answers : List Answer) (k : ℕ) (front : Front) (word : ℕ) : Type 0 where
  pub sound : IsSound front
  pub valid : IsValidAnswer (answer_of word)
  pub next : pushed front (answer_of word) ≡ fold_from start answers (k + 1)

pub folds_word :
    (start : Front) (answers : List Answer) (words : List ℕ) (k : ℕ) (front : Front) (word : ℕ)
    → IsBatch start answers → HasCells start answers words → k < length answers
    → front ≡ fold_from start answers k → is_going front.ending ≡ true
    → get_elem? words (k + 3) ≡ some word → FoldsWord start answers k front word
folds_word start answers words k front word batch cells below same goes at =
    let (answer, is, holds) = cells k below (ap (λ f. is_going f.ending) (sym same) ∙ goes) in
    let code_is : code answer ≡ word = cc in
    let at_k : get_or answers k (Cycles 0) ≡ answer = cc_some (sym (slice_get-get_or answers k (Cycles 0) below) ∙ is) in
    let held : IsHeldAnswer answer = subst IsHeldAnswer at_k (batch.held k (Cycles 0) below) in
    let back : answer_of word ≡ answer = ap answer_of (sym code_is) ∙ answer_of-code answer held in
    let more : fold_from start answers (suc k) ≡ folded (fold_from start answers k) (get_or answers k (Cycles 0)) = fold_from-more start answers k below in
    let next : suc k ≡ k + 1 = omega arith in
    record {
      sound = subst IsSound (sym same) (prefix_of start answers k batch (omega (arith, below))).sound;
      valid = subst IsValidAnswer (sym back) (valid_of answer held);
      next = ap (pushed front) (back ∙ sym at_k) ∙ sym (rw next at more ∙ ap (λ f. folded f (get_or answers k (Cycles 0))) (sym same) ∙ going_on front (get_or answers k (Cycles 0)) goes);
    }
  where
    cc_some : {a b : Answer} → Some a ≡ Some b → a ≡ b
    cc_some e = cc

    going_on : (front : Front) (answer : Answer) → is_going front.ending ≡ true → folded front answer ≡ pushed front answer
    going_on front answer e = rw e refl

-- a fold that ended early is the whole one
pub ends_whole :
    (start : Front) (answers : List Answer) (k size : ℕ) (front : Front)
    → front ≡ fold_from start answers k → is_going front.ending ≡ false → size ≡ length answers
    → front ≡ fold_from start answers size
ends_whole start answers k size front same over sized =
    same ∙ whole_fold start answers k (ap (λ f. is_going f.ending) (sym same) ∙ over)
    ∙ ap (fold_from start answers) (sym sized)
