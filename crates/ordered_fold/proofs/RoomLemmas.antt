-- The numbers of the machine fit the words that hold them.
use Rattle.std.proofs.Common.{◌≡◌, ◌≢◌, ◌⊎◌, ◌+◌, ◌*◌, ◌%◌, ◌^◌, ◌<◌, ◌≤◌, ℕ, Bool, true, false, cond, List, length, get_or, inl, inr, arith, sym, ap, subst, ◌∙◌}
use Rattle.std.specs.List.{count_by}
use Rattle.std.proofs.lemmas.Bool.{cases_lt}
use Rattle.std.proofs.lemmas.List.{get_or_past}
use Rattle.std.proofs.lemmas.List.Sums.{sum_by-le}
use Rattle.std.proofs.lemmas.Option.{slice_get-get_or}
use Rattle.confidence.specs.Answer.{IsValidAnswer}
use Rattle.confidence.specs.declared.answer.Answer.{Answer}
use Rattle.confidence.specs.declared.answer.Answer.TheVariants.{Cycles}
use Rattle.ordered_fold.specs.declared.front.Front.{Front}
use Rattle.ordered_fold.specs.Front.{is_going, IsSound}
use Rattle.ordered_fold.specs.Cell.{answer_of}
use Rattle.ordered_fold.specs.Batch.{fold_from, folded_number, count_before_end, IsBatch}
use Rattle.ordered_fold.specs.Machine.{Core, cell_at, code_or_zero}
use Rattle.ordered_fold.specs.Invariant.{IsCore, is_done}
use Rattle.ordered_fold.proofs.BatchLemmas.{IsPrefix, prefix_of, valid_of}
use Rattle.ordered_fold.proofs.CellLemmas.{answer_of-code}
use Rattle.ordered_fold.proofs.FrontLemmas.{folded_within}

pub record HasRoom (start : Front) (core : Core) : Type 0 where
  pub sound : IsSound core.front
  pub least : start.sums.n ≤ core.front.sums.n
  pub most : core.front.sums.n ≤ 65536
  pub claim : core.claim + 1 < 2 ^ 64
  pub lock : core.lock + 1 < 2 ^ 64
  pub stop : core.stop ≤ 65537

pub has_room :
    (start : Front) (answers : List Answer) (core : Core) → IsBatch start answers
    → IsCore start answers core → length core.seats < 2 ^ 32 → HasRoom start core
has_room start answers core batch is few = record {
  sound = prefix.sound;
  least = prefix.least;
  most = prefix.sound.sums.units;
  claim = omega (arith, is.bound, done, few, size);
  lock = omega (arith, lock, within, size);
  stop = by_stop is.stop;
}
  where
    m : ℕ
    m = folded_number start core.front

    within : m ≤ length answers
    within = folded_within start answers core batch is

    prefix : IsPrefix start m core.front
    prefix = subst (IsPrefix start m) (sym is.front) (prefix_of start answers m batch within)

    size : length answers ≤ 65536
    size = omega (arith, batch.room, batch.sound.total)

    bit : (b : Bool) → cond {A = ℕ} b 1 0 ≤ 1
    bit true = omega arith
    bit false = omega arith

    done : count_by is_done core.seats ≤ length core.seats * 1
    done = sum_by-le (λ s. cond {A = ℕ} (is_done s) 1 0) 1 core.seats (λ k d within. bit (is_done (get_or core.seats k d)))

    by_parity : (core.lock % 2 ≡ 0) ⊎ (core.lock % 2 ≡ 1) → core.lock ≤ 2 * m + 1
    by_parity (inl e) = omega (arith, is.even e)
    by_parity (inr o) = is.odd o

    parity : (n : ℕ) → (n % 2 ≡ 0) ⊎ (n % 2 ≡ 1)
    parity n = by (cases_lt (n % 2) 1)
      where
        by : (n % 2 < 1) ⊎ (1 ≤ n % 2) → (n % 2 ≡ 0) ⊎ (n % 2 ≡ 1)
        by (inl less) = inl (omega (arith, less))
        by (inr more) = inr (omega (arith, more))

    lock : core.lock ≤ 2 * m + 1
    lock = by_parity (parity core.lock)

    whole : (fold_from start answers (length answers)).sums.n ≤ 65536
    whole = (prefix_of start answers (length answers) batch (omega arith)).sound.sums.units

    by_stop : (core.stop ≡ 0) ⊎ ((core.stop ≡ count_before_end start answers + 1) × (is_going core.front.ending ≡ false)) → core.stop ≤ 65537
    by_stop (inl none) = omega (arith, none)
    by_stop (inr (told, over)) = omega (arith, told, whole)

-- what a full cell holds is an answer that may be folded
pub holds_valid :
    (start : Front) (answers : List Answer) (core : Core) (k : ℕ) → IsBatch start answers
    → IsCore start answers core → cell_at core.cells k ≢ 0
    → IsValidAnswer (answer_of (cell_at core.cells k))
holds_valid start answers core k batch is full = by_order (cases_lt k (length answers))
  where
    by_order : (k < length answers) ⊎ (length answers ≤ k) → IsValidAnswer (answer_of (cell_at core.cells k))
    by_order (inr past) = absurd (full (get_or_past core.cells k 0 (omega (arith, past, is.wide))))
    by_order (inl within) =
        let answer : Answer = get_or answers k (Cycles 0) in
        let held = batch.held k (Cycles 0) within in
        let word = (is.code k full).1 ∙ ap code_or_zero (slice_get-get_or answers k (Cycles 0) within) in
        subst IsValidAnswer (sym (ap answer_of word ∙ answer_of-code answer held)) (valid_of answer held)
