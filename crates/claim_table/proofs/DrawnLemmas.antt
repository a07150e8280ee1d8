-- What is folded was drawn.
use Rattle.std.proofs.Common.{◌≡◌, ◌+◌, ◌-◌, ◌≤◌, ℕ, zero, suc, false, List, refl, arith, sym, subst, ◌∙◌}
use Rattle.confidence.specs.declared.answer.Answer.{Answer}
use Rattle.ordered_fold.specs.declared.front.Front.{Front}
use Rattle.ordered_fold.specs.Front.{is_going}
use Rattle.ordered_fold.specs.Batch.{fold_from, folded_number}
use Rattle.ordered_fold.specs.Machine.{Core}
use Rattle.ordered_fold.specs.Invariant.{IsCore}
use Rattle.ordered_fold.proofs.BatchLemmas.{fold_from-over}

pub folded_drawn :
    (start : Front) (answers : List Answer) (core : Core) → IsCore start answers core
    → folded_number start core.front ≤ core.claim
folded_drawn start answers core is = by_number (folded_number start core.front) refl
  where
    by_number : (m : ℕ) → folded_number start core.front ≡ m → m ≤ core.claim
    by_number zero e = omega arith
    by_number (suc k) e =
        let full = is.full k (omega (arith, e)) in
        omega (arith, (is.code k full).0)

-- a front that has ended is the fold of all that were drawn
pub front_of_drawn :
    (start : Front) (answers : List Answer) (core : Core) → IsCore start answers core
    → is_going core.front.ending ≡ false → core.front ≡ fold_from start answers core.claim
front_of_drawn start answers core is over =
    let m : ℕ = folded_number start core.front in
    let sum : m + (core.claim - m) ≡ core.claim = omega (arith, folded_drawn start answers core is) in
    let ended : is_going (fold_from start answers m).ending ≡ false = subst (λ f. is_going f.ending ≡ false) is.front over in
    is.front ∙ sym (rw sum at (fold_from-over start answers m (core.claim - m) ended))
