-- What holds of every run of the machine, whichever events come, and of the fold that it makes.
use Rattle.std.specs.Prelude.{◌≡◌, ◌≢◌, ◌⊎◌, ◌+◌, ◌<◌, ◌≤◌, ℕ, false, List, ◌++◌, length, drop, fold}
use Rattle.confidence.specs.declared.answer.Answer.{Answer}
use Rattle.ordered_fold.specs.declared.front.Front.{Front}
use Rattle.ordered_fold.specs.declared.event.CoreEvent.{CoreEvent}
use Rattle.ordered_fold.specs.Front.{is_going}
use Rattle.ordered_fold.specs.Batch.{fold_from, folded_number, count_before_end, IsBatch}
use Rattle.ordered_fold.specs.Machine.{Core, seat_at, cell_at, core_step, core_after}
use Rattle.ordered_fold.specs.Invariant.{HasHand, IsCore}

-- some number of seats and some events lead there
abbrev pub IsReached : Front → List Answer → Core → Type 0
IsReached start answers core =
    (seats : ℕ) × (events : List CoreEvent) × (0 < seats)
    × (core ≡ core_after start answers seats events)

-- whatever comes, the invariant holds
abbrev pub KeepsInvariant : Type 0
KeepsInvariant =
    (start : Front) (answers : List Answer) (core : Core)
    → IsBatch start answers → IsReached start answers core → IsCore start answers core

-- two seats never hold one number
abbrev pub NoNumberTwice : Type 0
NoNumberTwice =
    (start : Front) (answers : List Answer) (core : Core)
    → IsBatch start answers → IsReached start answers core → (i j k : ℕ)
    → HasHand k (seat_at core.seats i) → HasHand k (seat_at core.seats j) → i ≡ j

-- an event folds nothing, or the next answer in order, which was reported
abbrev pub FoldsInOrder : Type 0
FoldsInOrder =
    (start : Front) (answers : List Answer) (core : Core) (event : CoreEvent)
    → IsBatch start answers → IsReached start answers core
    → let m = folded_number start core.front in
    let after = core_step start answers core event in
    (core.front ≡ fold_from start answers m)
    × ((after.front ≡ core.front)
    ⊎ ((after.front ≡ fold_from start answers (m + 1)) × (m < length answers) × (cell_at core.cells m ≢ 0)))

-- an end that was announced is the batch's, and stays announced
abbrev pub StopStays : Type 0
StopStays =
    (start : Front) (answers : List Answer) (core : Core) (events : List CoreEvent)
    → IsBatch start answers → IsReached start answers core → core.stop ≢ 0
    → (core.stop ≡ count_before_end start answers + 1)
    × ((fold (core_step start answers) core events).stop ≡ core.stop)

-- whichever seats and events led there: a front that has ended, or has all answers, is the fold of them all
abbrev pub OneFold : Type 0
OneFold =
    (start : Front) (answers : List Answer) (core : Core)
    → IsBatch start answers → IsReached start answers core
    → (is_going core.front.ending ≡ false) ⊎ (length answers ≤ folded_number start core.front)
    → core.front ≡ fold_from start answers (length answers)

-- a fold may be cut anywhere, and goes on where it was cut
abbrev pub FoldIsCut : Type 0
FoldIsCut =
    (start : Front) (answers : List Answer) (m n : ℕ)
    → fold_from start answers (m + n) ≡ fold_from (fold_from start answers m) (drop m answers) n

-- so a list may be folded in batches
abbrev pub FoldIsJoined : Type 0
FoldIsJoined =
    (start : Front) (before after : List Answer) (n : ℕ)
    → fold_from start (before ++ after) (length before + n)
    ≡ fold_from (fold_from start before (length before)) after n
