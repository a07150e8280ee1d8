-- What holds of the times of every trace.
use Rattle.std.specs.Prelude.{◌≡◌, ◌<◌, ◌≤◌, ℕ, Bool, List, length, take, All, true, false}
use Rattle.rv_isa.specs.declared.roles.Class.{Class}
use Rattle.hierarchy.specs.declared.marked.Marked.{Marked}
use Rattle.hierarchy.specs.declared.widths.Widths.{Widths}
use Rattle.hierarchy.specs.Widths.{AreWidths}
use Rattle.hierarchy.specs.Marked.{IsMarked}
use Rattle.ruu_timing.specs.Times.{has_slot, issue_of, times}

-- the number is the first from `ready` on that passes the test
pub record IsFirst (test : ℕ → Bool) (ready t : ℕ) : Type 0 where
  pub start : ready ≤ t
  pub passes : test t ≡ true
  pub first : (k : ℕ) → ready ≤ k → k < t → test k ≡ false

-- behind any trace an instruction issues in the first cycle, from when it is ready, that has a slot for it
abbrev pub IssuesAtFirst : Type 0
IssuesAtFirst =
    (w : Widths) (ms : List Marked) (class : Class) (ready : ℕ)
    → AreWidths w → length ms ≤ 110000 → All IsMarked ms
    → IsFirst (has_slot w (times w ms) class) ready (issue_of w (times w ms) class ready)

-- each instruction of a trace issues in the first cycle, from when it is ready, that has a slot for
-- it behind the instructions before it
abbrev pub IssueFirst : Widths → List Marked → Type 0
IssueFirst w ms =
    (place : ℕ) (class : Class) (ready : ℕ)
    → IsFirst (has_slot w (times w (take place ms)) class) ready
    (issue_of w (times w (take place ms)) class ready)
