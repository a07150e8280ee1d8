-- What holds of the times of each trace of at most 110,000 instructions: none passes the last
-- retirement, and retirements rise, but not fast.
use Rattle.std.specs.Prelude.{ℕ, ◌+◌, ◌<◌, ◌≤◌, List, [], ◌∷◌, length, max}
use Rattle.std.specs.List.{AllByRecursion}
use Rattle.ruu_timing.specs.declared.timed.Timed.{Timed}
use Rattle.ruu_timing.specs.Times.{back, time_of}

-- it is retired by a cycle, and all else came before
pub record IsWithin (last : ℕ) (x : Timed) : Type 0 where
  pub fetch : x.fetch < last
  pub dispatch : x.dispatch < last
  pub issue : x.issue < last
  pub completion : x.completion < last
  pub retirement : x.retirement ≤ last

-- the retirement of the latest
abbrev pub last_of : List Timed → ℕ
last_of earlier = time_of (λ x. x.retirement) (back earlier 1)

-- it is retired with the one before it or up to 4096 cycles later, after the 16th before it and after its own
-- completion, and soon after it is dispatched and the one before it is retired; fetch and dispatch are in order, and
-- wait for a place in the largest fetch queue and in the largest unit
pub record IsRetiredAfter (earlier : List Timed) (x : Timed) : Type 0 where
  pub rises : last_of earlier ≤ x.retirement
  pub soon : x.retirement ≤ last_of earlier + 4096
  pub wide : time_of (λ y. y.retirement) (back earlier 16) < x.retirement
  pub complete : x.completion < x.retirement
  pub fetched : time_of (λ y. y.fetch) (back earlier 1) ≤ x.fetch
  pub order : time_of (λ y. y.dispatch) (back earlier 1) ≤ x.dispatch
  pub after : (x.fetch < x.dispatch) × ((x.dispatch < x.issue) × (x.issue < x.retirement))
  pub queue : time_of (λ y. y.dispatch) (back earlier 32) ≤ x.fetch
  pub unit : time_of (λ y. y.retirement) (back earlier 256) ≤ x.dispatch
  pub near : x.retirement ≤ max x.dispatch (last_of earlier) + 1220

-- so is each behind those before it
abbrev pub AreInOrder : List Timed → Type 0
AreInOrder [] = Unit {0}
AreInOrder (x ∷ earlier) = IsRetiredAfter earlier x × AreInOrder earlier

-- the times of so many instructions, the latest first
pub record AreTimed (earlier : List Timed) : Type 0 where
  pub each : AllByRecursion (IsWithin (last_of earlier)) earlier
  pub order : AreInOrder earlier
  pub few : length earlier ≤ 110000
