-- Laws of live-points.
use Rattle.std.specs.Prelude.{◌≡◌, ◌<◌, ◌%◌, ℕ, None, List, map}
use Rattle.hierarchy.specs.declared.config.Config.{Config}
use Rattle.rv_exec.specs.Machine.{State}
use Rattle.rv_exec.specs.Runs.{run_of}
use Rattle.rv_machine.specs.declared.outcome.Outcome.TheVariants.{Exited}
use Rattle.rv_machine.specs.Outcome.{outcome_of}
use Rattle.sample_design.specs.declared.design.Design.{Design}
use Rattle.sample_design.specs.Units.{sampled_unit, EndsWithin}
use Rattle.unit_answers.specs.Answers.{whole_answer, unit_answers}
use Rattle.live_points.specs.declared.header.Header.{Header}
use Rattle.live_points.specs.declared.point.LivePoint.{LivePoint}
use Rattle.live_points.specs.Sharing.{IsSharing}
use Rattle.live_points.specs.Points.{point_of, points_of, IsPointOf}
use Rattle.live_points.specs.PointAnswers.{point_answer}
use Rattle.live_points.specs.Beyond.{IsWithin}

-- the point of a unit that ends within a run which goes on so far answers as the unit does on the whole machine
abbrev pub PointsAnswer : Type 0
PointsAnswer =
    (start : State) (length : ℕ) (header : Header) (config : Config) (unit : ℕ)
    → (run_of start length).halt ≡ None → header.heap_low ≡ start.heap_low → IsWithin header.records config
    → 0 < header.design.unit → EndsWithin header.design length unit
    → point_answer config header (point_of header start unit) ≡ whole_answer config start header.design unit

-- and so do the points of all sampled units, in the order of visits
abbrev pub AllPointsAnswer : Type 0
AllPointsAnswer =
    (start : State) (length : ℕ) (header : Header) (config : Config) (count : ℕ)
    → (run_of start length).halt ≡ None → header.heap_low ≡ start.heap_low → IsWithin header.records config
    → 0 < header.design.unit
    → ((p : ℕ) → p < count → EndsWithin header.design length (sampled_unit header.design p))
    → map (point_answer config header) (points_of header start count)
    ≡ unit_answers config start header.design count

-- a run that exits goes on up to its exit
abbrev pub ExitsGoOn : Type 0
ExitsGoOn =
    (start : State) (budget length code : ℕ) → start.exit ≡ None
    → outcome_of start budget ≡ Exited code length → (run_of start length).halt ≡ None

-- the budget of the design changes no answer
abbrev pub BudgetIsNothing : Type 0
BudgetIsNothing =
    (config : Config) (start : State) (design : Design) (count budget : ℕ)
    → unit_answers config start (record design { budget = budget }) count ≡ unit_answers config start design count

-- the point of a unit that ends within a run which goes on so far is one of its header
abbrev pub PointsAreOfHeader : Type 0
PointsAreOfHeader =
    (start : State) (length : ℕ) (header : Header) (unit : ℕ) → (run_of start length).halt ≡ None
    → start.pc % 4 ≡ 0 → EndsWithin header.design length unit → IsPointOf header (point_of header start unit)

-- pairs are shared in one way
abbrev pub SharingIsOne : Type 0
SharingIsOne =
    (points : List LivePoint) (one other : List (ℕ × ℕ)) → IsSharing points one → IsSharing points other → one ≡ other
