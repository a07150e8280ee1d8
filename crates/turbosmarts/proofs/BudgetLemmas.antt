-- Where the units of a run stand below its budget.
use Rattle.std.proofs.Common.{◌≡◌, ◌<◌, ◌≤◌, ◌+◌, ◌-◌, ◌*◌, ℕ, min, refl, sym, ap, ◌∙◌, subst, arith, List, add-one, eq-eqb}
use Rattle.std.proofs.lemmas.Grind.{div_ceil_times}
use Rattle.std.proofs.Math.Nat.{mul-le-mul_right, suc-mul}
use Rattle.std.specs.Int.{div_ceil}
use Rattle.hierarchy.specs.declared.config.Config.{Config}
use Rattle.rv_exec.specs.declared.event.Event.{Event}
use Rattle.rv_exec.specs.declared.event.Trap.{Trap}
use Rattle.rv_exec.specs.Machine.{State}
use Rattle.rv_machine.specs.declared.outcome.Outcome.TheVariants.{Exited, Trapped}
use Rattle.rv_machine.specs.Machine.{Machine}
use Rattle.rv_machine.specs.Outcome.{outcome_of}
use Rattle.sample_design.specs.declared.design.Design.{Design}
use Rattle.turbosmarts.specs.Measuring.{HasCome, HasShown, IsMeasuring, AreMeasured, units_ended}
use Rattle.turbosmarts.specs.Processor.{events_to}
use Rattle.turbosmarts.proofs.IsMeasuringLemmas.{all_measured, past_units}

pub next_unit : (unit size : ℕ) → (unit + 1) * size ≡ unit * size + size
next_unit unit size = ap (λ (n : ℕ). n * size) (add-one unit) ∙ suc-mul unit size

-- inside a loop over the units of a budget
pub in_loop :
    (budget size used unit end : ℕ) → used ≡ size → end ≡ div_ceil budget used → 0 < size → unit < end
    → unit * size < budget
in_loop budget size used unit end same is some h =
    let end_is : end ≡ div_ceil budget size = is ∙ ap (div_ceil budget) same in
    let bound = (div_ceil_times budget size some).1 in
    let most : (unit + 1) * size ≤ div_ceil budget size * size = mul-le-mul_right size (omega arith) in
    let next : (unit + 1) * size ≡ unit * size + size = next_unit unit size in
    omega arith

-- and behind it
pub after_loop :
    (budget size used unit end : ℕ) → used ≡ size → end ≡ div_ceil budget used → 0 < size → end ≤ unit
    → budget ≤ min (unit * size) budget
after_loop budget size used unit end same is some h =
    let end_is : end ≡ div_ceil budget size = is ∙ ap (div_ceil budget) same in
    let bound = (div_ceil_times budget size some).0 in
    let least : div_ceil budget size * size ≤ unit * size = mul-le-mul_right size (omega arith) in
    omega arith

pub place_is : (budget size unit : ℕ) → unit * size < budget → min (unit * size) budget ≡ unit * size
place_is budget size unit h = omega arith

-- the place behind a part that ran in full
pub next_place :
    (budget size unit : ℕ) → unit * size < budget
    → min (unit * size) budget + min size (budget - unit * size) ≡ min ((unit + 1) * size) budget
next_place budget size unit h =
    let next : (unit + 1) * size ≡ unit * size + size = next_unit unit size in
    omega arith

-- all units that end within the length of a run that exits were measured
pub units_at_exit :
    (config : Config) (start : State) (design : Design) (unit used ran len next : ℕ) (cycles : List ℕ)
    → used ≡ design.unit → 0 < design.unit → ran ≤ design.unit
    → IsMeasuring config start design (units_ended design.unit unit ran) next cycles
    → unit * used + ran ≡ len
    → AreMeasured config start design len cycles
units_at_exit config start design unit used ran len next cycles same some within before is =
    let length_is : unit * design.unit + ran ≡ len = rw (← same) is in
    let short : unit * design.unit + ran < (units_ended design.unit unit ran + 1) * design.unit =
    past_units design.unit unit ran some within in
    all_measured config start design (units_ended design.unit unit ran) next len cycles before
    (rw (← length_is) short)

-- the outcome of a run that traps in a part
pub trapped_in :
    (start : Machine) (budget size used unit ran len : ℕ) (trap : Trap)
    → used ≡ size → unit * size < budget → len ≡ min used (budget - unit * used) → ran < len
    → ((b : ℕ) → min (unit * size) budget + ran < b
    → outcome_of start.state b ≡ Trapped (min (unit * size) budget + ran) trap)
    → Trapped (unit * used + ran) trap ≡ outcome_of start.state budget
trapped_in start budget size used unit ran len trap same below is short ends =
    let place : min (unit * size) budget ≡ unit * size = place_is budget size unit below in
    let here : min (unit * size) budget + ran ≡ unit * used + ran = rw (same, place) refl in
    let len_is : len ≡ min size (budget - unit * size) = rw (← same) is in
    sym (ends budget (omega arith) ∙ ap (λ (n : ℕ). Trapped n trap) here)

-- the outcome of a run that exits in a part
pub exited_in :
    (start : Machine) (budget size used unit ran len code : ℕ)
    → used ≡ size → unit * size < budget → len ≡ min used (budget - unit * used) → ran ≤ len
    → ((b : ℕ) → min (unit * size) budget + ran ≤ b
    → outcome_of start.state b ≡ Exited code (min (unit * size) budget + ran))
    → Exited code (unit * used + ran) ≡ outcome_of start.state budget
exited_in start budget size used unit ran len code same below is short ends =
    let place : min (unit * size) budget ≡ unit * size = place_is budget size unit below in
    let here : min (unit * size) budget + ran ≡ unit * used + ran = rw (same, place) refl in
    let len_is : len ≡ min size (budget - unit * size) = rw (← same) is in
    sym (ends budget (omega arith) ∙ ap (λ (n : ℕ). Exited code n) here)

-- the run has come to the next unit
pub way_on :
    (shown : ℕ → Type 0) (start now : Machine) (budget size used unit len : ℕ)
    → used ≡ size → unit * size < budget → len ≡ min used (budget - unit * used)
    → HasCome shown start (min (unit * size) budget + len) now
    → HasCome shown start (min ((unit + 1) * size) budget) now
way_on shown start now budget size used unit len same below is way =
    let len_is : len ≡ min size (budget - unit * size) = rw (← same) is in
    let P : ℕ → Type 0 = λ n. HasCome shown start n now in
    subst P (ap (λ (n : ℕ). min (unit * size) budget + n) len_is ∙ next_place budget size unit below) way

-- where the next unit ends within the budget, this one ran whole
pub units_on :
    (config : Config) (start : State) (design : Design) (unit used ran len next : ℕ) (cycles : List ℕ)
    → used ≡ design.unit → len ≡ min used (design.budget - unit * used) → ran ≡ len
    → IsMeasuring config start design (units_ended design.unit unit ran) next cycles
    → (unit + 1) * design.unit ≤ design.budget
    → IsMeasuring config start design (unit + 1) next cycles
units_on config start design unit used ran len next cycles same is all before within =
    let len_is : len ≡ min design.unit (design.budget - unit * design.unit) = rw (← same) is in
    let longer : (unit + 1) * design.unit ≡ unit * design.unit + design.unit = next_unit unit design.unit in
    let whole : ran ≡ design.unit = omega arith in
    let ended : units_ended design.unit unit ran ≡ unit + 1 = rw (eq-eqb ran design.unit whole) refl in
    let P : ℕ → Type 0 = λ n. IsMeasuring config start design n next cycles in
    subst P ended before

-- what was shown of a part, from the unit's first instruction on
pub part_shown :
    (shown : ℕ → List Event → Type 0) (start : State) (budget size unit ran : ℕ) → unit * size < budget
    → HasShown (λ n. shown (min (unit * size) budget) (events_to start n)) start (min (unit * size) budget + ran)
    → HasShown (λ n. shown (unit * size) (events_to start n)) start (unit * size + ran)
part_shown shown start budget size unit ran below part =
    let P : ℕ → Type 0 = λ m. HasShown (λ n. shown m (events_to start n)) start (m + ran) in
    subst P (place_is budget size unit below) part

-- the processor kept what it was shown
pub come_kept :
    (shown now_shown : ℕ → List Event → Type 0) (start now : Machine) (begun place : ℕ)
    → HasCome (λ n. shown begun (events_to start.state n)) start place now
    → ((b : ℕ) (es : List Event) → shown b es → now_shown b es)
    → HasCome (λ n. now_shown begun (events_to start.state n)) start place now
come_kept shown now_shown start now begun place before keeps = record {
  way = before.way;
  after = before.after;
  shown = record { done = before.shown.done; shown = keeps begun (events_to start.state place) before.shown.shown };
}
