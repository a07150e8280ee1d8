-- How the stages of a sample fit together.
use Rattle.std.proofs.Common.{◌≡◌, ◌<◌, ◌≤◌, ℕ, List, Bool, None, Result, Ok, Err, IfOk, length, slice_index, zero, suc, refl, sym, ap, ◌∙◌, arith, inl, inr, eq-eqb}
use Rattle.std.proofs.lemmas.Bool.{cases_lt, cases_eq, ne_eqb, lt-ltb, le-ltb}
use Rattle.confidence.specs.declared.answer.Answer.TheVariants.{Cycles}
use Rattle.confidence.specs.declared.verdict.Test.{Test}
use Rattle.hierarchy.specs.declared.config.Config.{Config}
use Rattle.elf_image.specs.Image.{ImageValue, image_of}
use Rattle.ordered_fold.specs.declared.front.Front.{Front}
use Rattle.ordered_fold.specs.Front.{front_of}
use Rattle.rv_exec.specs.Machine.{State}
use Rattle.rv_machine.specs.declared.outcome.Outcome.{Outcome}
use Rattle.rv_machine.specs.Machine.{Machine, started}
use Rattle.rv_machine.specs.Outcome.{outcome_of}
use Rattle.rv_machine.specs.Start.{start_of}
use Rattle.sample_design.specs.declared.design.Design.{Design}
use Rattle.sample_design.specs.Order.{order_of}
use Rattle.sample_design.specs.declared.units.UnitsFault.TheVariants.{NoUnits, TooMany}
use Rattle.sample_design.specs.Units.{judged, sampled_unit, unit_count, units_of}
use Rattle.smarts_text.specs.Report.{report_of}
use Rattle.turbosmarts.specs.commands.Sample.{units_or_fault, report_on, sample_result}
use Rattle.turbosmarts.specs.declared.ending.Exit.{Exit}
use Rattle.turbosmarts.specs.Stages.{image_or_fault, exit_or_fault}
use Rattle.unit_answers.specs.Answers.{whole_answer, unit_answers}
use Rattle.turbosmarts.specs.Folding.{visited}
use Rattle.turbosmarts.proofs.FoldingLemmas.{visited_is, ending_whole}

-- a machine that an image starts hasn't exited
start_exit : (image : ImageValue) → (start_of image).exit ≡ None
unfolding start_of
start_exit image = refl

pub start_runs :
    {E : Type 0} (image : ImageValue) (keeps : Bool) (r : Result Machine E)
    → IfOk r (λ whole. whole ≡ started image keeps) → IfOk r (λ whole. whole.state.exit ≡ None)
start_runs image keeps (Ok whole) is = ap (λ (m : Machine). m.state.exit) is ∙ start_exit image
start_runs image keeps (Err e) is = tt

not_zero : (n : ℕ) → (n ≡ 0 → ⊥) → 0 < n
not_zero zero other = absurd (other refl)
not_zero (suc n) other = omega arith

judged_bounds :
    (length count n : ℕ) → judged length count ≡ Ok n → (0 < n) × (n ≤ 65536) × (n ≡ count)
judged_bounds length count n is =
    elim (cases_eq count 0) [
      | inl none ↦
          let refused : judged length count ≡ Err (NoUnits length) = rw (eq-eqb count 0 none) refl in
          cc
      | inr some ↦
          elim (cases_lt 65536 count) [
            | inl many ↦
                let refused : judged length count ≡ Err (TooMany count) =
                rw (ne_eqb count 0 some, lt-ltb 65536 count many) refl in
                cc
            | inr few ↦
                let kept : judged length count ≡ Ok count =
                rw (ne_eqb count 0 some, le-ltb 65536 count few) refl in
                let same : n ≡ count = cc in
                let above : 0 < count = not_zero count some in
                (omega arith, omega arith, same)
          ]
    ]

-- how many units there are is told by their bounds
pub units_bounds :
    (design : Design) (length n : ℕ) → Ok n ≡ units_of design length
    → (0 < n) × (n ≤ 65536) × (n ≡ unit_count design length)
unfolding units_of
units_bounds design length n is = judged_bounds length (unit_count design length) n (sym is)

-- the report on a front that folded what was measured
pub report_is :
    (config : Config) (start : State) (design : Design) (test : Test) (len count : ℕ)
    (cycles order : List ℕ) (front : Front)
    → 0 < count
    → ((p : ℕ) → p < count → whole_answer config start design (sampled_unit design p) ≡ Cycles (slice_index cycles p))
    → order ≡ order_of count design.seed → length order ≡ count → ((k : ℕ) → k < count → slice_index order k < count)
    → front ≡ front_of (length order) test (visited cycles order)
    → report_of len count design.unit front.ending front.sums test.z
    ≡ report_on design test len count (unit_answers config start design count)
report_is config start design test len count cycles order front some units is wide places fold =
    let answers : visited cycles order ≡ unit_answers config start design count =
    visited_is config start design count cycles order units is (λ k h. places k (omega arith)) in
    let whole = ending_whole test cycles order front (omega arith) fold in
    rw (whole.0, whole.1, answers) refl

-- the stages of a sample, one after the other
pub sampled_is :
    (config : Config) (design : Design) (test : Test) (input : List ℕ) (image : ImageValue) (start : State)
    (outcome : Outcome) (exit : Exit) (count : ℕ) (report : List ℕ)
    → image_or_fault (image_of input) ≡ Ok image
    → start ≡ start_of image
    → outcome ≡ outcome_of start design.budget
    → exit_or_fault design.budget outcome ≡ Ok exit
    → units_or_fault (units_of design exit.length) ≡ Ok count
    → report ≡ report_on design test exit.length count (unit_answers config start design count)
    → sample_result design config test input ≡ Ok (record { bytes = report; exit = None })
unfolding sample_result
sampled_is config design test input image start outcome exit count report loads starts ends exits counts reports =
    let ran : exit_or_fault design.budget (outcome_of (start_of image) design.budget) ≡ Ok exit =
    rw (← starts, ← ends) exits in
    let told : report ≡ report_on design test exit.length count (unit_answers config (start_of image) design count) =
    rw (← starts) reports in
    rw (loads, ran, counts, told) refl
