-- Measuring the units of a run, one after the other.
use Rattle.std.proofs.Common.{◌≡◌, ◌<◌, ◌≤◌, ◌+◌, ◌*◌, ◌++◌, ℕ, List, [], ◌∷◌, length, sym, ap, ◌∙◌, arith, inl, inr, add-one, eq-eqb}
use Rattle.std.proofs.Math.Nat.{mul-le-mul_left, mul-le-mul_right, mul-suc, suc-mul}
use Rattle.std.proofs.lemmas.Bool.{cases_lt, cases_eq, ne_eqb}
use Rattle.std.proofs.lemmas.List.{length-append, get_or_append_left}
use Rattle.std.proofs.Math.Seq.{get_or-append_seam}
use Rattle.confidence.specs.declared.answer.Answer.TheVariants.{Cycles}
use Rattle.confidence.specs.Sums.{IsCycles}
use Rattle.hierarchy.specs.declared.config.Config.{Config}
use Rattle.rv_exec.specs.Machine.{State}
use Rattle.sample_design.specs.declared.design.Design.{Design}
use Rattle.sample_design.specs.Units.{sampled_unit}
use Rattle.turbosmarts.specs.Measuring.{IsMeasuring, AreMeasured, units_ended}
use Rattle.unit_answers.specs.Answers.{whole_answer}

pub measuring_start :
    (config : Config) (start : State) (design : Design) → design.offset ≤ 999_999
    → IsMeasuring config start design 0 design.offset []
measuring_start config start design low = record {
  next_is = omega arith;
  few = omega arith;
  small = omega arith;
  ahead = λ h. omega arith;
  units = λ p h. absurd (omega arith);
  valid = λ p h. absurd (omega arith);
}

-- the unit isn't sampled, or enough are
pub measuring_on :
    (config : Config) (start : State) (design : Design) (unit next : ℕ) (cycles : List ℕ)
    → IsMeasuring config start design unit next cycles
    → (unit ≡ next → 65536 ≤ length cycles)
    → IsMeasuring config start design (unit + 1) next cycles
measuring_on config start design unit next cycles before passed = record {
  next_is = before.next_is;
  few = before.few;
  small = before.small;
  ahead = λ h.
      let behind : unit ≤ next = before.ahead h in
      elim (cases_lt unit next) [
        | inl lt ↦ omega arith
        | inr ge ↦
            let same : unit ≡ next = omega arith in
            let full : 65536 ≤ length cycles = passed same in
            absurd (omega arith)
      ];
  units = before.units;
  valid = before.valid;
}

-- the unit is the next one that is sampled
pub measuring_more :
    (config : Config) (start : State) (design : Design) (unit next c : ℕ) (cycles : List ℕ)
    → IsMeasuring config start design unit next cycles
    → unit ≡ next → length cycles < 65536 → 1 ≤ design.every → design.every ≤ 1_000_000 → IsCycles c
    → whole_answer config start design unit ≡ Cycles c
    → IsMeasuring config start design (unit + 1) (next + design.every) (cycles ++ c ∷ [])
measuring_more config start design unit next c cycles before here room every most valid is =
    let longer : length (cycles ++ c ∷ []) ≡ length cycles + 1 = length-append cycles (c ∷ []) in
    let place : sampled_unit design (length cycles) ≡ unit = sym before.next_is ∙ sym here in
    let times : design.every * (length cycles + 1) ≡ design.every * length cycles + design.every =
    rw add-one (mul-suc design.every (length cycles)) in
    record {
      next_is = omega (arith, before.next_is, ap (λ (n : ℕ). design.every * n) longer);
      few = omega arith;
      small = omega (arith, before.small);
      ahead = λ h. omega arith;
      units = λ p h.
          elim (cases_lt p (length cycles)) [
            | inl lt ↦
                before.units p lt ∙ ap Cycles (sym (get_or_append_left cycles (c ∷ []) 0 p lt))
            | inr ge ↦
                let same : p ≡ length cycles = omega arith in
                rw same (ap (whole_answer config start design) place ∙ is
                ∙ ap Cycles (sym (get_or-append_seam cycles c [] 0)))
          ];
      valid = λ p h.
          elim (cases_lt p (length cycles)) [
            | inl lt ↦ rw (get_or_append_left cycles (c ∷ []) 0 p lt) (before.valid p lt)
            | inr ge ↦
                let same : p ≡ length cycles = omega arith in
                rw (same, get_or-append_seam cycles c [] 0) valid
          ];
    }

-- the unit of which so many instructions ran is no whole one
pub measuring_cut :
    (config : Config) (start : State) (design : Design) (unit next ran : ℕ) (cycles : List ℕ)
    → IsMeasuring config start design unit next cycles
    → (ran ≡ design.unit → unit ≡ next → 65536 ≤ length cycles)
    → IsMeasuring config start design (units_ended design.unit unit ran) next cycles
measuring_cut config start design unit next ran cycles before passed =
    elim (cases_eq ran design.unit) [
      | inl same ↦
          rw (eq-eqb ran design.unit same) (measuring_on config start design unit next cycles before (passed same))
      | inr other ↦ rw (ne_eqb ran design.unit other) before
    ]

-- a unit that ran whole and is the next one that is sampled
pub measuring_kept :
    (config : Config) (start : State) (design : Design) (unit next c ran : ℕ) (cycles : List ℕ)
    → IsMeasuring config start design unit next cycles
    → ran ≡ design.unit → unit ≡ next → length cycles < 65536 → 1 ≤ design.every → design.every ≤ 1_000_000
    → IsCycles c → whole_answer config start design unit ≡ Cycles c
    → IsMeasuring config start design (units_ended design.unit unit ran) (next + design.every) (cycles ++ c ∷ [])
measuring_kept config start design unit next c ran cycles before whole here room every most valid is =
    rw (eq-eqb ran design.unit whole)
    (measuring_more config start design unit next c cycles before here room every most valid is)

below_if_other : (a b : ℕ) → a ≤ b → (a ≡ b → ⊥) → a < b
below_if_other a b h other =
    elim (cases_lt a b) [ inl lt ↦ lt | inr ge ↦ let same : a ≡ b = omega arith in absurd (other same) ]

-- a unit is longer than what ran of it
pub past_units :
    (size unit ran : ℕ) → 0 < size → ran ≤ size
    → unit * size + ran < (units_ended size unit ran + 1) * size
past_units size unit ran some within =
    let one : (unit + 1) * size ≡ unit * size + size =
    ap (λ (n : ℕ). n * size) (add-one unit) ∙ suc-mul unit size in
    let two : (unit + 1 + 1) * size ≡ (unit + 1) * size + size =
    ap (λ (n : ℕ). n * size) (add-one (unit + 1)) ∙ suc-mul (unit + 1) size in
    elim (cases_eq ran size) [
      | inl same ↦ rw (eq-eqb ran size same) (omega arith)
      | inr other ↦
          let less : ran < size = below_if_other ran size within other in
          rw (ne_eqb ran size other) (omega arith)
    ]

-- where the run is as long as so many units and a part of one, all that end within it were measured
pub all_measured :
    (config : Config) (start : State) (design : Design) (unit next len : ℕ) (cycles : List ℕ)
    → IsMeasuring config start design unit next cycles → len < (unit + 1) * design.unit
    → AreMeasured config start design len cycles
all_measured config start design unit next len cycles before short = record {
  all = λ p few ends.
      elim (cases_lt p (length cycles)) [
        | inl lt ↦ lt
        | inr ge ↦
            let behind : unit ≤ next = before.ahead (omega arith) in
            let later : design.every * length cycles ≤ design.every * p = mul-le-mul_left design.every ge in
            let past : (unit + 1) * design.unit ≤ (sampled_unit design p + 1) * design.unit =
            mul-le-mul_right design.unit (omega (arith, before.next_is)) in
            absurd (omega arith)
      ];
  units = before.units;
  valid = before.valid;
}
