-- How many of the sampled units end within a run.
use Rattle.std.proofs.Common.{◌≡◌, ◌+◌, ◌-◌, ◌*◌, ◌/◌, ◌<◌, ◌≤◌, ◌↔◌, ℕ, Bool, true, false, zero, suc, cond, min, nat_le, refl, sym, arith, inl, inr}
use Rattle.std.specs.List.{range_with_len}
use Rattle.std.specs.Prelude.{count_by}
use Rattle.std.specs.Int.{div_ceil}
use Rattle.std.proofs.lemmas.Bool.{cases_lt, le-leb, lt-leb}
use Rattle.std.proofs.lemmas.List.Sums.{sum_by-cons}
use Rattle.std.proofs.lemmas.Grind.{div_ceil_times}
use Rattle.std.proofs.lemmas.Nat.{mul-le}
use Rattle.std.proofs.Math.Nat.{mul-le-mul_right, le-div_iff_mul-le}
use Rattle.sample_design.specs.declared.design.Design.{Design}
use Rattle.sample_design.specs.Design.{IsUsable}
use Rattle.sample_design.specs.Units.{EndsWithin, end_of, sampled_unit, unit_count}

-- where the numbers that pass a test are those below n, it is passed n times, or as often as the
-- numbers from a on reach
counted_from :
    (test : ℕ → Bool) (n a m : ℕ) → ((p : ℕ) → p < n → test p ≡ true) → ((p : ℕ) → n ≤ p → test p ≡ false)
    → count_by test (range_with_len a m) ≡ min m (n - a)
counted_from test n a zero passes fails = omega arith
counted_from test n a (suc m) passes fails =
    let rest : count_by test (range_with_len (a + 1) m) ≡ min m (n - (a + 1)) =
    counted_from test n (a + 1) m passes fails in
    let first : count_by test (range_with_len a (suc m))
    ≡ cond {A = ℕ} (test a) 1 0 + count_by test (range_with_len (a + 1) m) =
    sum_by-cons (λ x. cond (test x) 1 0) a (range_with_len (a + 1) m) in
    elim (cases_lt a n) [
      | inl lt ↦
          let one : cond {A = ℕ} (test a) 1 0 ≡ 1 = rw (passes a lt) refl in
          omega arith
      | inr ge ↦
          let none : cond {A = ℕ} (test a) 1 0 ≡ 0 = rw (fails a ge) refl in
          omega arith
    ]

-- the numbers below a quotient rounded up
below_quotient : (d e p : ℕ) → 0 < e → p < div_ceil d e → p * e < d
below_quotient d e p positive below =
    let bounds = div_ceil_times d e positive in
    let step : (p + 1) * e ≤ div_ceil d e * e = mul-le-mul_right e (omega arith) in
    omega (arith, bounds.1)

above_quotient : (d e p : ℕ) → 0 < e → p * e < d → p < div_ceil d e
above_quotient d e p positive below =
    elim (cases_lt p (div_ceil d e)) [
      | inl lt ↦ lt
      | inr ge ↦
          let bounds = div_ceil_times d e positive in
          let step : div_ceil d e * e ≤ p * e = mul-le-mul_right e ge in
          absurd (omega (arith, bounds.0))
    ]

abbrev quotient : Design → ℕ → ℕ
quotient design length = div_ceil (length / design.unit - design.offset) design.every

ends_below :
    (design : Design) (length p : ℕ) → IsUsable design → p < quotient design length
    → EndsWithin design length (sampled_unit design p)
ends_below design length p usable below =
    let near : p * design.every < length / design.unit - design.offset =
    below_quotient _ _ p (omega (arith, usable.ranges.every_least)) below in
    let positive : 0 < design.unit = omega (arith, usable.ranges.unit_least) in
    let whole : sampled_unit design p + 1 ≤ length / design.unit = omega arith in
    (le-div_iff_mul-le positive).0 whole

below_ends :
    (design : Design) (length p : ℕ) → IsUsable design
    → EndsWithin design length (sampled_unit design p) → p < quotient design length
below_ends design length p usable ends =
    let positive : 0 < design.unit = omega (arith, usable.ranges.unit_least) in
    let whole : sampled_unit design p + 1 ≤ length / design.unit =
    (le-div_iff_mul-le positive).1 ends in
    let near : p * design.every < length / design.unit - design.offset = omega arith in
    above_quotient _ _ p (omega (arith, usable.ranges.every_least)) near

ends_after :
    (design : Design) (length p : ℕ) → IsUsable design → quotient design length ≤ p
    → length < end_of design (sampled_unit design p)
ends_after design length p usable above =
    elim (cases_lt length (end_of design (sampled_unit design p))) [
      | inl lt ↦ lt
      | inr ge ↦
          let below : p < quotient design length = below_ends design length p usable ge in
          absurd (omega arith)
    ]

-- there are no more sampled units than instructions
quotient_small :
    (design : Design) (length : ℕ) → IsUsable design → quotient design length ≤ length
quotient_small design length usable =
    elim (cases_lt length (quotient design length)) [
      | inl lt ↦
          let ends : end_of design (sampled_unit design length) ≤ length =
          ends_below design length length usable lt in
          let far : length * 1 ≤ length * design.every = mul-le length 1 length design.every (omega arith) (omega (arith, usable.ranges.every_least)) in
          let wide : (length + 1) * 1 ≤ end_of design (sampled_unit design length) =
          mul-le (length + 1) 1 (sampled_unit design length + 1) design.unit (omega arith) (omega (arith, usable.ranges.unit_least)) in
          absurd (omega arith)
      | inr ge ↦ ge
    ]

pub count_is :
    (design : Design) (length : ℕ) → IsUsable design
    → quotient design length ≡ unit_count design length
unfolding unit_count
count_is design length usable =
    let n : ℕ = quotient design length in
    let passes : (p : ℕ) → p < n → nat_le (end_of design (sampled_unit design p)) length ≡ true =
    λ p below. le-leb _ _ (ends_below design length p usable below) in
    let fails : (p : ℕ) → n ≤ p → nat_le (end_of design (sampled_unit design p)) length ≡ false =
    λ p above. lt-leb _ _ (ends_after design length p usable above) in
    let counted : unit_count design length ≡ min length (n - 0) =
    counted_from (λ p. nat_le (end_of design (sampled_unit design p)) length) n 0 length passes fails in
    omega (arith, quotient_small design length usable)

pub below_count :
    (design : Design) (length : ℕ) → IsUsable design
    → (p : ℕ) → (p < unit_count design length) ↔ EndsWithin design length (sampled_unit design p)
below_count design length usable p =
    rw (sym (count_is design length usable))
    (ends_below design length p usable, below_ends design length p usable)
