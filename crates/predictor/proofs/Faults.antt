-- Tables have no fault exactly where all parts are in their ranges.
use Rattle.std.proofs.Common.{◌≡◌, ◌<◌, ◌^◌, ℕ, Bool, true, false, not, ◌↔◌, if◌then◌else◌, Option, Some, None, List, length, get_or, refl, arith}
use Rattle.std.specs.Prelude.{nat_lt}
use Rattle.std.specs.List.{AllPass}
use Rattle.std.proofs.lemmas.List.Elements.{All-from_get_or}
use Rattle.std.proofs.lemmas.Bool.Decides.{nat_tests}
use Rattle.std.proofs.lemmas.Nat.{pow_pos}
use Rattle.smarts_base.specs.Least.{least_below}
use Rattle.std.specs.Option.{option_or}
use Rattle.smarts_base.proofs.Leasts.{least_below_none, none_passes}
use Rattle.predictor.specs.declared.parts.BadPart.{BadPart}
use Rattle.predictor.specs.declared.kind.Scheme.{Scheme}
use Rattle.predictor.specs.declared.kind.Scheme.TheVariants.{Bimodal, Gshare}
use Rattle.predictor.specs.Tables.{Tables, no_target}
use Rattle.predictor.specs.Parts.{fault_of, fault_at, IsInRange, is_counter, is_history, is_instruction, is_entry, histories, bad_counter, bad_entry, bad_address}

or_else_none : {X : Type 0} (a b : Option X) → option_or a b ≡ None → (a ≡ None) × (b ≡ None)
or_else_none None b e = (refl, e)
or_else_none (Some x) b e = cc

fault_at_none : (part : ℕ) (place : Option ℕ) → fault_at part place ≡ None → place ≡ None
fault_at_none part None e = refl
fault_at_none part (Some i) e = cc

if_none : {X : Type 0} (b : Bool) (x : X) → (if b then None else Some x) ≡ None → b ≡ true
if_none true x e = refl
if_none false x e = cc

passed : (b : Bool) → not b ≡ false → b ≡ true
passed true e = refl
passed false e = cc

failed : (b : Bool) → b ≡ true → not b ≡ false
failed true e = refl
failed false e = cc

all_pass :
    (test : ℕ → Bool) (xs : List ℕ) → least_below (length xs) (λ i. not (test (get_or xs i 0))) ≡ None
    → AllPass test xs
all_pass test xs e =
    All-from_get_or (λ x. test x ≡ true) xs 0
    (λ i h. passed (test (get_or xs i 0)) (none_passes (length xs) (λ k. not (test (get_or xs k 0))) e i h))

none_fails :
    (test : ℕ → Bool) (xs : List ℕ) → AllPass test xs
    → least_below (length xs) (λ i. not (test (get_or xs i 0))) ≡ None
none_fails test xs all =
    least_below_none (length xs) (λ i. not (test (get_or xs i 0)))
    (λ i h. failed (test (get_or xs i 0)) (all i 0 h))

pub no_fault : (t : Tables) → fault_of t ≡ None → IsInRange t
unfolding fault_of
no_fault t e =
    let counters : Option ℕ = least_below (length t.counters) (bad_counter t.counters) in
    let targets : Option ℕ = least_below (length t.targets) (bad_entry t.kind t.targets) in
    let stack : Option ℕ = least_below (length t.stack) (bad_address t.stack) in
    let history : Option BadPart = if is_history t.kind t.history then None else fault_at 1 (Some 0) in
    let last : Option BadPart = option_or (fault_at 2 targets) (fault_at 3 stack) in
    let a : (fault_at 0 counters ≡ None) × (option_or history last ≡ None) =
    or_else_none (fault_at 0 counters) (option_or history last) e in
    let b : (history ≡ None) × (last ≡ None) = or_else_none history last a.1 in
    let c : (fault_at 2 targets ≡ None) × (fault_at 3 stack ≡ None) =
    or_else_none (fault_at 2 targets) (fault_at 3 stack) b.1 in
    record {
      counters = all_pass is_counter t.counters (fault_at_none 0 counters a.0);
      history = if_none (is_history t.kind t.history) (record { part = 1; index = 0 }) b.0;
      targets = λ i h. passed (is_entry t.kind i (get_or t.targets i no_target))
          (none_passes (length t.targets) (bad_entry t.kind t.targets) (fault_at_none 2 targets c.0) i h);
      stack = all_pass is_instruction t.stack (fault_at_none 3 stack c.1);
    }

pub in_range_none : (t : Tables) → IsInRange t → fault_of t ≡ None
unfolding fault_of
in_range_none t range =
    let targets : least_below (length t.targets) (bad_entry t.kind t.targets) ≡ None =
    least_below_none (length t.targets) (bad_entry t.kind t.targets)
    (λ i h. failed (is_entry t.kind i (get_or t.targets i no_target)) (range.targets i h)) in
    rw (
      none_fails is_counter t.counters range.counters,
      range.history,
      targets,
      none_fails is_instruction t.stack range.stack,
    ) refl

pub faults_are : (t : Tables) → (fault_of t ≡ None) ↔ IsInRange t
faults_are t = (no_fault t, in_range_none t)

-- a history in its range has as many digits as the kind says
pub history_below :
    (scheme : Scheme) (bits history : ℕ) → nat_lt history (histories scheme bits) ≡ true
    → history < 2 ^ bits
history_below Bimodal bits history e = let h : 0 < 2 ^ bits = pow_pos bits in grind (arith, nat_tests)
history_below Gshare bits history e = grind (arith, nat_tests)
