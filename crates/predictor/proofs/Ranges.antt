-- What events of instructions leave in range.
use Rattle.std.proofs.Common.{◌≡◌, ◌<◌, ◌+◌, ◌*◌, ◌-◌, ◌%◌, ◌/◌, ◌^◌, ℕ, Bool, true, false, if◌then◌else◌, List, [], ◌∷◌, ◌++◌, length, get_or, set, refl, arith, ◌≢◌, inl, inr, eq-eqb, ap, ◌∙◌}
use Rattle.std.specs.Prelude.{nat_lt}
use Rattle.std.specs.List.{AllPass}
use Rattle.std.proofs.lemmas.Bool.{cases_eq, cases_lt, ne_eqb}
use Rattle.std.proofs.lemmas.Grind.{get_or-set_at}
use Rattle.std.proofs.lemmas.Bool.Decides.{nat_tests}
use Rattle.std.proofs.lemmas.List.{get_or-replicate, length-replicate, get_or-set_other, length-set, get_or_past}
use Rattle.std.proofs.lemmas.List.Elements.{All-set, All-take, All-drop, All-replicate, All-nil, All-push}
use Rattle.std.proofs.lemmas.Nat.{pow_pos}
use Rattle.std.proofs.Math.Nat.{mod-lt}
use Rattle.predictor.specs.declared.kind.PredictorKind.{PredictorKind}
use Rattle.predictor.specs.declared.kind.Scheme.{Scheme}
use Rattle.predictor.specs.declared.kind.Scheme.TheVariants.{Bimodal, Gshare}
use Rattle.predictor.specs.Tables.{Tables, no_target, empty_tables}
use Rattle.predictor.specs.Rules.{counted, lengthened, after_branch, pushed_if, popped, after_jump, counter_for, counter_place, target_place}
use Rattle.predictor.specs.Parts.{IsInRange, is_counter, is_instruction, is_entry, histories}

none_yet : (scheme : Scheme) (bits : ℕ) → nat_lt 0 (histories scheme bits) ≡ true
none_yet Bimodal bits = refl
none_yet Gshare bits = let h : 0 < 2 ^ bits = pow_pos bits in grind (arith, nat_tests)

no_entry : (kind : PredictorKind) (place : ℕ) → is_entry kind place no_target ≡ true
no_entry kind place = refl

pub empty_in_range : (kind : PredictorKind) → IsInRange (empty_tables kind)
empty_in_range kind =
    record {
      counters = All-replicate (λ c. is_counter c ≡ true) (2 ^ kind.bits) 1 refl;
      history = none_yet kind.scheme kind.bits;
      targets = λ place h. rw (get_or-replicate (2 ^ kind.target_log) place no_target no_target (rw (length-replicate (2 ^ kind.target_log) no_target) at h)) (no_entry kind place);
      stack = All-nil (λ a. is_instruction a ≡ true);
    }

counted_in_range : (counter : ℕ) (taken : Bool) → is_counter counter ≡ true → is_counter (counted counter taken) ≡ true
counted_in_range counter true h = grind (arith, nat_tests)
counted_in_range counter false h = grind (arith, nat_tests)

-- past the end stands 0
counter_in_range :
    (counters : List ℕ) (place : ℕ) → AllPass is_counter counters → is_counter (get_or counters place 0) ≡ true
counter_in_range counters place all =
    elim (cases_lt place (length counters)) [
      | inl within ↦ all place 0 within
      | inr past ↦ rw (get_or_past counters place 0 past) refl
    ]

lengthened_in_range :
    (scheme : Scheme) (bits history : ℕ) (taken : Bool) → nat_lt history (histories scheme bits) ≡ true
    → nat_lt (lengthened scheme bits history taken) (histories scheme bits) ≡ true
lengthened_in_range Bimodal bits history taken h = h
lengthened_in_range Gshare bits history taken h =
    let below : (2 * history + (if taken then 1 else 0)) % 2 ^ bits < 2 ^ bits =
    mod-lt (2 * history + (if taken then 1 else 0)) (pow_pos bits) in
    grind (arith, nat_tests)

branch_in_range : (t : Tables) (pc : ℕ) (taken : Bool) → IsInRange t → IsInRange (after_branch t pc taken)
branch_in_range t pc taken range =
    record {
      counters = All-set (λ c. is_counter c ≡ true) t.counters (counter_place t pc)
          (counted (counter_for t pc) taken)
          (counted_in_range (counter_for t pc) taken (counter_in_range t.counters (counter_place t pc) range.counters))
          range.counters;
      history = lengthened_in_range t.kind.scheme t.kind.bits t.history taken range.history;
      targets = range.targets;
      stack = range.stack;
    }

behind_call : (pc : ℕ) → pc % 4 ≡ 0 → is_instruction ((pc + 4) % 2 ^ 32) ≡ true
behind_call pc h =
    let same : (pc + 4) % 2 ^ 32 % 4 ≡ 0 = omega arith in
    eq-eqb ((pc + 4) % 2 ^ 32 % 4) 0 same

push_in_range : (push : Bool) (t : Tables) (pc : ℕ) → pc % 4 ≡ 0 → IsInRange t → IsInRange (pushed_if push t pc)
push_in_range false t pc h range = range
push_in_range true t pc h range =
    record {
      counters = range.counters;
      history = range.history;
      targets = range.targets;
      stack = All-drop (λ a. is_instruction a ≡ true)
          (length (t.stack ++ ((pc + 4) % 2 ^ 32) ∷ []) - t.kind.depth)
          (t.stack ++ ((pc + 4) % 2 ^ 32) ∷ [])
          (All-push (λ a. is_instruction a ≡ true) t.stack ((pc + 4) % 2 ^ 32) range.stack (behind_call pc h));
    }

pop_in_range : (t : Tables) → IsInRange t → IsInRange (popped t)
pop_in_range t range =
    record {
      counters = range.counters;
      history = range.history;
      targets = range.targets;
      stack = All-take (λ a. is_instruction a ≡ true) (length t.stack - 1) t.stack range.stack;
    }

-- an instruction's address is that of no jump's entry, and an entry stands at its own place
own_entry :
    (kind : PredictorKind) (pc next : ℕ) → pc % 4 ≡ 0 → next % 4 ≡ 0
    → is_entry kind ((pc / 4) % 2 ^ kind.target_log) (pc, next) ≡ true
own_entry kind pc next h k =
    let other : pc ≢ 1 = λ e. omega arith in
    rw (
      ne_eqb pc 1 other,
      eq-eqb (pc % 4) 0 h,
      eq-eqb (next % 4) 0 k,
      eq-eqb ((pc / 4) % 2 ^ kind.target_log) ((pc / 4) % 2 ^ kind.target_log) refl,
    ) refl

target_in_range :
    (t : Tables) (pc next place : ℕ) → is_entry t.kind (target_place t pc) (pc, next) ≡ true
    → ((i : ℕ) → i < length t.targets → is_entry t.kind i (get_or t.targets i no_target) ≡ true)
    → place < length t.targets
    → is_entry t.kind place (get_or (set t.targets (target_place t pc) (pc, next)) place no_target) ≡ true
target_in_range t pc next place own all within =
    let mine : ℕ = target_place t pc in
    elim (cases_eq place mine) [
      | inl same ↦
          let h : mine < length t.targets = omega (arith, same, within) in
          ap (λ (e : ℕ × ℕ). is_entry t.kind place e) (get_or-set_at t.targets mine place (pc, next) no_target same h)
          ∙ ap (λ (i : ℕ). is_entry t.kind i (pc, next)) same ∙ own
      | inr other ↦
          ap (λ (e : ℕ × ℕ). is_entry t.kind place e) (get_or-set_other t.targets mine place (pc, next) no_target other)
          ∙ all place within
    ]

pub jump_in_range :
    (t : Tables) (pc next : ℕ) → pc % 4 ≡ 0 → next % 4 ≡ 0 → IsInRange t → IsInRange (after_jump t pc next)
jump_in_range t pc next h k range =
    let own : is_entry t.kind (target_place t pc) (pc, next) ≡ true = own_entry t.kind pc next h k in
    record {
      counters = range.counters;
      history = range.history;
      targets = λ place h. target_in_range t pc next place own range.targets
          (let len : length (set t.targets (target_place t pc) (pc, next)) ≡ length t.targets =
          length-set t.targets (target_place t pc) (pc, next) in omega (arith, len, h));
      stack = range.stack;
    }
