-- How a run decides whether it has a library.
use Rattle.std.proofs.Common.{◌≡◌, ◌≤◌, ◌<◌, ◌+◌, ◌^◌, ◌↔◌, ℕ, List, [], length, subst, Option, None, Some, Result, Ok, Err, refl, sym, ap, ◌∙◌, arith, inl, inr, eq-eqb, lt-ltb}
use Rattle.std.specs.Prelude.{◌==◌, Bool}
use Rattle.std.specs.Result.{IsErrAnd}
use Rattle.std.proofs.lemmas.Bool.{cases_eq, cases_lt, ne_eqb, le-ltb}
use Rattle.elf_image.specs.Image.{ImageValue}
use Rattle.live_points.specs.declared.header.Header.{Header}
use Rattle.live_points.specs.declared.header.Records.{Records}
use Rattle.live_points.specs.Kinds.{AreKinds}
use Rattle.live_points.specs.Points.{points_of}
use Rattle.live_points.specs.Sharing.{ranks, IsSharing}
use Rattle.live_words.specs.Follow.{Follow}
use Rattle.live_words.specs.Words.{IsPair}
use Rattle.livepoint_format.specs.Format.{IsTable, is_first}
use Rattle.livepoint_format.specs.Values.{Whole}
use Rattle.livepoint_format.specs.Views.{head_of}
use Rattle.live_points.proofs.RunLemmas.{exits_go_on}
use Rattle.rv_exec.specs.Machine.{State}
use Rattle.rv_exec.specs.Runs.{run_of}
use Rattle.rv_machine.specs.declared.outcome.Outcome.{Outcome}
use Rattle.rv_machine.specs.declared.outcome.Outcome.TheVariants.{Exited}
use Rattle.rv_machine.specs.Outcome.{outcome_of}
use Rattle.rv_machine.specs.Start.{start_of}
use Rattle.rv_machine.proofs.OutcomeLemmas.{is_outcome}
use Rattle.sample_design.specs.declared.design.Design.{Design}
use Rattle.sample_design.specs.declared.units.UnitsFault.TheVariants.{NoUnits, TooMany}
use Rattle.sample_design.specs.Design.{IsUsable}
use Rattle.sample_design.specs.Units.{judged, sampled_unit, unit_count, units_of, EndsWithin}
use Rattle.smarts_base.specs.declared.refusal.Refusal.{Refusal}
use Rattle.smarts_base.specs.declared.refusal.Refusal.TheVariants.{Fault, NoMemory}
use Rattle.smarts_base.specs.Outcome.{Answers}
use Rattle.warming.specs.declared.fault.WarmFault.{WarmFault}
use Rattle.warming.specs.declared.fault.WarmFault.TheVariants as faults
use Rattle.warming.specs.Collecting.{CanCollect}
use Rattle.warming.specs.Learning.{AreUsable}
use Rattle.warming.specs.Warming.{GoesTo, IsWarmed, count_or_fault, header_or_fault, header_with, length_or_fault}

-- ---- a run that exits

pub not_exited : (image : ImageValue) → (start_of image).exit ≡ None
unfolding start_of
not_exited image = refl

pub ends_of :
    (image : ImageValue) (budget code length : ℕ) → outcome_of (start_of image) budget ≡ Exited code length
    → GoesTo (start_of image) budget length
ends_of image budget code length is =
    let both = (is_outcome (start_of image) budget).exited code length in
    let (at, last, within, reaches, does) = both.0 is in
    record {
      whole = exits_go_on (start_of image) budget length code (not_exited image) is;
      least = omega (arith, last);
      most = omega (arith, last, within);
    }

-- ---- units

pub record Counts (design : Design) (length count : ℕ) : Type 0 where
  pub few : count ≤ 65536
  pub is : count ≡ unit_count design length

judged_counts : (length found count : ℕ) → judged length found ≡ Ok count → (count ≤ 65536) × (count ≡ found)
judged_counts length found count is =
    elim (cases_eq found 0) [
      | inl none ↦
          let refused : judged length found ≡ Err (NoUnits length) = rw (eq-eqb found 0 none) refl in
          absurd (cc)
      | inr some ↦
          elim (cases_lt 65536 found) [
            | inl many ↦
                let refused : judged length found ≡ Err (TooMany found) =
                rw (ne_eqb found 0 some, lt-ltb 65536 found many) refl in
                absurd (cc)
            | inr few ↦
                let kept : judged length found ≡ Ok found = rw (ne_eqb found 0 some, le-ltb 65536 found few) refl in
                let same : count ≡ found = cc in
                (omega (arith, same), same)
          ]
    ]

pub counts_of : (design : Design) (length count : ℕ) → units_of design length ≡ Ok count → Counts design length count
unfolding units_of
counts_of design length count is =
    let found = judged_counts length (unit_count design length) count is in
    record { few = found.0; is = found.1 }

-- ---- the header

pub header_found :
    (start : State) (design : Design) (records : Records) (length count : ℕ)
    → length_or_fault (outcome_of start design.budget) ≡ Ok length → units_of design length ≡ Ok count
    → header_or_fault start design records ≡ Ok (header_with design records start.heap_low length count)
unfolding header_or_fault
header_found start design records length count run units = rw (run, units) refl

pub header_refused :
    (start : State) (design : Design) (records : Records) (fault : WarmFault)
    → length_or_fault (outcome_of start design.budget) ≡ Err fault → header_or_fault start design records ≡ Err fault
unfolding header_or_fault
header_refused start design records fault run = rw run refl

pub units_refused :
    (start : State) (design : Design) (records : Records) (length : ℕ) (fault : WarmFault)
    → length_or_fault (outcome_of start design.budget) ≡ Ok length → count_or_fault (units_of design length) ≡ Err fault
    → header_or_fault start design records ≡ Err fault
unfolding header_or_fault
units_refused start design records length fault run units = rw (run, units) refl

least_usable : (design : Design) → IsUsable design → (let least : Design = record design { budget = 1 } in IsUsable least)
least_usable design usable = record {
  ranges = record {
    unit_least = usable.ranges.unit_least;
    unit_most = usable.ranges.unit_most;
    warm_most = usable.ranges.warm_most;
    every_least = usable.ranges.every_least;
    every_most = usable.ranges.every_most;
    offset_most = usable.ranges.offset_most;
    seed_most = usable.ranges.seed_most;
    budget_least = omega arith;
    budget_most = omega arith;
  };
  offset = usable.offset;
}

pub can_collect :
    (start : State) (design : Design) (records : Records) (heap_low length count : ℕ)
    → IsUsable design → AreUsable records → AreKinds records.kinds → GoesTo start design.budget length → Counts design length count
    → ((p : ℕ) → (p < unit_count design length) ↔ EndsWithin design length (sampled_unit design p))
    → CanCollect start (header_with design records heap_low length count)
can_collect start design records heap_low length count usable are kinds ends counts below = record {
  design = least_usable design usable;
  records = are;
  kinds = kinds;
  whole = ends.whole;
  short = omega (arith, ends.most, usable.ranges.budget_most);
  few = counts.few;
  units = λ p h. (below p).0 (omega (arith, counts.is, h));
}

-- ---- the answer

header_none :
    (start : State) (design : Design) (records : Records) (refusal : Refusal WarmFault)
    → Answers {A = ℕ} (λ n. n) (Err refusal) (length_or_fault (outcome_of start design.budget))
    → Answers {A = Header} (λ h. h) (Err refusal) (header_or_fault start design records)
header_none start design records (Fault fault) is = header_refused start design records fault is
header_none start design records NoMemory is = tt

-- where the run is refused, so is the header
pub header_passed :
    (start : State) (design : Design) (records : Records) (result : Result Header (Refusal WarmFault)) (refusal : Refusal WarmFault)
    → IsErrAnd result (λ e. e ≡ refusal)
    → Answers {A = ℕ} (λ n. n) (Err refusal) (length_or_fault (outcome_of start design.budget))
    → Answers {A = Header} (λ h. h) result (header_or_fault start design records)
header_passed start design records (Ok header) refusal is answer = absurd is
header_passed start design records (Err other) refusal is answer =
    rw is (header_none start design records refusal answer)

pub table_is :
    (header : Header) (shared : List (ℕ × ℕ)) → header.version ≡ 2 → Follow (IsPair ranks) [] shared
    → IsTable (is_first (head_of header)) shared
table_is header shared version follow =
    subst (λ (b : Bool). IsTable b shared) (sym (ap (λ (n : ℕ). n == 1) version)) follow

pub library_is :
    (start : State) (header : Header) (expected : Result Header WarmFault) (library : Whole)
    → expected ≡ Ok header → library.head ≡ head_of header → library.points ≡ points_of header start header.points
    → IsSharing library.points library.shared → IsWarmed start expected (Ok library)
library_is start header expected library is head points shared =
    rw is (record { head = head; points = points; shared = shared })
