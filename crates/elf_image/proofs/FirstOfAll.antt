-- The first element that passes a test, and those before it.
use Rattle.std.proofs.Common.{◌≡◌, ℕ, Bool, true, false, List, [], ◌∷◌, Option, Some, None, Ok, Err, Result, take, find, All, refl, suc, if◌then◌else◌}
use Rattle.std.specs.List.{slice_get}
use Rattle.std.specs.Result.{OnOk, IfErr}
use Rattle.std.proofs.lemmas.List.Elements.{All-nil, All-cons}
use Rattle.smarts_base.specs.Outcome.{Answers}
use Rattle.smarts_base.specs.declared.refusal.Refusal.{Refusal}
use Rattle.smarts_base.specs.declared.refusal.Refusal.TheVariants.{Fault, NoMemory}
use Rattle.elf_image.specs.declared.fault.ImageFault.{ImageFault}
use Rattle.elf_image.specs.Rules.{Rule, rules, breaks, fault_of, verdict, verdict_of}
use Rattle.elf_image.specs.FirstBroken.{IsOfFirstBroken}
use Rattle.elf_image.specs.Image.{ImageValue, image_of, loaded}
use Rattle.elf_image.proofs.Loaded.{first_not, no_fault}
use Rattle.elf_image.proofs.Verdicts.{let_on, let_pass}

none_found :
    (p : Rule → Bool) (xs : List Rule) → find p xs ≡ None → All (λ x. p x ≡ false) xs
none_found p [] none = All-nil (λ x. p x ≡ false)
none_found p (x ∷ xs) none =
    let parts = first_not p x xs none in
    All-cons (λ r. p r ≡ false) x xs parts.0 (none_found p xs parts.1)

record FoundAt (p : Rule → Bool) (xs : List Rule) (rule : Rule) : Type 0 where
  place : ℕ
  stands : slice_get xs place ≡ Some rule
  passes : p rule ≡ true
  before : All (λ x. p x ≡ false) (take place xs)

found_more :
    (p : Rule → Bool) (x : Rule) (xs : List Rule) (rule : Rule) (b : Bool) → p x ≡ b
    → (find p xs ≡ Some rule → FoundAt p xs rule)
    → (if b then Some x else find p xs) ≡ Some rule → FoundAt p (x ∷ xs) rule
found_more p x xs rule true passes later e =
    let same : x ≡ rule = cc in
    record { place = 0; stands = e; passes = rw (← same) passes; before = All-nil (λ r. p r ≡ false) }
found_more p x xs rule false fails later e =
    let at : FoundAt p xs rule = later e in
    record {
      place = suc at.place;
      stands = at.stands;
      passes = at.passes;
      before = All-cons (λ r. p r ≡ false) x (take at.place xs) fails at.before;
    }

found :
    (p : Rule → Bool) (xs : List Rule) (rule : Rule) → find p xs ≡ Some rule → FoundAt p xs rule
found p [] rule e = cc
found p (x ∷ xs) rule e = found_more p x xs rule (p x) refl (found p xs rule) e

pub kept_where_loaded :
    (file : List ℕ) (result : Result ImageValue (Refusal ImageFault))
    → Answers (λ (image : ImageValue). image) result (image_of file)
    → OnOk result (All (λ rule. breaks file rule ≡ false) rules)
unfolding image_of verdict
kept_where_loaded file (Ok image) answers =
    none_found (breaks file) rules
    (no_fault (find (breaks file) rules) (let_on (verdict file rules) (loaded file) image answers))
kept_where_loaded file (Err refusal) answers = tt

fault_found :
    (file : List ℕ) (o : Option Rule) (fault : ImageFault) → find (breaks file) rules ≡ o
    → verdict_of o ≡ Err fault → IsOfFirstBroken file (Fault fault)
fault_found file None fault at e = cc
fault_found file (Some rule) fault at e =
    let first : FoundAt (breaks file) rules rule = found (breaks file) rules rule at in
    let same : fault ≡ fault_of rule = cc in (
      first.place,
      rule,
      record { stands = first.stands; broken = first.passes; before = first.before },
      same,
    )

pub first_where_refused :
    (file : List ℕ) (result : Result ImageValue (Refusal ImageFault))
    → Answers (λ (image : ImageValue). image) result (image_of file)
    → IfErr result (IsOfFirstBroken file)
unfolding image_of verdict
first_where_refused file (Ok image) answers = tt
first_where_refused file (Err NoMemory) answers = tt
first_where_refused file (Err (Fault fault)) answers =
    fault_found file (find (breaks file) rules) fault refl
    (let_pass (verdict file rules) (loaded file) fault answers)
