-- The verdict on a file, from the parts of the table of rules.
use Rattle.std.proofs.Common.{◌≡◌, ℕ, List, ◌∷◌, [], ◌++◌, Option, Some, None, Ok, Err, Result, find, refl, ◌∙◌, ap}
use Rattle.std.specs.Option.{option_or}
use Rattle.std.proofs.lemmas.List.Folds.{find-append}
use Rattle.elf_image.specs.declared.fault.ImageFault.{ImageFault}
use Rattle.elf_image.specs.Rules.{Rule, breaks, verdict, verdict_of, rules, file_rules, segment_rules, Interpreter}
use Rattle.elf_image.specs.declared.program_header.ProgramHeader.{ProgramHeader}
use Rattle.elf_image.specs.Segments.{segments_of}
use Rattle.elf_image.specs.Image.{ImageValue, unless, image_of}
use Rattle.smarts_base.specs.Outcome.{Answers}
use Rattle.smarts_base.specs.declared.refusal.Refusal.{Refusal}
use Rattle.smarts_base.specs.declared.refusal.Refusal.TheVariants.{Fault, NoMemory}

-- the second verdict, where the first lets it pass
abbrev pub then : Result (Unit {0}) ImageFault → Result (Unit {0}) ImageFault → Result (Unit {0}) ImageFault
then (Ok _) second = second
then (Err fault) second = Err fault

or_then :
    (first second : Option Rule)
    → verdict_of (option_or first second) ≡ then (verdict_of first) (verdict_of second)
or_then None second = refl
or_then (Some rule) second = refl

verdict_append :
    (file : List ℕ) (first second : List Rule)
    → verdict file (first ++ second) ≡ then (verdict file first) (verdict file second)
unfolding verdict
verdict_append file first second =
    ap verdict_of (find-append (breaks file) first second)
    ∙ or_then (find (breaks file) first) (find (breaks file) second)

-- the verdict by all rules, by the parts of the table
pub by_parts :
    (file : List ℕ)
    → verdict file rules
    ≡ then (verdict file file_rules)
    (then (verdict file (Interpreter ∷ [])) (verdict file segment_rules))
by_parts file =
    verdict_append file file_rules (Interpreter ∷ segment_rules)
    ∙ ap (λ (v : Result (Unit {0}) ImageFault). then (verdict file file_rules) v)
    (verdict_append file (Interpreter ∷ []) segment_rules)

pub let_pass : {A : Type 0} (v : Result (Unit {0}) ImageFault) (value : A) (fault : ImageFault) → unless v value ≡ Err fault → v ≡ Err fault
let_pass (Ok u) value fault e = cc
let_pass (Err f) value fault e = cc

-- an answer of the part on program headers, or of the part on segments, where the parts before it
-- let the file pass
pub refused_by_headers :
    (file : List ℕ) (refusal : Refusal ImageFault) → verdict file file_rules ≡ Ok tt
    → Answers (λ (s : List ProgramHeader). s) (Err refusal)
    (unless (verdict file (Interpreter ∷ [])) (segments_of file))
    → Answers (λ (image : ImageValue). image) (Err refusal) (image_of file)
unfolding image_of
refused_by_headers file NoMemory kept answers = tt
refused_by_headers file (Fault fault) kept answers =
    let v : verdict file (Interpreter ∷ []) ≡ Err fault = let_pass _ (segments_of file) fault answers in
    rw (by_parts file, kept, v) refl

pub refused_by_segments :
    (file : List ℕ) (refusal : Refusal ImageFault) → verdict file file_rules ≡ Ok tt
    → verdict file (Interpreter ∷ []) ≡ Ok tt
    → Answers (λ (u : Unit {0}). u) (Err refusal) (verdict file segment_rules)
    → Answers (λ (image : ImageValue). image) (Err refusal) (image_of file)
unfolding image_of
refused_by_segments file NoMemory kept named answers = tt
refused_by_segments file (Fault fault) kept named answers = rw (by_parts file, kept, named, answers) refl

pub let_on :
    {A : Type 0} (v : Result (Unit {0}) ImageFault) (value x : A) → unless v value ≡ Ok x → v ≡ Ok tt
let_on (Ok u) value x e = refl
let_on (Err fault) value x e = cc
