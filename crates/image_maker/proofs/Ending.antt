-- The generated program from its file to its exit.
use Rattle.std.proofs.Common.{◌≡◌, ◌≤◌, ◌+◌, ◌*◌, ℕ, zero, suc, List, Option, Some, refl, arith, inl}
use Rattle.std.specs.Prelude.{IfSome}
use Rattle.elf_image.specs.Image.{ImageValue, IsImage, loaded, word_in}
use Rattle.elf_image.proofs.Loaded.{is_image}
use Rattle.rv_exec.specs.Memory.{word_at}
use Rattle.rv_exec.specs.Machine.{State}
use Rattle.rv_machine.specs.Start.{start_of, start_registers}
use Rattle.rv_machine.proofs.OutcomeLemmas.{exits_where}
use Rattle.rv_machine.proofs.StartLemmas.{starts_with}
use Rattle.image_maker.specs.Image.{image_file}
use Rattle.image_maker.specs.Program.{program}
use Rattle.image_maker.specs.Runs.{EachRunsToItsEnd}
use Rattle.image_maker.proofs.Begins.{begins}
use Rattle.image_maker.proofs.Contents.{code_of, length_code, word_at_start, low_is, heap_low_is}
use Rattle.image_maker.proofs.Headers.{with_headers, is_kept, is_read, entry_is}
use Rattle.image_maker.proofs.Positions.{used_at}
use Rattle.image_maker.proofs.Stands.{IsNext, address_of}
use Rattle.image_maker.proofs.Turns.{turns_done, exits_at_end}

-- what memory holds, if something is found
held_as :
    (found : Option ℕ) (w : ℕ) (words : ℕ → Type 0)
    → found ≡ Some w → IfSome found words → words w
held_as found w words is holds = rw is at holds

starts_there :
    (size seed : ℕ) → size ≤ 1_000_000
    → IsNext (program size seed) 0 (start_of (loaded (with_headers (code_of size seed))))
unfolding start_of loaded
starts_there size seed most =
    let code : List ℕ = code_of size seed in
    let file : List ℕ = with_headers code in
    let image : ImageValue = loaded file in
    let is : IsImage image = is_image file (is_kept code (length_code size seed)) in
    record {
      pc = entry_is code;
      running = refl;
      loaded = record {
        code =
            λ k h.
            held_as (word_in image (address_of k)) _
            (λ w. word_at (start_of image).words (address_of k) ≡ Some w)
            (word_at_start size seed k most h) (starts_with image (address_of k) is).loaded;
        mapped =
            λ addr aligned low high.
            (starts_with image addr is).mapped.1
            (aligned, inl (omega (arith, low_is code), omega (arith, heap_low_is code)));
      };
      used = λ k h. used_at size seed k most h;
    }

fresh : (image : ImageValue) → (start_of image).regs ≡ start_registers
unfolding start_of
fresh image = refl

pub each_runs : EachRunsToItsEnd
unfolding image_file
each_runs zero seed some most = absurd (omega arith)
each_runs (suc c) seed some most =
    let code : List ℕ = code_of (suc c) seed in
    let file : List ℕ = with_headers code in
    let image : ImageValue = loaded file in
    let start : State = start_of image in
    let length : ℕ = 258 * suc c + 8 in
    let at : ℕ = 5 + 258 * suc c + 2 in
    let first = begins start (suc c) seed most (fresh image) (starts_there (suc c) seed most) in
    let end =
    exits_at_end start (suc c) seed (5 + 258 * suc c)
    (turns_done start (suc c) seed 5 c (omega arith) first) in
    record {
      image = image;
      read = is_read code (length_code (suc c) seed);
      exits = λ budget enough.
          (exits_where start budget length 0).1 (at, omega arith, omega arith, end.0, end.1);
    }
