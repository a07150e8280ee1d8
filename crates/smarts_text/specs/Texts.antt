-- The one-line texts: on a fault, and on the exit of a program that was run.
use Rattle.std.specs.Prelude.{◌≡◌, ◌≤◌, length, drop, ◌++◌, ◌/◌, ◌%◌, ◌^◌, [], ◌∷◌, ℕ, zero, suc, List, codes, false}
use Rattle.std.specs.Fmt.{decimal, digit_glyph}
use Rattle.smarts_text.specs.declared.status.Status.{Status}
use Rattle.smarts_text.specs.declared.status.Status.TheVariants as statuses
use Rattle.smarts_text.specs.Status.{word_number, image_number, trap_number, library_number, library_place, design_number, design_value}

-- the last digits of a number to the base 16, in lower case
abbrev pub hex_digits : ℕ → ℕ → List ℕ
hex_digits zero n = []
hex_digits (suc k) n = digit_glyph false (n / 16 ^ k % 16) ∷ hex_digits k n

-- Done has no fault and so no text
unfoldable pub fault_line : Status → List ℕ
fault_line statuses.Done = []
fault_line (statuses.BadWords fault) =
    codes "words: fault " ++ decimal (word_number fault.kind) ++ codes " at " ++ decimal fault.place
    ++ codes "\n"
fault_line (statuses.BadImage fault) = codes "image: fault " ++ decimal (image_number fault) ++ codes "\n"
fault_line (statuses.Trapped at trap) =
    codes "trapped at " ++ decimal at ++ codes ": kind " ++ decimal (trap_number trap.kind)
    ++ codes ", pc " ++ hex_digits 8 trap.pc ++ codes "\n"
fault_line (statuses.BudgetSpent budget) = codes "budget spent after " ++ decimal budget ++ codes "\n"
fault_line (statuses.BadLibrary fault) =
    codes "library: fault " ++ decimal (library_number fault) ++ codes " at "
    ++ decimal (library_place fault) ++ codes "\n"
fault_line (statuses.BadDesign fault) =
    codes "design: fault " ++ decimal (design_number fault) ++ codes " value "
    ++ decimal (design_value fault) ++ codes "\n"
fault_line statuses.ReadFault = codes "read fault\n"
fault_line (statuses.WriteFault taken) = codes "write fault after " ++ decimal taken ++ codes "\n"
fault_line statuses.NoMemory = codes "no memory\n"

unfoldable pub exit_line : ℕ → ℕ → List ℕ
exit_line code length =
    codes "exit " ++ decimal code ++ codes " after " ++ decimal length ++ codes " instructions\n"

-- the text stands at the front of the 64 bytes, those behind it are as they were, and its length is
-- answered
pub record HasWritten (text : List ℕ) (old : List ℕ) (new : List ℕ) (answer : ℕ) : Type 0 where
  pub bytes : new ≡ text ++ drop (length text) old
  pub len : answer ≡ length text
  pub fits : answer ≤ 64
