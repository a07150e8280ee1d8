-- What accepted words ask for: what is said of a key, and else its default. Of the keys that describe a processor
-- a prefix picks those of one processor among several; where there is but one it is empty.
use Rattle.std.specs.Prelude.{ℕ, List, [], Bool, true, Option, None, option_and_then}
use Rattle.std.specs.Option.{unwrap_or}
use Rattle.std.specs.Result.{result_ok}
use Rattle.sample_design.specs.declared.design.Design.{Design}
use Rattle.confidence.specs.declared.verdict.Test.{Test}
use Rattle.smarts_text.specs.declared.keys.Form.{Form}
use Rattle.smarts_text.specs.declared.keys.Form.TheVariants.{Number, Machine}
use Rattle.smarts_text.specs.Keys as Keys
use Rattle.smarts_text.specs.Keys.{Key}
use Rattle.smarts_text.specs.Number.{number_read}
use Rattle.smarts_text.specs.Values.{machine_of}
use Rattle.smarts_text.specs.Words.{value_under}

abbrev pub number_by : Form → List ℕ → Option ℕ
number_by (Number low high usual) text = result_ok (number_read low high text)
number_by form text = None

abbrev pub usual_number : Form → ℕ
usual_number (Number low high usual) = usual
usual_number form = 0

-- the number of a key
unfoldable pub number_in : List ℕ → List (List ℕ) → Key → ℕ
number_in prefix words key =
    unwrap_or (option_and_then (number_by key.form) (value_under prefix key.name words)) (usual_number key.form)

abbrev pub is_usual_ruu : Form → Bool
is_usual_ruu (Machine usual) = usual
is_usual_ruu form = true

-- whether the machine is the one with a register update unit
unfoldable pub is_ruu_in : List ℕ → List (List ℕ) → Bool
is_ruu_in prefix words =
    unwrap_or
    (option_and_then machine_of (value_under prefix Keys.machine_key.name words))
    (is_usual_ruu Keys.machine_key.form)

unfoldable pub design_in : List (List ℕ) → Design
design_in words =
    record {
      unit = number_in [] words Keys.unit_key;
      warm = number_in [] words Keys.warm_key;
      every = number_in [] words Keys.every_key;
      offset = number_in [] words Keys.offset_key;
      seed = number_in [] words Keys.seed_key;
      budget = number_in [] words Keys.budget_key;
    }

unfoldable pub test_in : List (List ℕ) → Test
test_in words =
    record {
      min = number_in [] words Keys.min_key;
      z = number_in [] words Keys.z_key;
      error = number_in [] words Keys.error_key;
    }
