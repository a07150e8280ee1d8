-- The values of keys: what is wrong with one.
use Rattle.std.specs.Prelude.{ℕ, List, Bool, true, false, codes, if◌then◌else◌, Option, Some, None, Result}
use Rattle.std.specs.Option.{ok_or}
use Rattle.std.specs.Result.{result_err}
use Rattle.std.specs.Str.{bytes_eq}
use Rattle.smarts_text.specs.declared.keys.Form.{Form}
use Rattle.smarts_text.specs.declared.keys.Form.TheVariants.{Number, Machine, Cache, Tlb, Kind, Kinds}
use Rattle.smarts_text.specs.declared.read.WordKind.{WordKind}
use Rattle.smarts_text.specs.declared.read.WordKind.TheVariants.{BadValue}
use Rattle.smarts_text.specs.Kinds.{kinds_read}
use Rattle.smarts_text.specs.Number.{number_read}
use Rattle.smarts_text.specs.Shapes.{cache_read, tlb_read, kind_read}

-- whether the machine is the one with a register update unit
unfoldable pub machine_of : List ℕ → Option Bool
machine_of text =
    if bytes_eq text (codes "ruu") then Some true
    else (if bytes_eq text (codes "scalar") then Some false else None)

-- a text that names no machine isn't in the form
abbrev pub machine_read : List ℕ → Result Bool WordKind
machine_read text = ok_or (machine_of text) BadValue

-- what is wrong with a value of this form
unfoldable pub misread : Form → List ℕ → Option WordKind
misread (Number low high usual) text = result_err (number_read low high text)
misread (Machine usual) text = result_err (machine_read text)
misread (Cache line_log sets_log ways) text = result_err (cache_read text)
misread (Tlb sets_log ways) text = result_err (tlb_read text)
misread (Kind usual) text = result_err (kind_read text)
misread (Kinds usual) text = result_err (kinds_read text)
