-- Numbers as they are written, and how values are judged: first for their form, then for their range.
use Rattle.std.specs.Prelude.{ℕ, List, Bool, ◌&&◌, nat_le, length, if◌then◌else◌, Option, Some, None, Result, Err}
use Rattle.std.specs.Char.{is_ascii_digit}
use Rattle.std.specs.List.{list_all}
use Rattle.std.specs.Option.{ok_or}
use Rattle.std.specs.Str.Parse.{digits_value}
use Rattle.smarts_text.specs.declared.read.WordKind.{WordKind}
use Rattle.smarts_text.specs.declared.read.WordKind.TheVariants.{BadValue, OutOfRange}

-- a number is one to nineteen decimal digits
abbrev pub is_number : List ℕ → Bool
is_number text = (nat_le 1 (length text) && nat_le (length text) 19) && list_all is_ascii_digit text

unfoldable pub number_of : List ℕ → Option ℕ
number_of text = if is_number text then Some (digits_value 10 text) else None

-- the number, where it is in the range
abbrev pub within : ℕ → ℕ → ℕ → Option ℕ
within low high n = if nat_le low n && nat_le n high then Some n else None

-- a value in its form is either in its range or not; a text that isn't in the form has no value
abbrev pub judged : {A B : Type 0} → (A → Option B) → Option A → Result B WordKind
judged range None = Err BadValue
judged range (Some value) = ok_or (range value) OutOfRange

abbrev pub number_read : ℕ → ℕ → List ℕ → Result ℕ WordKind
number_read low high text = judged (within low high) (number_of text)
