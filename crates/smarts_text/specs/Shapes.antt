-- Values of several numbers with colons between: the shapes of caches and TLBs, and the kinds of predictors.
use Rattle.std.specs.Prelude.{◌==◌, ◌^◌, ℕ, List, codes, if◌then◌else◌, Option, Some, None, Result, option_and_then}
use Rattle.std.specs.List.{find, range_with_len}
use Rattle.std.specs.Str.{bytes_eq}
use Rattle.lru_plain.specs.Shape.{Shape}
use Rattle.predictor.specs.declared.kind.PredictorKind.{PredictorKind}
use Rattle.predictor.specs.declared.kind.Scheme.{Scheme}
use Rattle.predictor.specs.declared.kind.Scheme.TheVariants.{Bimodal, Gshare}
use Rattle.smarts_text.specs.declared.read.WordKind.{WordKind}
use Rattle.smarts_text.specs.declared.shapes.Three.{Three}
use Rattle.smarts_text.specs.Number.{number_of, within, judged}
use Rattle.smarts_text.specs.Parts.{parts_round}

infixl 10 ◌>>=◌
-- what comes next where there is a value
abbrev pub ◌>>=◌ : {A B : Type 0} → Option A → (A → Option B) → Option B
◌>>=◌ value next = option_and_then next value

unfoldable pub two_of : List ℕ → Option (ℕ × ℕ)
two_of text = do
  parts ← parts_round 58 text
  first ← number_of parts.0
  second ← number_of parts.1
  Some (first, second)

unfoldable pub three_of : List ℕ → Option Three
three_of text = do
  parts ← parts_round 58 text
  first ← number_of parts.0
  others ← two_of parts.1
  Some (record { first = first; second = others.0; third = others.1 })

-- the logarithm to base 2 of the bytes of a cache's line, of which there are 16 to 256
unfoldable pub line_log_of : ℕ → Option ℕ
line_log_of n = find (λ k. 2 ^ k == n) (range_with_len 4 5)

-- the logarithm to base 2 of a number of sets, from 1 to 4096
unfoldable pub sets_log_of : ℕ → Option ℕ
sets_log_of n = find (λ k. 2 ^ k == n) (range_with_len 0 13)

-- the shape of a cache with lines of so many bytes, so many sets, and so many ways
unfoldable pub cache_shape : Three → Option Shape
cache_shape numbers = do
  line_log ← line_log_of numbers.first
  sets_log ← sets_log_of numbers.second
  ways ← within 1 16 numbers.third
  Some (record { line_log = line_log; sets_log = sets_log; ways = ways })

-- the shape of a TLB, whose lines are pages of 4096 bytes
unfoldable pub tlb_shape : ℕ × ℕ → Option Shape
tlb_shape numbers = do
  sets_log ← sets_log_of numbers.0
  ways ← within 1 16 numbers.1
  Some (record { line_log = 12; sets_log = sets_log; ways = ways })

abbrev pub cache_read : List ℕ → Result Shape WordKind
cache_read text = judged cache_shape (three_of text)

abbrev pub tlb_read : List ℕ → Result Shape WordKind
tlb_read text = judged tlb_shape (two_of text)

unfoldable pub scheme_of : List ℕ → Option Scheme
scheme_of name =
    if bytes_eq name (codes "bimodal") then Some Bimodal
    else (if bytes_eq name (codes "gshare") then Some Gshare else None)

-- a scheme and its numbers
unfoldable pub scheme_and_three : List ℕ → Option (Scheme × Three)
scheme_and_three text = do
  parts ← parts_round 58 text
  scheme ← scheme_of parts.0
  numbers ← three_of parts.1
  Some (scheme, numbers)

-- the kind with so many bits, such a target table, and so deep a stack
unfoldable pub kind_within : Scheme × Three → Option PredictorKind
kind_within named = do
  bits ← within 4 14 named.1.first
  target_log ← within 2 10 named.1.second
  depth ← within 0 16 named.1.third
  Some (record { scheme = named.0; bits = bits; target_log = target_log; depth = depth })

abbrev pub kind_read : List ℕ → Result PredictorKind WordKind
kind_read text = judged kind_within (scheme_and_three text)
