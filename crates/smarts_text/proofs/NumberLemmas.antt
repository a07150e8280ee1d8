-- Texts of decimal digits.
use Rattle.std.proofs.Common.{◌≡◌, ◌<◌, ◌≤◌, ◌^◌, ℕ, List, Bool, true, false, ◌&&◌, nat_le, length, Result, Ok, refl, arith, rules}
use Rattle.std.proofs.lemmas.Bool.{leb-true}
use Rattle.std.proofs.lemmas.Str.Parse.{IsNumeralModel, numerals_by_value, parse_gives, digits_value_short}
use Rattle.std.specs.Char.{is_ascii_digit}
use Rattle.std.specs.List.{list_all}
use Rattle.std.specs.Result.{result_ok}
use Rattle.std.specs.Str.Parse.{digits_value, ParsesUnsigned}
use Rattle.smarts_text.specs.Number.{is_number, number_of}

digits_read : IsNumeralModel (λ ds. list_all is_ascii_digit ds ≡ true) (digits_value 10)
digits_read = numerals_by_value _ (search rules)

both : (a b : Bool) → (a && b) ≡ true → (a ≡ true) × (b ≡ true)
both true b e = (refl, e)
both false b e = cc

-- a text of one to nineteen digits is read as the number that they write
pub parses_number :
    {E : Type 0} (text : List ℕ) (r : Result ℕ E)
    → ParsesUnsigned 64 10 text r → is_number text ≡ true → result_ok r ≡ number_of text
unfolding number_of
parses_number text r parses number =
    let parts = both (nat_le 1 (length text) && nat_le (length text) 19) (list_all is_ascii_digit text) number in
    let sizes = both (nat_le 1 (length text)) (nat_le (length text) 19) parts.0 in
    let some : 1 ≤ length text = leb-true _ _ sizes.0 in
    let few : length text ≤ 19 = leb-true _ _ sizes.1 in
    let small : digits_value 10 text < 10 ^ 19 = digits_value_short digits_read text 19 parts.1 few in
    let read : r ≡ Ok (digits_value 10 text) =
    parse_gives digits_read 64 text r parses parts.1 (omega arith) (omega arith) in
    rw (read, number) refl
