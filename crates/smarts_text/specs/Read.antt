-- What the words of a command line mean: a command, or the first fault.
use Rattle.std.specs.Prelude.{◌+◌, ℕ, List, [], ◌∷◌, Bool, false, nat_le, nat_lt, length, if◌then◌else◌, Option, Some, None, Result, Ok, Err}
use Rattle.std.specs.Option.{is_none}
use Rattle.smarts_text.specs.declared.command.Command.{Command}
use Rattle.smarts_text.specs.declared.read.WordFault.{WordFault}
use Rattle.smarts_text.specs.declared.read.WordKind.{WordKind}
use Rattle.smarts_text.specs.declared.read.WordKind.TheVariants.{NoCommand, UnknownCommand, Missing, LsqOverRuu, OffsetNotBelowEvery}
use Rattle.smarts_text.specs.Asked.{number_in}
use Rattle.smarts_text.specs.Command.{command_in, groups_of, required_key}
use Rattle.smarts_text.specs.Keys as Keys
use Rattle.smarts_text.specs.Keys.{Key}
use Rattle.smarts_text.specs.Words.{first_fault, value_of}

-- the words lack a key that has to be given
abbrev pub is_missing : Option Key → List (List ℕ) → Bool
is_missing None words = false
is_missing (Some key) words = is_none (value_of key.name words)

-- What is wrong with words that have no fault each by itself. The last two are asked of every command:
-- where one hasn't the keys, their defaults pass.
unfoldable pub late_fault : Command → List (List ℕ) → Option WordKind
late_fault command words =
    if is_missing (required_key command) words then Some Missing
    else (if nat_lt (number_in [] words Keys.ruu_key) (number_in [] words Keys.lsq_key) then Some LsqOverRuu
    else (if nat_le (number_in [] words Keys.every_key) (number_in [] words Keys.offset_key) then Some OffsetNotBelowEvery
    else None))

abbrev pub refused : ℕ → WordKind → Result Command WordFault
refused place kind = Err (record { kind = kind; place = place })

abbrev pub unless_late : Command → List (List ℕ) → Option WordKind → Result Command WordFault
unless_late command words (Some kind) = refused (length words + 1) kind
unless_late command words None = Ok command

abbrev pub unless_faulty :
    Command → List (List ℕ) → Option (ℕ × WordKind) → Result Command WordFault
unless_faulty command words (Some fault) = refused (fault.0 + 1) fault.1
unless_faulty command words None = unless_late command words (late_fault command words)

abbrev pub judged_words : Option Command → List (List ℕ) → Result Command WordFault
judged_words None words = refused 0 UnknownCommand
judged_words (Some command) words = unless_faulty command words (first_fault (groups_of command) words)

-- The first word names the command and has place 0. A fault of all words together has the number of
-- words as its place.
unfoldable pub meaning : List (List ℕ) → Result Command WordFault
meaning [] = refused 0 NoCommand
meaning (name ∷ words) = judged_words (command_in name words) words
