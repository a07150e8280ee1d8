-- The words after the command. Each is judged by itself and by those before it.
use Rattle.std.specs.Prelude.{ℕ, List, [], ◌∷◌, ◌++◌, length, take, if◌then◌else◌, Option, Some, None, option_and_then}
use Rattle.std.specs.List.{slice_get}
use Rattle.std.specs.Option.{option_or, is_some}
use Rattle.std.specs.Str.{bytes_eq}
use Rattle.smarts_base.specs.Least.{least_below}
use Rattle.smarts_text.specs.declared.keys.Form.{Form}
use Rattle.smarts_text.specs.declared.keys.Group.{Group}
use Rattle.smarts_text.specs.declared.read.WordKind.{WordKind}
use Rattle.smarts_text.specs.declared.read.WordKind.TheVariants.{UnknownKey, Repeated}
use Rattle.smarts_text.specs.Keys.{form_in}
use Rattle.smarts_text.specs.Parts.{parts_round}
use Rattle.smarts_text.specs.Values.{misread}

-- the key and the value of a word: what stands left and right of its first `=`
abbrev pub parts_of : List ℕ → Option (List ℕ × List ℕ)
parts_of word = parts_round 61 word

abbrev pub value_if : List ℕ → List ℕ × List ℕ → Option (List ℕ)
value_if name parts = if bytes_eq parts.0 name then Some parts.1 else None

-- the value of a word whose key has this name
unfoldable pub value_in : List ℕ → List ℕ → Option (List ℕ)
value_in name word = option_and_then (value_if name) (parts_of word)

-- the value that the words give to the key of this name
unfoldable pub value_of : List ℕ → List (List ℕ) → Option (List ℕ)
value_of name [] = None
value_of name (word ∷ words) = option_or (value_in name word) (value_of name words)

-- the value that they give to a key where the key may have a prefix: what they give to the key with it, and else to
-- the key alone
unfoldable pub value_under : List ℕ → List ℕ → List (List ℕ) → Option (List ℕ)
value_under prefix name words = option_or (value_of (prefix ++ name) words) (value_of name words)

abbrev pub fault_in : List (List ℕ) → List ℕ × List ℕ → Option Form → Option WordKind
fault_in earlier parts None = Some UnknownKey
fault_in earlier parts (Some form) =
    if is_some (value_of parts.0 earlier) then Some Repeated else misread form parts.1

abbrev pub fault_by : List Group → List (List ℕ) → Option (List ℕ × List ℕ) → Option WordKind
fault_by groups earlier None = Some UnknownKey
fault_by groups earlier (Some parts) = fault_in earlier parts (form_in groups parts.0)

-- what is wrong with a word of a command with keys of these groups, after these words
unfoldable pub fault_after : List Group → List (List ℕ) → List ℕ → Option WordKind
fault_after groups earlier word = fault_by groups earlier (parts_of word)

-- what is wrong with the k-th of the words
unfoldable pub fault_at : List Group → List (List ℕ) → ℕ → Option WordKind
fault_at groups words k = option_and_then (fault_after groups (take k words)) (slice_get words k)

abbrev pub with_place : ℕ → Option WordKind → Option (ℕ × WordKind)
with_place k None = None
with_place k (Some kind) = Some (k, kind)

-- the first of the words that has a fault, and the fault
unfoldable pub first_fault : List Group → List (List ℕ) → Option (ℕ × WordKind)
first_fault groups words =
    option_and_then
    (λ k. with_place k (fault_at groups words k))
    (least_below (length words) (λ k. is_some (fault_at groups words k)))
