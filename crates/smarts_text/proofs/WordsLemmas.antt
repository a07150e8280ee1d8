-- The values of keys, and the first of them with a fault. A word is whatever has a text.
use Rattle.std.proofs.Common.{◌≡◌, ◌≢◌, ◌<◌, ◌≤◌, ◌+◌, ◌++◌, ◌∷◌, [], ◌∙◌, sym, ap, ℕ, List, Bool, true, false, length, take, drop, get_or, Some, None, refl, map, drop-cons, add-one}
use Rattle.std.proofs.Math.ListN.{drop_of_length-le}
use Rattle.std.proofs.lemmas.Bool.{eq-eqb, false_from_ne_true}
use Rattle.std.proofs.lemmas.List.{length-map}
use Rattle.std.proofs.lemmas.Option.{slice_get-map, slice_get_read}
use Rattle.std.proofs.lemmas.Slice.Eq.{bytes_eq-Decides}
use Rattle.std.specs.List.{slice_get, take-map}
use Rattle.std.specs.Str.{bytes_eq}
use Rattle.std.specs.Option.{is_some, option_or}
use Rattle.smarts_base.specs.Least.{least_below}
use Rattle.smarts_base.proofs.Leasts.{least_below_none, least_below_some}
use Rattle.smarts_text.specs.declared.keys.Group.{Group}
use Rattle.smarts_text.specs.declared.read.WordKind.{WordKind}
use Rattle.smarts_text.specs.Words.{value_of, value_in, fault_after, fault_at, first_fault}

-- the words from the k-th on give what the k-th gives, and else what those behind it give
pub value_at :
    {A : Type 0} (view : A → List ℕ) (words : List A) (k : ℕ) (word : A) (name : List ℕ)
    → k < length words → word ≡ get_or words k word
    → value_of name (map view (drop k words))
    ≡ option_or (value_in name (view word)) (value_of name (map view (drop (k + 1) words)))
unfolding value_of
value_at view words k word name h is =
    rw (drop-cons words k word h, ← is, add-one) refl

pub value_past :
    {A : Type 0} (view : A → List ℕ) (words : List A) (k : ℕ) (name : List ℕ)
    → length words ≤ k → value_of name (map view (drop k words)) ≡ None
unfolding value_of
value_past view words k name h = rw (drop_of_length-le words h) refl

-- the k-th word is judged by those before it
pub fault_here :
    {A : Type 0} (view : A → List ℕ) (words : List A) (groups : List Group) (k : ℕ) (word : A)
    → k < length words → word ≡ get_or words k word
    → fault_at groups (map view words) k ≡ fault_after groups (map view (take k words)) (view word)
unfolding fault_at
fault_here view words groups k word h is =
    let read : slice_get words k ≡ Some word = slice_get_read words (length words) k word refl h is in
    rw (take-map view k words, slice_get-map view words k, read) refl

pub first_found :
    {A : Type 0} (view : A → List ℕ) (words : List A) (groups : List Group) (k : ℕ) (kind : WordKind)
    → k < length words
    → ((j : ℕ) → j < k → is_some (fault_at groups (map view words) j) ≡ false)
    → fault_at groups (map view words) k ≡ Some kind
    → first_fault groups (map view words) ≡ Some (k, kind)
unfolding first_fault
first_found view words groups k kind h before here =
    let test : ℕ → Bool = λ j. is_some (fault_at groups (map view words) j) in
    let passes : test k ≡ true = rw here refl in
    let least : least_below (length words) test ≡ Some k =
    least_below_some (length words) k test h passes before in
    rw (length-map words view, least, here) refl

pub none_found :
    {A : Type 0} (view : A → List ℕ) (words : List A) (groups : List Group)
    → ((j : ℕ) → j < length words → is_some (fault_at groups (map view words) j) ≡ false)
    → first_fault groups (map view words) ≡ None
unfolding first_fault
none_found view words groups before =
    let test : ℕ → Bool = λ j. is_some (fault_at groups (map view words) j) in
    let least : least_below (length words) test ≡ None = least_below_none (length words) test before in
    rw (length-map words view, least) refl

same_behind : (prefix a b : List ℕ) → bytes_eq (prefix ++ a) (prefix ++ b) ≡ bytes_eq a b
same_behind [] a b = refl
same_behind (p ∷ prefix) a b = rw (eq-eqb p p refl) (same_behind prefix a b)

-- a key behind whose prefix stands a name, and one that doesn't begin with the prefix
pub named_some :
    (key prefix name rest : List ℕ) (r : Bool)
    → key ≡ prefix ++ rest → r ≡ bytes_eq rest name → r ≡ bytes_eq key (prefix ++ name)
named_some key prefix name rest r parts is =
    is ∙ sym (same_behind prefix rest name) ∙ ap (λ (k : List ℕ). bytes_eq k (prefix ++ name)) (sym parts)

pub named_none :
    (key prefix name : List ℕ) → ((rest : List ℕ) → key ≢ prefix ++ rest)
    → bytes_eq key (prefix ++ name) ≡ false
named_none key prefix name lacks =
    false_from_ne_true _ (λ e. lacks name ((bytes_eq-Decides key (prefix ++ name)).0 e))
