-- Looking a key up in the program's table is looking it up in the table of keys.
use Rattle.std.proofs.Common.{◌≡◌, ℕ, List, [], ◌∷◌, Bool, true, false, Some, refl, map, if◌then◌else◌}
use Rattle.std.specs.List.{find}
use Rattle.std.specs.Option.{option_map}
use Rattle.smarts_text.specs.declared.keys.Group.{Group}
use Rattle.smarts_text.specs.declared.keys.Key as code
use Rattle.smarts_text.specs.Keys.{keys, form_in, is_key, key_of}

pub find-map :
    {A B C : Type 0} (test : B → Bool) (f : A → B) (g : B → C) (xs : List A)
    → option_map g (find test (map f xs)) ≡ option_map (λ x. g (f x)) (find (λ x. test (f x)) xs)
find-map test f g [] = refl
find-map test f g (x ∷ xs) =
    elim (test (f x)) as (λ t. option_map g (if t then Some (f x) else find test (map f xs)) ≡ option_map (λ x. g (f x)) (if t then Some x else find (λ x. test (f x)) xs)) [
      | true ↦ refl
      | false ↦ find-map test f g xs
    ]

pub form_found :
    (groups : List Group) (name : List ℕ) (table : List code.Key) → map key_of table ≡ keys
    → option_map (λ key. key.form) (find (λ key. is_key groups name (key_of key)) table) ≡ form_in groups name
unfolding form_in
form_found groups name table same =
    rw (← same, find-map (is_key groups name) key_of (λ key. key.form) table) refl
