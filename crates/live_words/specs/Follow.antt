-- Lists whose elements may each stand behind those before it.
use Rattle.std.specs.Prelude.{List, [], ◌∷◌, ◌++◌, Option, None}
use Rattle.std.specs.List.{last_or}

abbrev pub last_of : {A : Type 0} → List A → Option A
last_of xs = last_or None xs

-- each element may stand behind these and those of the list before it
abbrev pub Follow : {A : Type 0} → (List A → A → Type 0) → List A → List A → Type 0
Follow MayStand before [] = Unit {0}
Follow MayStand before (x ∷ xs) = MayStand before x × Follow MayStand (before ++ x ∷ []) xs
