-- Windows as a value that clauses may compare.
use Rattle.std.specs.Coded.{Coded, code_by, coded×, coded_ℕ, coded_list}
use Rattle.std.specs.FinMap as finite
use Rattle.std.specs.Prelude.{ℕ, List, refl}
use Rattle.rv_exec.specs.Memory.{Words}
use Rattle.live_words.specs.Windows.{WindowsValue}

abbrev pub windows_code : Coded WindowsValue
windows_code =
    code_by (List Words × ℕ) (coded× (coded_list (finite.code coded_ℕ coded_ℕ)) coded_ℕ)
    (λ value. (value.windows, value.ended)) (λ p. record { windows = p.0; ended = p.1 }) (λ _. refl)
