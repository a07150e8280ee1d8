-- What holds of a value that is asked for, and of the one in its place, holds of what is taken.
use Rattle.std.proofs.Common.{Option, Some, None}
use Rattle.std.specs.Option.{unwrap_or}
use Rattle.std.specs.Prelude.{IfSome}

pub or_holds : {A : Type 0} (P : A → Type 0) (asked : Option A) (usual : A) → IfSome asked P → P usual → P (unwrap_or asked usual)
or_holds P None usual is other = other
or_holds P (Some a) usual is other = is
