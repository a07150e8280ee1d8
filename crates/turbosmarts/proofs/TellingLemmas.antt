-- Telling a text to a sink that may fail.
use Rattle.std.proofs.Common.{◌<◌, ℕ, List, length, take, Option, Result, Ok, Err, OnOk, IfErr, arith}
use Rattle.std.proofs.Math.Seq.{take-length}
use Rattle.smarts_io.specs.declared.writing.WriteFailed.{WriteFailed}
use Rattle.smarts_io.specs.Bytes.{Takes}
use Rattle.smarts_io.specs.Causes.{HasCause}
use Rattle.turbosmarts.specs.Telling.{TakesFront}

pub tells :
    {A : Type 0} (text : List ℕ) (old new : Option (List ℕ)) (before now : ℕ) (r : Result A WriteFailed)
    → OnOk r (Takes old text new)
    → IfErr r (λ e. Takes old (take e.taken text) new)
    → IfErr r (λ e. e.taken < length text)
    → HasCause before now r
    → TakesFront text old new before now
tells text old new before now (Ok done) all front short cause = record {
  count = length text;
  taken = rw (take-length text) all;
  cause = λ h. absurd (omega arith);
}
tells text old new before now (Err failed) all front short cause = record {
  count = failed.taken;
  taken = front;
  cause = λ h. cause.failed;
}
