-- What a person is told beside the output.
use Rattle.std.specs.Prelude.{◌<◌, ℕ, List, length, take, Option}
use Rattle.smarts_io.specs.Bytes.{Takes}
use Rattle.smarts_io.specs.Causes.{Rose}

-- a sink took a front of the text: all of it, unless the sink failed in this call
pub record TakesFront (text : List ℕ) (old new : Option (List ℕ)) (faults_before faults_after : ℕ) : Type 0 where
  pub count : ℕ
  pub taken : Takes old (take count text) new
  pub cause : count < length text → Rose faults_before faults_after
