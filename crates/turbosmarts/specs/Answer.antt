-- What the program answers, as a function of its words and its input.
use Rattle.std.specs.Prelude.{ℕ, List, [], Option, Some, None, IsSome, Result, Ok, Err}
use Rattle.smarts_io.specs.Bytes.{cut_past}
use Rattle.smarts_text.specs.declared.command.Command.{Command}
use Rattle.smarts_text.specs.declared.command.Command.TheVariants.{Sample, Demo, Warm, Migrate, Estimate, Run}
use Rattle.smarts_text.specs.declared.read.WordFault.{WordFault}
use Rattle.smarts_text.specs.declared.status.Status.{Status}
use Rattle.smarts_text.specs.declared.status.Status.TheVariants.{Done, BadWords}
use Rattle.smarts_text.specs.Read.{meaning}
use Rattle.smarts_text.specs.Texts.{exit_line}
use Rattle.turbosmarts.specs.declared.ending.Exit.{Exit}
use Rattle.turbosmarts.specs.declared.fault.InputFault.{InputFault}
use Rattle.turbosmarts.specs.commands.Demo.{demo_result}
use Rattle.turbosmarts.specs.commands.Estimate.{estimate_result}
use Rattle.turbosmarts.specs.commands.Migrate.{migrate_result}
use Rattle.turbosmarts.specs.commands.Run.{run_result}
use Rattle.turbosmarts.specs.commands.Sample.{sample_result}
use Rattle.turbosmarts.specs.commands.Warm.{warm_result}
use Rattle.turbosmarts.specs.Fault.{status_of}
use Rattle.turbosmarts.specs.Stages.{Written, library_limit}

-- the largest image, in bytes
abbrev pub image_limit : ℕ
image_limit = 67_108_864

-- the most bytes of an input that a command takes, where it reads one
abbrev pub input_limit : Command → Option ℕ
input_limit (Sample design config test) = Some image_limit
input_limit (Demo size design config test) = None
input_limit (Warm design records) = Some image_limit
input_limit Migrate = Some library_limit
input_limit (Estimate asked test workers) = Some library_limit
input_limit (Run budget) = Some image_limit

-- what is read of an input: all of it, up to one byte more than the limit
abbrev pub read_within : Option ℕ → List ℕ → List ℕ
read_within None input = []
read_within (Some limit) input = cut_past limit input

-- the words ask for a command that reads an input
abbrev pub AsksForInput : Result Command WordFault → Type 0
AsksForInput (Ok command) = IsSome (input_limit command)
AsksForInput (Err fault) = ⊥

-- what a command writes that has read so much, or the first fault
abbrev pub command_result : Command → List ℕ → Result Written InputFault
command_result (Sample design config test) read = sample_result design config test read
command_result (Demo size design config test) read = demo_result size design config test
command_result (Warm design records) read = warm_result design records read
command_result Migrate read = migrate_result read
command_result (Estimate asked test workers) read = estimate_result asked test read
command_result (Run budget) read = run_result budget read

-- what a call reads of its input, the status that it ends with, and what it writes and tells where it is done
pub record Answer : Type 0 where
  pub read : List ℕ
  pub status : Status
  pub bytes : List ℕ
  pub lines : List ℕ

abbrev pub exit_lines : Option Exit → List ℕ
exit_lines (Some exit) = exit_line exit.code exit.length
exit_lines None = []

abbrev pub done_or_refused : List ℕ → Result Written InputFault → Answer
done_or_refused read (Ok written) =
    record { read = read; status = Done; bytes = written.bytes; lines = exit_lines written.exit }
done_or_refused read (Err fault) =
    record { read = read; status = status_of fault; bytes = []; lines = [] }

unfoldable pub command_answer : Command → List ℕ → Answer
command_answer command input =
    let read = read_within (input_limit command) input in
    done_or_refused read (command_result command read)

-- refused words are the answer to every input, of which nothing is read
abbrev pub words_answer : Result Command WordFault → List ℕ → Answer
words_answer (Ok command) input = command_answer command input
words_answer (Err fault) input = record { read = []; status = BadWords fault; bytes = []; lines = [] }

unfoldable pub answer : List (List ℕ) → List ℕ → Answer
answer words input = words_answer (meaning words) input
