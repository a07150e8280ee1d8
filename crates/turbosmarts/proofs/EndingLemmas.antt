-- An end of a call as the answer to its words.
use Rattle.std.proofs.Common.{◌≡◌, ◌<◌, ◌≤◌, ◌+◌, ℕ, List, [], length, take, Option, Some, None, IfSome, IsSome, Result, Ok, Err, refl, sym, ap, ◌∙◌, subst}
use Rattle.std.proofs.lemmas.List.{take_all}
use mathlib.Core.Path.{fun_ext}
use Rattle.smarts_io.specs.Bytes.{Gives, Takes, cut_past}
use Rattle.smarts_io.specs.Causes.{Rose}
use Rattle.smarts_io.specs.declared.reading.ReadError.{ReadError}
use Rattle.smarts_io.proofs.Pieces.{takes_none}
use Rattle.smarts_text.specs.declared.command.Command.{Command}
use Rattle.smarts_text.specs.declared.read.WordFault.{WordFault}
use Rattle.smarts_text.specs.declared.status.Status.{Status}
use Rattle.smarts_text.specs.declared.status.Status.TheVariants as statuses
use Rattle.smarts_text.specs.Read.{meaning}
use Rattle.smarts_text.specs.Texts.{fault_line}
use Rattle.turbosmarts.specs.Answer.{Answer, answer, words_answer, command_answer, command_result, done_or_refused, exit_lines, input_limit, read_within, AsksForInput}
use Rattle.turbosmarts.specs.declared.ending.Exit.{Exit}
use Rattle.turbosmarts.specs.declared.fault.InputFault.{InputFault}
use Rattle.turbosmarts.specs.Ending.{Change, EndsAs, GivesAnswer, HasAnswered, IsAnswered, IsDetermined, IsFault, IsUnwritten, end_line}
use Rattle.turbosmarts.specs.declared.stop.Stop.{Stop}
use Rattle.turbosmarts.specs.declared.stop.Stop.TheVariants as stops
use Rattle.turbosmarts.specs.Served.{IsAnswer, IsRead, IsServed}
use Rattle.turbosmarts.specs.Stages.{Written}

-- what holds of the input that was answered holds of the one that the source told
pub of_told :
    (P : List ℕ → Type 0) (told : Option (List ℕ)) (input : List ℕ)
    → IfSome told (λ bytes. input ≡ bytes) → P input → IfSome told P
of_told P None input is holds = tt
of_told P (Some bytes) input is holds = subst P is holds

pub determined_answered : (status : Status) → IsDetermined status → IsAnswered status
determined_answered statuses.Done d = tt
determined_answered (statuses.BadWords fault) d = tt
determined_answered (statuses.BadImage fault) d = tt
determined_answered (statuses.Trapped at trap) d = tt
determined_answered (statuses.BudgetSpent budget) d = tt
determined_answered (statuses.BadLibrary fault) d = tt
determined_answered (statuses.BadDesign fault) d = tt
determined_answered statuses.ReadFault d = d
determined_answered (statuses.WriteFault taken) d = tt
determined_answered statuses.NoMemory d = d

-- an input of which so much was read within a limit: what the source told, where it told it
pub record WasRead (told : Option (List ℕ)) (limit : ℕ) (read : List ℕ) : Type 0 where
  pub input : List ℕ
  pub told_is : IfSome told (λ bytes. input ≡ bytes)
  pub cut : cut_past limit input ≡ read

pub was_read :
    (told : Option (List ℕ)) (limit : ℕ) (read : List ℕ)
    → IfSome told (λ bytes. read ≡ cut_past limit bytes) → length read ≤ limit + 1
    → WasRead told limit read
unfolding cut_past
was_read None limit read is short =
    record { input = read; told_is = tt; cut = take_all (limit + 1) read short }
was_read (Some bytes) limit read is short = record { input = bytes; told_is = refl; cut = sym is }

-- some input: what the source told, where it told it
pub some_input : Option (List ℕ) → List ℕ
some_input None = []
some_input (Some bytes) = bytes

pub some_told : (told : Option (List ℕ)) → IfSome told (λ bytes. some_input told ≡ bytes)
unfolding some_input
some_told None = tt
some_told (Some bytes) = refl

-- nothing was given
gives_none : (rest : Option (List ℕ)) → Gives rest [] rest
gives_none None = refl
gives_none (Some bytes) = refl

pub gives_nothing : (old new : Option (List ℕ)) → new ≡ old → Gives old [] new
gives_nothing old new same = subst (λ (o : Option (List ℕ)). Gives old [] o) (sym same) (gives_none old)

read_is : (read : List ℕ) (r : Result Written InputFault) → (done_or_refused read r).read ≡ read
read_is read (Ok written) = refl
read_is read (Err fault) = refl

-- what is told of a call that is done is how the program exited that was run, if one was
pub told_when_done : (exit : Option Exit) → end_line statuses.Done exit ≡ exit_lines exit
unfolding fault_line
told_when_done (Some exit) = refl
told_when_done None = refl

-- a command that reads no input has one answer
pub unread_answer :
    (command : Command) (input : List ℕ) → input_limit command ≡ None
    → command_answer command input ≡ done_or_refused [] (command_result command [])
unfolding command_answer
unread_answer command input none =
    ap (λ (limit : Option ℕ). done_or_refused (read_within limit input) (command_result command (read_within limit input))) none

-- one that reads an input answers what it has read of it
pub read_answer :
    (command : Command) (input read : List ℕ) (limit : ℕ) → input_limit command ≡ Some limit
    → cut_past limit input ≡ read
    → command_answer command input ≡ done_or_refused read (command_result command read)
unfolding command_answer
read_answer command input read limit is cut =
    ap (λ (limit : Option ℕ). done_or_refused (read_within limit input) (command_result command (read_within limit input))) is
    ∙ ap (λ (read : List ℕ). done_or_refused read (command_result command read)) cut

-- an input of which a command reads so much, and what it answers to it
record IsInput (command : Command) (before after : Option (List ℕ)) (read : List ℕ) : Type 0 where
  pub input : List ℕ
  pub told : IfSome before (λ bytes. input ≡ bytes)
  pub gives : Gives before read after
  pub answer : command_answer command input ≡ done_or_refused read (command_result command read)

input_within :
    (command : Command) (limit : Option ℕ) (before after : Option (List ℕ)) (read : List ℕ) → input_limit command ≡ limit
    → IsRead limit before after read → IsInput command before after read
input_within command None before after read is was = record {
  input = some_input before;
  told = some_told before;
  gives = subst (λ (bytes : List ℕ). Gives before bytes after) (sym was.0) (gives_nothing before after was.1);
  answer = subst (λ (bytes : List ℕ). command_answer command (some_input before) ≡ done_or_refused bytes (command_result command bytes)) (sym was.0)
      (unread_answer command (some_input before) is);
}
input_within command (Some limit) before after read is was =
    let input = was_read before limit read was.1 was.2 in
    record {
      input = input.input;
      told = input.told_is;
      gives = was.0;
      answer = read_answer command input.input read limit is input.cut;
    }

answered_here :
    (command : Command) (source sink : Change) (status : Status) (told read : List ℕ)
    → IsRead (input_limit command) source.before source.after read
    → GivesAnswer (done_or_refused read (command_result command read)) sink status
    → (status ≡ statuses.Done → told ≡ (done_or_refused read (command_result command read)).lines)
    → HasAnswered (command_answer command) source sink (λ lines. told ≡ lines) status
answered_here command source sink status told read was gives lines =
    let is = input_within command (input_limit command) source.before source.after read refl was in
    record {
      input = is.input;
      told = is.told;
      read = subst (λ (bytes : List ℕ). Gives source.before bytes source.after)
          (sym (ap (λ (a : Answer). a.read) is.answer ∙ read_is read (command_result command read))) is.gives;
      gives = subst (λ (a : Answer). GivesAnswer a sink status) (sym is.answer) gives;
      lines = λ e. lines e ∙ sym (ap (λ (a : Answer). a.lines) is.answer);
    }

-- a call that gave what a command answers
pub answered_given :
    (command : Command) (source sink : Change) (result : Result Written Stop) (status : Status) (told : List ℕ)
    → IsServed result (input_limit command) (command_result command) source.before source.after
    → ((read : List ℕ) (expected : Result Written InputFault) → IsAnswer result expected → GivesAnswer (done_or_refused read expected) sink status)
    → ((read : List ℕ) (expected : Result Written InputFault) → IsAnswer result expected → status ≡ statuses.Done → told ≡ (done_or_refused read expected).lines)
    → ((error : ReadError) → result ≡ Err (stops.Read error) → ⊥)
    → HasAnswered (command_answer command) source sink (λ lines. told ≡ lines) status
answered_given command source sink (Ok written) status told served gives lines no_error =
    answered_here command source sink status told served.0 served.1 (gives served.0 _ served.2) (lines served.0 _ served.2)
answered_given command source sink (Err (stops.Fault fault)) status told served gives lines no_error =
    answered_here command source sink status told served.0 served.1 (gives served.0 _ served.2) (lines served.0 _ served.2)
answered_given command source sink (Err (stops.Read error)) status told served gives lines no_error = absurd (no_error error refl)

-- where the words are accepted, the answer to them is that of their command
pub ends_accepted :
    (words : List (List ℕ)) (command : Command) (source sink : Change) (result : Status) (told : List ℕ)
    → meaning words ≡ Ok command
    → EndsAs (command_answer command) (IsSome (input_limit command)) source sink result told
    → EndsAs (answer words) (AsksForInput (meaning words)) source sink result told
unfolding answer
ends_accepted words command source sink result told is ends =
    let same : (input : List ℕ) → command_answer command input ≡ answer words input =
    λ input. ap (λ (c : Result Command WordFault). words_answer c input) (sym is) in
    rw is (subst (λ (f : List ℕ → Answer). EndsAs f (IsSome (input_limit command)) source sink result told) (fun_ext same) ends)

-- the answer to refused words
abbrev pub refusal : WordFault → Answer
refusal fault = record { read = []; status = statuses.BadWords fault; bytes = []; lines = [] }

-- where the words are refused, the answer is the refusal, whatever the input is
pub ends_refused :
    (words : List (List ℕ)) (fault : WordFault) (source sink : Change)
    → meaning words ≡ Err fault → sink.after ≡ sink.before
    → source.after ≡ source.before → source.faults_after ≡ source.faults_before
    → EndsAs (answer words) (AsksForInput (meaning words)) source sink (statuses.BadWords fault) (fault_line (statuses.BadWords fault))
unfolding answer
ends_refused words fault source sink is nothing unread count =
    let input : List ℕ = some_input source.before in
    let same : answer words input ≡ refusal fault =
    ap (λ (c : Result Command WordFault). words_answer c input) is in
    let wrote : Takes sink.before [] sink.after =
    subst (λ (o : Option (List ℕ)). Takes sink.before [] o) (sym nothing) (takes_none sink.before) in
    let gives : GivesAnswer (refusal fault) sink (statuses.BadWords fault) = record {
      status = λ d. refl;
      written = λ d. wrote;
      write_done = λ taken e. cc;
      write_front = λ taken e. cc;
      write_short = λ taken e. cc;
    } in
    record {
      answered = λ a. record {
        input = input;
        told = some_told source.before;
        read = subst (λ (a : Answer). Gives source.before a.read source.after) (sym same) (gives_nothing source.before source.after unread);
        gives = subst (λ (a : Answer). GivesAnswer a sink (statuses.BadWords fault)) (sym same) gives;
        lines = λ e. cc;
      };
      read_asked = λ e. cc;
      read_cause = λ e. cc;
      write_cause = λ taken e. cc;
      unwritten = λ d. nothing;
      unread = λ idle. unread;
      unread_count = λ idle. count;
      told_fault = λ d. refl;
    }

-- the end that refuses the words, with nothing to tell but the fault
pub ends_with_fault :
    (words : List (List ℕ)) (fault : WordFault) (source sink : Change) (status : Status) (exit : Option Exit)
    → meaning words ≡ Err fault → sink.after ≡ sink.before
    → source.after ≡ source.before → source.faults_after ≡ source.faults_before
    → status ≡ statuses.BadWords fault → exit ≡ None
    → EndsAs (answer words) (AsksForInput (meaning words)) source sink status (end_line status exit)
ends_with_fault words fault source sink status exit is nothing unread count status_is exit_is =
    rw (status_is, exit_is) (ends_refused words fault source sink is nothing unread count)

-- the whole answer was written
pub gives_done :
    (answer : Answer) (sink : Change)
    → answer.status ≡ statuses.Done → Takes sink.before answer.bytes sink.after
    → GivesAnswer answer sink statuses.Done
gives_done answer sink done wrote = record {
  status = λ d. sym done;
  written = λ d. wrote;
  write_done = λ taken e. cc;
  write_front = λ taken e. cc;
  write_short = λ taken e. cc;
}

-- what the call answered, told to a person by a sink that takes a front of the lines
pub has_told :
    (expected : List ℕ → Answer) (source sink : Change) (result : Status) (told : List ℕ) (tells : List ℕ → Type 0)
    → HasAnswered expected source sink (λ lines. told ≡ lines) result → tells told
    → HasAnswered expected source sink tells result
has_told expected source sink result told tells has tell = record {
  input = has.input;
  told = has.told;
  read = has.read;
  gives = has.gives;
  lines = λ e. subst tells (has.lines e) tell;
}

pub done_answered : (status : Status) → status ≡ statuses.Done → IsAnswered status
done_answered status is = subst (λ (s : Status). IsAnswered s) (sym is) tt

pub cut_answered : (status : Status) (taken : ℕ) → status ≡ statuses.WriteFault taken → IsAnswered status
cut_answered status taken is = subst (λ (s : Status). IsAnswered s) (sym is) tt

-- the same of the input that the source told
pub told_status :
    (expected : List ℕ → Answer) (source sink : Change) (tells : List ℕ → Type 0) (result : Status)
    → HasAnswered expected source sink tells result → IsDetermined result
    → IfSome source.before (λ input. result ≡ (expected input).status)
told_status expected source sink tells result has d =
    of_told (λ input. result ≡ (expected input).status) source.before has.input has.told (has.gives.status d)

pub told_written :
    (expected : List ℕ → Answer) (source sink : Change) (tells : List ℕ → Type 0) (result : Status)
    → HasAnswered expected source sink tells result → IsDetermined result
    → IfSome source.before (λ input. Takes sink.before (expected input).bytes sink.after)
told_written expected source sink tells result has d =
    of_told (λ input. Takes sink.before (expected input).bytes sink.after) source.before has.input has.told (has.gives.written d)

pub told_done :
    (expected : List ℕ → Answer) (source sink : Change) (tells : List ℕ → Type 0) (result : Status)
    → HasAnswered expected source sink tells result → (taken : ℕ) → result ≡ statuses.WriteFault taken
    → IfSome source.before (λ input. (expected input).status ≡ statuses.Done)
told_done expected source sink tells result has taken e =
    of_told (λ input. (expected input).status ≡ statuses.Done) source.before has.input has.told (has.gives.write_done taken e)

pub told_front :
    (expected : List ℕ → Answer) (source sink : Change) (tells : List ℕ → Type 0) (result : Status)
    → HasAnswered expected source sink tells result → (taken : ℕ) → result ≡ statuses.WriteFault taken
    → IfSome source.before (λ input. Takes sink.before (take taken (expected input).bytes) sink.after)
told_front expected source sink tells result has taken e =
    of_told (λ input. Takes sink.before (take taken (expected input).bytes) sink.after) source.before has.input has.told (has.gives.write_front taken e)

pub told_short :
    (expected : List ℕ → Answer) (source sink : Change) (tells : List ℕ → Type 0) (result : Status)
    → HasAnswered expected source sink tells result → (taken : ℕ) → result ≡ statuses.WriteFault taken
    → IfSome source.before (λ input. taken < length (expected input).bytes)
told_short expected source sink tells result has taken e =
    of_told (λ input. taken < length (expected input).bytes) source.before has.input has.told (has.gives.write_short taken e)

pub told_read :
    (expected : List ℕ → Answer) (source sink : Change) (tells : List ℕ → Type 0) (result : Status)
    → HasAnswered expected source sink tells result
    → IfSome source.before (λ input. Gives source.before (expected input).read source.after)
told_read expected source sink tells result has =
    of_told (λ input. Gives source.before (expected input).read source.after) source.before has.input has.told has.read

pub told_lines :
    (expected : List ℕ → Answer) (source sink : Change) (tells : List ℕ → Type 0) (result : Status)
    → HasAnswered expected source sink tells result → result ≡ statuses.Done
    → IfSome source.before (λ input. tells (expected input).lines)
told_lines expected source sink tells result has e =
    of_told (λ input. tells (expected input).lines) source.before has.input has.told (has.lines e)
