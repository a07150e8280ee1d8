-- `estimate`: the report on a library, without its program.
use Rattle.std.specs.Prelude.{ℕ, zero, suc, List, nat_le, ◌==◌, ◌&&◌, not, Bool, map, Option, Some, None, Result, Ok, Err}
use Rattle.confidence.specs.declared.answer.Answer.{Answer as UnitAnswer}
use Rattle.confidence.specs.declared.verdict.Test.{Test}
use Rattle.hierarchy.specs.declared.config.Config.{Config}
use Rattle.live_points.specs.declared.header.Header.{Header}
use Rattle.live_points.specs.declared.header.Records.{Records}
use Rattle.live_points.specs.Kinds.{is_among}
use Rattle.live_points.specs.PointAnswers.{point_answer}
use Rattle.livepoint_format.specs.declared.fault.LibraryFault.TheVariants.{BadPoint}
use Rattle.livepoint_format.specs.Decoding.{library_of}
use Rattle.livepoint_format.specs.Format.{design_of}
use Rattle.livepoint_format.specs.Values.{Head, Point}
use Rattle.lru_plain.specs.Shape.{Shape}
use Rattle.ordered_fold.specs.declared.ending.Ending.{Ending}
use Rattle.ordered_fold.specs.declared.ending.Ending.TheVariants.{Faulted}
use Rattle.ordered_fold.specs.Ending.{ending_of}
use Rattle.smarts_base.specs.Least.{least_below}
use Rattle.smarts_base.specs.Outcome.{◌>>=◌}
use Rattle.smarts_text.specs.declared.processor.Asked.{Asked}
use Rattle.smarts_text.specs.declared.status.DesignFault.TheVariants.{Beyond}
use Rattle.smarts_text.specs.Processor.{config_for}
use Rattle.turbosmarts.specs.declared.fault.InputFault.{InputFault}
use Rattle.turbosmarts.specs.declared.fault.InputFault.TheVariants as faults
use Rattle.turbosmarts.specs.commands.Sample.{report_on}
use Rattle.turbosmarts.specs.Stages.{Written, library_or_fault, written_as}

-- the header that the bytes tell, with a budget of 1, of which they tell nothing
abbrev pub header_of : Head → Header
header_of head = record {
  version = head.version;
  length = head.instructions;
  points = head.points;
  design = design_of head;
  heap_low = head.heap_low;
  records = record { places = head.places; kinds = head.kinds };
}

-- the smaller has the same lines, and no more sets and ways
abbrev pub fits : Shape → Shape → Bool
fits large small =
    (large.line_log == small.line_log) && (nat_le small.sets_log large.sets_log && nat_le small.ways large.ways)

-- the records serve the structure of this number: the caches l1i, l1d and l2, the TLBs itlb and dtlb, the predictor
abbrev pub is_served : Records → Config → ℕ → Bool
is_served records config zero = fits records.places.l1i config.places.l1i
is_served records config (suc zero) = fits records.places.l1d config.places.l1d
is_served records config (suc (suc zero)) = fits records.places.l2 config.places.l2
is_served records config (suc (suc (suc zero))) = fits records.places.itlb config.places.itlb
is_served records config (suc (suc (suc (suc zero)))) = fits records.places.dtlb config.places.dtlb
is_served records config (suc (suc (suc (suc (suc more))))) = is_among config.kind records.kinds

-- the first structure that they don't serve
unfoldable pub first_beyond : Records → Config → Option ℕ
first_beyond records config = least_below 6 (λ structure. not (is_served records config structure))

abbrev pub config_or_fault : Option ℕ → Config → Result Config InputFault
config_or_fault None config = Ok config
config_or_fault (Some structure) config = Err (faults.BadDesign (Beyond structure))

-- the report, unless the fold ends at a point whose words are missing or whose window doesn't end as it should
abbrev pub report_or_fault : Ending → List ℕ → Result Written InputFault
report_or_fault (Faulted point fault) report = Err (faults.BadLibrary (BadPoint point fault))
report_or_fault ending report = Ok (written_as report None)

-- the report on points under their header
abbrev pub estimate_of : Test → Config → Header → List Point → Result Written InputFault
estimate_of test config header points =
    let answers : List UnitAnswer = map (point_answer config header) points in
    report_or_fault (ending_of test answers) (report_on header.design test header.length header.points answers)

-- on the processor that is asked for, if the records serve it
abbrev pub estimate_on : Asked → Test → Header → List Point → Result Written InputFault
estimate_on asked test header points = do
  config ← config_or_fault (first_beyond header.records (config_for asked header.records)) (config_for asked header.records)
  estimate_of test config header points

-- the report on the library in the input, or the first fault: of the library, of the processor, of its points
unfoldable pub estimate_result : Asked → Test → List ℕ → Result Written InputFault
estimate_result asked test input = do
  library ← library_or_fault (library_of input)
  estimate_on asked test (header_of library.head) library.points
