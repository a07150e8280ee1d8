-- The commands: what words ask of each, the keys that it has, and what holds of one that was accepted.
use Rattle.std.specs.Prelude.{◌≤◌, All, ◌^◌, ℕ, List, [], ◌∷◌, codes, if◌then◌else◌, Option, Some, None}
use Rattle.std.specs.Str.{bytes_eq}
use Rattle.confidence.specs.Confidence.{IsInRange}
use Rattle.hierarchy.specs.Config.{ArePlaces, IsConfig}
use Rattle.predictor.specs.Kind.{IsKind}
use Rattle.sample_design.specs.Design.{IsUsable}
use Rattle.smarts_text.specs.declared.command.Command.{Command}
use Rattle.smarts_text.specs.declared.command.Command.TheVariants.{Sample, Demo, Warm, Migrate, Estimate, Run}
use Rattle.smarts_text.specs.declared.keys.Group.{Group}
use Rattle.smarts_text.specs.declared.keys.Group.TheVariants as groups
use Rattle.smarts_text.specs.Asked.{number_in, design_in, test_in}
use Rattle.smarts_text.specs.Configured.{config_in}
use Rattle.smarts_text.specs.Keys as Keys
use Rattle.smarts_text.specs.Keys.{Key}
use Rattle.smarts_text.specs.Processor.{IsAsked, asked_in}
use Rattle.smarts_text.specs.Recorded.{records_in}

-- what words ask of the command of this name, whether they are at fault or not
unfoldable pub command_in : List ℕ → List (List ℕ) → Option Command
command_in name words =
    if bytes_eq name (codes "sample") then Some (Sample (design_in words) (config_in [] words) (test_in words))
    else (if bytes_eq name (codes "demo") then Some (Demo (number_in [] words Keys.size_key) (design_in words) (config_in [] words) (test_in words))
    else (if bytes_eq name (codes "warm") then Some (Warm (design_in words) (records_in words))
    else (if bytes_eq name (codes "migrate") then Some Migrate
    else (if bytes_eq name (codes "estimate") then Some (Estimate (asked_in [] words) (test_in words) (number_in [] words Keys.workers_key))
    else (if bytes_eq name (codes "run") then Some (Run (number_in [] words Keys.budget_key))
    else None)))))

-- the groups whose keys the command has
abbrev pub groups_of : Command → List Group
groups_of (Sample design config test) =
    groups.Design ∷ groups.Budget ∷ groups.Test ∷ groups.Caches ∷ groups.Predictor ∷ groups.Timing ∷ []
groups_of (Demo size design config test) =
    groups.Size ∷ groups.Design ∷ groups.Budget ∷ groups.Test ∷ groups.Caches ∷ groups.Predictor ∷ groups.Timing ∷ []
groups_of (Warm design records) = groups.Design ∷ groups.Budget ∷ groups.Caches ∷ groups.Predictors ∷ []
groups_of Migrate = []
groups_of (Estimate asked test workers) =
    groups.Test ∷ groups.Workers ∷ groups.Caches ∷ groups.Predictor ∷ groups.Timing ∷ []
groups_of (Run budget) = groups.Budget ∷ []

-- the key that has no default: the command has to be given it
abbrev pub required_key : Command → Option Key
required_key (Sample design config test) = None
required_key (Demo size design config test) = Some Keys.size_key
required_key (Warm design records) = None
required_key Migrate = None
required_key (Estimate asked test workers) = None
required_key (Run budget) = None

-- a command's design, processor, records and test can be used, and a size, a budget or a number of workers is in its range
abbrev pub IsSound : Command → Type 0
IsSound (Sample design config test) = IsUsable design × IsConfig config × IsInRange test
IsSound (Demo size design config test) =
    ((1 ≤ size) × (size ≤ 1000000)) × IsUsable design × IsConfig config × IsInRange test
IsSound (Warm design records) = IsUsable design × ArePlaces records.places × All IsKind records.kinds
IsSound Migrate = Unit {0}
IsSound (Estimate asked test workers) = IsAsked asked × IsInRange test × ((1 ≤ workers) × (workers ≤ 64))
IsSound (Run budget) = (1 ≤ budget) × (budget ≤ 2 ^ 36)
