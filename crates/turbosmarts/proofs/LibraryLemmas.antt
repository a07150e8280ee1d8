-- The libraries that calls give are those of the definitions.
use Rattle.std.proofs.Common.{◌≡◌, ℕ, List, Result, Ok, Err, sym, ap, ◌∙◌}
use Rattle.elf_image.specs.Image.{ImageValue, image_of}
use Rattle.live_points.specs.declared.header.Header.{Header}
use Rattle.live_points.specs.declared.header.Records.{Records}
use Rattle.live_points.specs.Points.{points_of}
use Rattle.live_points.specs.Sharing.{IsSharing}
use Rattle.live_points.proofs.SharingLemmas.{sharing_is_one}
use Rattle.livepoint_format.specs.Format.{spelling}
use Rattle.livepoint_format.specs.Migrating.{IsMigrated}
use Rattle.livepoint_format.specs.Values.{Whole, Point}
use Rattle.rv_exec.specs.Machine.{State}
use Rattle.rv_machine.specs.Start.{start_of}
use Rattle.sample_design.specs.declared.design.Design.{Design}
use Rattle.smarts_base.specs.Outcome.{◌>>=◌}
use Rattle.turbosmarts.proofs.SharingLemmas.{sharing_is}
use Rattle.turbosmarts.specs.commands.Migrate.{migrated}
use Rattle.turbosmarts.specs.commands.Warm.{run_library, run_or_fault, warm_result}
use Rattle.turbosmarts.specs.Sharing.{sharing_of}
use Rattle.turbosmarts.specs.Stages.{image_or_fault, library_written}
use Rattle.warming.specs.declared.fault.WarmFault.{WarmFault}
use Rattle.warming.specs.Warming.{IsLibraryOf, IsWarmed, header_or_fault}

table_is : (points : List Point) (table : List (ℕ × ℕ)) → IsSharing points table → table ≡ sharing_of points
table_is points table is = sharing_is_one points table (sharing_of points) is (sharing_is points table is)

pub migrated_is : (old new : Whole) → IsMigrated old new → new ≡ migrated old
migrated_is old new is =
    let table : new.shared ≡ sharing_of old.points = table_is old.points new.shared is.shared in
    λ i. record { head = is.head i; shared = table i; points = is.points i }

library_is : (start : State) (header : Header) (library : Whole) → IsLibraryOf start header library → library ≡ run_library start header
library_is start header library is =
    let table : library.shared ≡ sharing_of (points_of header start header.points) =
    table_is library.points library.shared is.shared ∙ ap sharing_of is.points in
    λ i. record { head = is.head i; shared = table i; points = is.points i }

warmed_library :
    (budget : ℕ) (start : State) (expected : Result Header WarmFault) (library : Whole)
    → IsWarmed start expected (Ok library)
    → (run_or_fault budget expected >>= (λ header. library_written (spelling (run_library start header))))
    ≡ library_written (spelling library)
warmed_library budget start (Ok header) library is =
    ap (λ (l : Whole). library_written (spelling l)) (sym (library_is start header library is))
warmed_library budget start (Err fault) library is = absurd is

-- what is written of the library of a run is what the definition writes
pub warmed_is :
    (design : Design) (records : Records) (input : List ℕ) (image : ImageValue) (library : Whole)
    → image_or_fault (image_of input) ≡ Ok image
    → IsWarmed (start_of image) (header_or_fault (start_of image) design records) (Ok library)
    → warm_result design records input ≡ library_written (spelling library)
unfolding warm_result
warmed_is design records input image library loads is =
    rw loads (warmed_library design.budget (start_of image) (header_or_fault (start_of image) design records) library is)
