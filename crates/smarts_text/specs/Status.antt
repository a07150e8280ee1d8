-- The numbers that texts and the process's end show for faults.
use Rattle.std.specs.Prelude.{ℕ}
use Rattle.elf_image.specs.declared.fault.ImageFault.{ImageFault}
use Rattle.elf_image.specs.declared.fault.ImageFault.TheVariants as images
use Rattle.livepoint_format.specs.declared.fault.LibraryFault.{LibraryFault}
use Rattle.livepoint_format.specs.declared.fault.LibraryFault.TheVariants as libraries
use Rattle.rv_exec.specs.declared.event.TrapKind.{TrapKind}
use Rattle.rv_exec.specs.declared.event.TrapKind.TheVariants as traps
use Rattle.smarts_text.specs.declared.read.WordKind.{WordKind}
use Rattle.smarts_text.specs.declared.read.WordKind.TheVariants as kinds
use Rattle.smarts_text.specs.declared.status.DesignFault.{DesignFault}
use Rattle.smarts_text.specs.declared.status.DesignFault.TheVariants as designs
use Rattle.smarts_text.specs.declared.status.Status.{Status}
use Rattle.smarts_text.specs.declared.status.Status.TheVariants as statuses

-- the number that the process ends with
abbrev pub status_number : Status → ℕ
status_number statuses.Done = 0
status_number (statuses.BadWords fault) = 1
status_number (statuses.BadImage fault) = 2
status_number (statuses.Trapped at trap) = 3
status_number (statuses.BudgetSpent budget) = 4
status_number (statuses.BadLibrary fault) = 5
status_number (statuses.BadDesign fault) = 6
status_number statuses.ReadFault = 7
status_number (statuses.WriteFault taken) = 8
status_number statuses.NoMemory = 9

abbrev pub word_number : WordKind → ℕ
word_number kinds.NoCommand = 1
word_number kinds.UnknownCommand = 2
word_number kinds.UnknownKey = 3
word_number kinds.Repeated = 4
word_number kinds.BadValue = 5
word_number kinds.OutOfRange = 6
word_number kinds.Missing = 7
word_number kinds.LsqOverRuu = 8
word_number kinds.OffsetNotBelowEvery = 9

abbrev pub image_number : ImageFault → ℕ
image_number images.NotElf = 1
image_number images.NotRiscv32 = 2
image_number images.NotExecutable = 3
image_number images.Compressed = 4
image_number images.HeaderOutside = 5
image_number images.SegmentOutside = 6
image_number images.SegmentRange = 7
image_number images.Overlap = 8
image_number images.TooLarge = 9
image_number images.BadEntry = 10
image_number images.SpanTooLarge = 11

abbrev pub trap_number : TrapKind → ℕ
trap_number traps.Illegal = 1
trap_number traps.BadTarget = 2
trap_number traps.MisalignedLoad = 3
trap_number traps.MisalignedStore = 4
trap_number traps.Missing = 5
trap_number traps.Break = 6
trap_number traps.BadBuffer = 7

abbrev pub library_number : LibraryFault → ℕ
library_number libraries.BadMagic = 1
library_number libraries.BadVersion = 2
library_number (libraries.BadField at) = 3
library_number (libraries.Truncated at) = 4
library_number (libraries.BadRecord point place fault) = 5
library_number (libraries.BadWords point) = 6
library_number (libraries.BadOrder point) = 7
library_number (libraries.TrailingBytes at) = 8
library_number (libraries.TooLarge length) = 9
library_number (libraries.BadPoint point fault) = 10
library_number (libraries.BadShared index) = 11
library_number (libraries.BadRuns point) = 12

-- where a library is at fault: the point, the byte, the number of bytes, or the pair of the table
abbrev pub library_place : LibraryFault → ℕ
library_place libraries.BadMagic = 0
library_place libraries.BadVersion = 0
library_place (libraries.BadField at) = at
library_place (libraries.Truncated at) = at
library_place (libraries.BadRecord point place fault) = point
library_place (libraries.BadWords point) = point
library_place (libraries.BadOrder point) = point
library_place (libraries.TrailingBytes at) = at
library_place (libraries.TooLarge length) = length
library_place (libraries.BadPoint point fault) = point
library_place (libraries.BadShared index) = index
library_place (libraries.BadRuns point) = point

abbrev pub design_number : DesignFault → ℕ
design_number (designs.NoUnits length) = 1
design_number (designs.TooMany count) = 2
design_number (designs.LibraryTooLarge length) = 3
design_number (designs.Beyond structure) = 4

-- the length, the count or the structure that the fault names
abbrev pub design_value : DesignFault → ℕ
design_value (designs.NoUnits length) = length
design_value (designs.TooMany count) = count
design_value (designs.LibraryTooLarge length) = length
design_value (designs.Beyond structure) = structure
