-- What a call of a reader answers, and how far the library is then read.
use Rattle.std.specs.Prelude.{◌≡◌, Result, Ok, Err}
use Rattle.livepoint_format.specs.declared.fault.LibraryFault.{LibraryFault}
use Rattle.smarts_base.specs.declared.refusal.NoMemory.{NoMemory as Want}
use Rattle.smarts_base.specs.declared.refusal.Refusal.{Refusal}
use Rattle.smarts_base.specs.declared.refusal.Refusal.TheVariants.{Fault, NoMemory}
use Rattle.library_reader.specs.declared.part.Part.{Part}
use Rattle.library_reader.specs.Reader.{Reading, next_part}

-- the part that is due is handed out; after a fault, and after want of memory, nothing changed
abbrev pub Hands : Result Part (Refusal LibraryFault) → Reading → Reading → Result (Part × Reading) LibraryFault → Type 0
Hands (Ok part) new old due = due ≡ Ok (part, new)
Hands (Err (Fault fault)) new old due = (due ≡ Err fault) × (new ≡ old)
Hands (Err NoMemory) new old due = new ≡ old

-- the next part is handed out; after want of memory nothing changed
abbrev pub HandsNext : Result Part Want → Reading → Reading → Type 0
HandsNext (Ok part) new old = next_part old ≡ (part, new)
HandsNext (Err want) new old = new ≡ old
