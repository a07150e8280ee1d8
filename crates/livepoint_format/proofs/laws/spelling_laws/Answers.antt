use Rattle.livepoint_format.proofs.LibraryLaws.{reads_spellings, spells_one}
use Rattle.livepoint_format.proofs.laws.spelling_laws.Goals as goal

pub returns-clause-reads : goal.returns-clause-reads
returns-clause-reads c = reads_spellings

pub returns-clause-one : goal.returns-clause-one
returns-clause-one c = spells_one
