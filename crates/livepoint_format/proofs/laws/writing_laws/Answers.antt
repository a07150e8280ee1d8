use Rattle.std.proofs.Common.{sym}
use Rattle.livepoint_format.proofs.LibraryLaws.{read_again, reads_spellings}
use Rattle.livepoint_format.proofs.laws.writing_laws.Goals as goal

pub returns : goal.returns
returns c = record {
  library = read_again;
  bytes = λ bytes l are read. sym ((reads_spellings bytes l are).0 read).1;
}
