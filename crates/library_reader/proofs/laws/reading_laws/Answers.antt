use Rattle.library_reader.proofs.ReadingLemmas.{ends_is, faulty_is, feeds_on, next_is, next_settles, starts_is}
use Rattle.library_reader.proofs.laws.reading_laws.Goals as goal

pub returns : goal.returns
returns c = record {
  starts = starts_is;
  feeds = feeds_on;
  next = next_is;
  settles = next_settles;
  ends = ends_is;
  faulty = faulty_is;
}
