use Rattle.library_reader.proofs.SizeLemmas.{kept_front, kept_size}
use Rattle.library_reader.proofs.reader.Reader.next.Goals as goal

pub returns-clause-bytes : goal.returns-clause-bytes
returns-clause-bytes c = kept_size c.handed.result c.handed.new.self c.args.self.now c.handed.ensures.part

pub returns-clause-front : goal.returns-clause-front
returns-clause-front c = kept_front c.handed.result c.handed.new.self c.args.self.now c.handed.ensures.part
