use Rattle.livepoint_format.proofs.DecodingLemmas.{found_of, only_of}
use Rattle.livepoint_format.proofs.decoding.decode_library.Goals as goal

pub returns-clause-found : goal.returns-clause-found
returns-clause-found c = found_of c.all.result c.args.bytes.now (λ i. (c.type_inv.bytes i).fits) c.all.ensures

pub returns-clause-only : goal.returns-clause-only
returns-clause-only c = only_of c.all.result c.args.bytes.now (λ i. (c.type_inv.bytes i).fits) c.all.ensures
