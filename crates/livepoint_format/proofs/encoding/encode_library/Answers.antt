use Rattle.livepoint_format.proofs.EncodingLemmas.{read_of_bytes, ended_parts}
use Rattle.livepoint_format.proofs.encoding.encode_library.Goals as goal

pub returns-clause-bytes : goal.returns-clause-bytes
returns-clause-bytes c =
    ended_parts c.args.library.now c.in_ok-bytes.bytes.items c.put_word.new.out.items c.in_ok-bytes.ensures c.in_ok-put_word.ensures

pub returns-clause-read : goal.returns-clause-read
returns-clause-read c =
    read_of_bytes c.put_word.new.out.items c.args.library.now c.header-header.ensures.whole (returns-clause-bytes c)
