use Rattle.std.proofs.Common.{◌++◌, List, ℕ, sym, ap, ◌∙◌}
use Rattle.livepoint_format.proofs.EncodingLemmas.{bytes_are}
use Rattle.livepoint_format.proofs.point_writing.put_counters.Goals as goal

pub returns : goal.returns
returns c =
    c.in_ok-extend_from_slice.ensures.items
    ∙ ap (λ (l : List ℕ). c.args.out.now.items ++ l) (sym (bytes_are c.args.counters.now (λ i. (c.type_inv.counters i).fits)))
