use Rattle.std.proofs.Common.{◌≡◌, ◌++◌, [], ◌∷◌, length, arith, ◌∙◌, ap}
use Rattle.std.proofs.lemmas.List.{length_push}
use Rattle.livepoint_format.specs.Decoding.{kind_after}
use Rattle.livepoint_format.proofs.HeaderLaws.{joins}
use Rattle.livepoint_format.proofs.Loops.{goes_on}
use Rattle.livepoint_format.proofs.header.more_kinds.Goals as goal

pub loop-preserved : goal.loop-preserved
loop-preserved c =
    let new : c.add-added.new.self ≡ c.loop.kinds ++ c.in_ok-kind.kind ∷ [] =
    joins c.in_ok-kind.kind c.loop.kinds c.add-added.new.self c.add-added.result (omega arith) c.in_ok-kind.ensures.new
    c.add-added.ensures.value c.add-added.ensures.kinds in
    record {
      long = omega (arith, ap length new, length_push c.loop.kinds c.in_ok-kind.kind, c.loop.invariant.long);
      read = rw new (goes_on kind_after c.args.count c.loop.counter c.loop.kinds c.loop.cursor c.in_ok-kind.kind c.kind_after.new.cursor (omega arith) c.in_ok-kind.ensures.read)
          ∙ c.loop.invariant.read;
    }
