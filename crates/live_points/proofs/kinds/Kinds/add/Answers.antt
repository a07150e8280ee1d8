use Rattle.std.proofs.Common.{arith, sym, ◌∙◌, ◌≡◌, ap, ◌<◌, false}
use Rattle.std.proofs.lemmas.List.{length-set}
use Rattle.live_points.specs.Kinds.{is_among}
use Rattle.live_points.specs.KindsView.{kinds_of}
use Rattle.live_points.proofs.KindsLemmas.{kinds_written}
use Rattle.live_points.proofs.kinds.Kinds.add.Goals as goal

pub invariant_of-self : goal.invariant_of-self
invariant_of-self c =
    let few : c.self.inside.count < 4 = omega (arith, c.self.invariant.within, c.if-self-eq4.false) in
    let new : is_among c.args.kind (kinds_of c.self.inside) ≡ false =
    ap (is_among c.args.kind) c.self.view_is ∙ sym c.contains.ensures ∙ c.if-contains.false in
    record {
      row = length-set c.self.inside.kinds c.self.inside.count c.args.kind ∙ c.self.invariant.row;
      within = omega arith;
      kinds =
          kinds_written c.self.inside.kinds c.self.inside.count c.args.kind c.self.invariant.kinds few
          c.self.invariant.row new;
    }
