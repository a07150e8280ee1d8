use Rattle.std.proofs.Common.{◌≡◌, [], refl, ap, ◌∙◌}
use Rattle.lru_plain.specs.Shape.{Shape}
use Rattle.recency_record.specs.Recency.{Recency, record_of}
use Rattle.window_sim.proofs.tests.snapshot.Goals as goal

shape_kept : (g : Shape) → (record_of [] g).shape ≡ g
unfolding record_of
shape_kept g = refl

pub returns : goal.returns
returns c =
    ap (λ (r : Recency). r.shape) (c.in_ok-snapshot.ensures ∙ c.in_ok-new.ensures) ∙ shape_kept c.args.geometry
