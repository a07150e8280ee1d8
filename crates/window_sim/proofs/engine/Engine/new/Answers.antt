use Rattle.window_sim.proofs.BuiltLemmas.{warmed_built}
use Rattle.window_sim.proofs.engine.Engine.new.Goals as goal

pub returns : goal.returns
returns c = record {
  built = rw c.in_ok-new-2.ensures (warmed_built c.args.config.now);
  widths_are = c.in_ok-new-3.ensures.widths;
}
