use Rattle.std.proofs.Common.{◌≡◌, ◌<◌, ◌≤◌}
use Rattle.rv_machine.specs.Start.{start_of}
use Rattle.sample_design.specs.Units.{sampled_unit, end_of}
use Rattle.warming.specs.Collecting.{IsCollecting}
use Rattle.warming.proofs.collecting.collect.Given as goal

abbrev pub invariant-loop-p : goal.invariant-loop-p
invariant-loop-p l = record {
  ended : l.pass.windows.ended ≡ l.p;
  at : l.p < l.header.points → l.pass.at ≤ end_of l.header.design (sampled_unit l.header.design l.p);
  way : IsCollecting (start_of l.fn.image) l.header l.pass l.points.items;
}
