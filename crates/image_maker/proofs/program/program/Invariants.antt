use Rattle.std.proofs.Common.{◌≡◌, ◌++◌, ◌*◌, All}
use Rattle.rv_isa.specs.Table.{IsEncodable}
use Rattle.image_maker.specs.Choice.{state_behind}
use Rattle.image_maker.specs.Program.{start, groups}
use Rattle.image_maker.proofs.program.program.Given as goal

abbrev pub invariant-loop : goal.invariant-loop
invariant-loop l = record {
  value : l.program.items ≡ start l.size ++ groups l.seed l.counter;
  encodable : All IsEncodable l.program.items;
  state : l.draws.state ≡ state_behind l.seed (4 * l.counter);
}
