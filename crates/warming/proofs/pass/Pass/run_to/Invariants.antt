use Rattle.std.proofs.Common.{◌≡◌, ℕ, length}
use Rattle.live_points.specs.declared.header.Records.{Records}
use Rattle.rv_exec.specs.Machine.{State}
use Rattle.warming.specs.Passing.{IsPassing}
use Rattle.warming.proofs.pass.Pass.run_to.Given as goal

abbrev pub invariant-loop : goal.invariant-loop
invariant-loop l = record {
  passing : (start : State) (records : Records) (begins : ℕ → ℕ)
      → IsPassing start records begins l.fn.self → IsPassing start records begins l.self;
  at : l.self.at ≡ l.counter;
  count : length l.self.windows.windows ≡ length l.fn.self.windows.windows;
  ended : l.self.windows.ended ≡ l.fn.self.windows.ended;
}
