use Rattle.std.proofs.Common.{◌≡◌, ◌-◌, ◌∷◌, [], length, take, drop}
use Rattle.livepoint_format.specs.Reading.{items}
use Rattle.livepoint_format.specs.Decoding.{register_after, registers_count}
use Rattle.livepoint_format.proofs.point.registers.Given as goal

abbrev pub invariant-loop-i : goal.invariant-loop-i
invariant-loop-i l = record {
  long : length l.regs ≡ 32;
  zero : l.regs ≡ 0 ∷ drop 1 l.regs;
  read : items register_after (registers_count - l.i) (take l.i (drop 1 l.regs)) l.cursor ≡ items register_after registers_count [] l.fn.cursor;
}
