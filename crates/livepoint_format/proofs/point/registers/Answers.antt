use Rattle.std.proofs.Common.{◌+◌, Ok, ℕ, List, arith, sym, ap, ◌∙◌, drop, take, length-set, length-drop}
use Rattle.std.proofs.lemmas.List.{take_all}
use Rattle.livepoint_format.specs.Decoding.{register_after, registers_count}
use Rattle.livepoint_format.proofs.Loops.{fails, goes_on, is_done}
use Rattle.livepoint_format.proofs.Follows.{rest_more, first_stays}
use Rattle.livepoint_format.proofs.point.registers.Goals as goal

pub returns-in_err-regs-clause-read : goal.returns-in_err-regs-clause-read
returns-in_err-regs-clause-read c =
    fails (λ regs. drop 1 regs) c.from_residual.result c.u32.new.self register_after registers_count c.loop-i.i (take c.loop-i.i (drop 1 c.loop-i.regs))
    c.loop-i.cursor c.in_err-regs.field-0.0 _ (omega arith) c.from_residual.ensures.1 c.in_err-regs.ensures c.loop-i.invariant.read

pub loop-i-preserved : goal.loop-i-preserved
loop-i-preserved c =
    record {
      long = length-set c.loop-i.regs (c.loop-i.i + 1) c.in_ok-regs.field-0 ∙ c.loop-i.invariant.long;
      zero = first_stays c.loop-i.regs c.loop-i.i c.in_ok-regs.field-0 c.loop-i.invariant.zero;
      read = rw (rest_more c.loop-i.regs c.loop-i.i c.in_ok-regs.field-0 (omega (arith, c.loop-i.invariant.long)))
          (goes_on register_after registers_count c.loop-i.i (take c.loop-i.i (drop 1 c.loop-i.regs)) c.loop-i.cursor c.in_ok-regs.field-0
          c.u32.new.self (omega arith) c.in_ok-regs.ensures ∙ c.loop-i.invariant.read);
    }

pub returns-clause-read : goal.returns-clause-read
returns-clause-read c =
    sym c.loop-i.invariant.read
    ∙ is_done register_after registers_count c.loop-i.i (take c.loop-i.i (drop 1 c.loop-i.regs)) c.loop-i.cursor (omega arith)
    ∙ ap (λ (l : List ℕ). Ok (l, c.loop-i.cursor)) (take_all c.loop-i.i (drop 1 c.loop-i.regs) (omega (arith, length-drop 1 c.loop-i.regs, c.loop-i.invariant.long)))
