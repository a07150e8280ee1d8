use Rattle.std.proofs.Common.{◌≡◌, ◌+◌, ◌≤◌, ◌∙◌, false, sym, reverse, arith}
use Rattle.ruu_timing.specs.Times.{has_slot}
use Rattle.ruu_timing.proofs.LawsLemmas.{free_of, none_more, before_free, issue_found}
use Rattle.ruu_timing.proofs.tests.earlier.first_slot.Goals as goal

pub wait-preserved : goal.wait-preserved
wait-preserved c =
    let slot : has_slot c.args.w.now (reverse c.args.earlier.now) c.args.class c.wait.t ≡ false =
    sym c.has_slot.ensures ∙ c.wait-test.true in
    let end : c.wait.t + 1 ≤ free_of (reverse c.args.earlier.now) c.args.ready =
    before_free c.args.w.now (reverse c.args.earlier.now) c.args.class c.args.ready c.wait.t c.requires.widths
    c.requires.timed c.wait.invariant.start c.wait.invariant.end slot in
    record {
      start = let h : c.args.ready ≤ c.wait.t = c.wait.invariant.start in omega arith;
      end = end;
      none = none_more c.args.w.now (reverse c.args.earlier.now) c.args.class c.args.ready c.wait.t
          c.wait.invariant.none slot;
    }

pub returns-clause-value : goal.returns-clause-value
returns-clause-value c =
    sym (issue_found c.args.w.now (reverse c.args.earlier.now) c.args.class c.args.ready c.wait.t
    c.wait.invariant.start c.wait.invariant.end c.wait.invariant.none
    (sym c.has_slot.ensures ∙ c.wait-test.false))
