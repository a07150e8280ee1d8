use Rattle.std.proofs.Common.{◌≡◌, ◌≤◌, ◌∙◌, false, sym, arith}
use Rattle.ruu_timing.specs.Issues.{has_room}
use Rattle.ruu_timing.proofs.IssuesLemmas.{no_room_within, none_more, power_some}
use Rattle.ruu_timing.proofs.issues.first_room.Goals as goal

pub wait-init : goal.wait-init
wait-init c =
    let none : has_room c.args.w.now c.args.slots.now c.args.start c.args.class c.args.ready ≡ false =
    sym c.has_room.ensures ∙ c.if-has_room.false in
    let end : c.args.ready ≤ c.args.last =
    no_room_within c.args.w.now c.args.slots.now c.args.start c.args.class c.args.last c.args.ready c.requires.widths
    (power_some _ c.requires.power) c.requires.before none in
    record {
      start = omega arith;
      end = omega (arith, end);
      none = none_more c.args.w.now c.args.slots.now c.args.start c.args.class c.args.ready c.args.ready
          (λ k from below. absurd (omega (arith, from, below))) none;
    }

pub wait-preserved : goal.wait-preserved
wait-preserved c =
    let none : has_room c.args.w.now c.args.slots.now c.args.start c.args.class c.wait.t ≡ false =
    sym c.has_room-in-wait.ensures ∙ c.wait-test.true in
    let end : c.wait.t ≤ c.args.last =
    no_room_within c.args.w.now c.args.slots.now c.args.start c.args.class c.args.last c.wait.t c.requires.widths
    (power_some _ c.requires.power) c.requires.before none in
    record {
      start = let h : c.args.ready ≤ c.wait.t = c.wait.invariant.start in omega arith;
      end = omega (arith, end);
      none = none_more c.args.w.now c.args.slots.now c.args.start c.args.class c.args.ready c.wait.t c.wait.invariant.none none;
    }
