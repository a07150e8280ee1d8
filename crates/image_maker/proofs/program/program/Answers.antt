use Rattle.std.proofs.Common.{◌≡◌, ◌+◌, ◌*◌, ◌++◌, append_assoc, arith, refl}
use Rattle.std.proofs.lemmas.List.{append-nil}
use Rattle.std.proofs.lemmas.List.Elements.{All-append}
use Rattle.rv_isa.specs.Table.{IsEncodable}
use Rattle.image_maker.specs.Choice.{state_behind}
use Rattle.image_maker.specs.Program.{start, groups, turn_end, exit, program}
use Rattle.image_maker.proofs.Pieces.{groups_none, groups_more, state_behind_both}
use Rattle.image_maker.proofs.program.program.Goals as goal

pub loop-init : goal.loop-init
unfolding state_behind start
loop-init c = record {
  value =
      rw (
        c.in_ok-extend_from_slice.ensures.items,
        c.in_ok-program.ensures.items,
        c.start.ensures.value,
        groups_none c.args.seed,
      )
      (append-nil (start c.args.size));
  encodable =
      rw (c.in_ok-extend_from_slice.ensures.items, c.in_ok-program.ensures.items) c.start.ensures.encodable;
  state = refl;
}

pub loop-preserved : goal.loop-preserved
loop-preserved c =
    let four : 4 * c.loop.counter + 4 ≡ 4 * (c.loop.counter + 1) = omega arith in
    record {
      value =
          rw (
            c.in_ok-extend_from_slice-2.ensures.items,
            c.group.ensures.value,
            c.choose.ensures.value,
            c.loop.invariant.value,
            c.loop.invariant.state,
            append_assoc,
            groups_more c.args.seed c.loop.counter,
          );
      encodable =
          rw c.in_ok-extend_from_slice-2.ensures.items
          (All-append IsEncodable _ _ c.loop.invariant.encodable c.group.ensures.encodable);
      state = rw (c.choose.ensures.state, c.loop.invariant.state, state_behind_both, four);
    }

pub returns-clause-value : goal.returns-clause-value
unfolding program
returns-clause-value c =
    let all : c.loop.counter ≡ 64 = omega arith in
    rw (
      c.in_ok-extend_from_slice-3.ensures.items,
      c.end.ensures.value,
      c.loop.invariant.value,
      all,
      append_assoc (start c.args.size ++ groups c.args.seed 64) turn_end exit,
    )
