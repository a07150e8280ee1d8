use Rattle.std.proofs.Common.{refl, arith}
use Rattle.window_sim.proofs.MarksLemmas.{mark_back}
use Rattle.window_sim.proofs.marks.pack.Goals as goal

pub returns : goal.returns
returns c =
    mark_back c.args.mark.now c.class_number.result c.flag_number.result c.flag_number-2.result c.register_number.result
    c.register_number-2.result c.register_number-3.result c.word_number.result _ _
    (record {
      class_is = c.class_number.ensures.back;
      class_most = c.class_number.ensures.most;
      mispredicted_is = c.flag_number.ensures.back;
      mispredicted_most = c.flag_number.ensures.most;
      transferred_is = c.flag_number-2.ensures.back;
      transferred_most = c.flag_number-2.ensures.most;
      first_is = c.register_number.ensures.back;
      first_most = c.register_number.ensures.most;
      second_is = c.register_number-2.ensures.back;
      second_most = c.register_number-2.ensures.most;
      dest_is = c.register_number-3.ensures.back;
      dest_most = c.register_number-3.ensures.most;
      word_is = c.word_number.ensures.back;
      stall_most = omega (arith, c.requires.stall);
      latency_most = omega (arith, c.requires.latency_most);
    })
    refl refl
