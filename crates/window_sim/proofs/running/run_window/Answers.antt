use Rattle.std.proofs.lemmas.List.Elements.{All-nil, All-push}
use Rattle.hierarchy.specs.Marked.{IsMarked}
use Rattle.hierarchy.proofs.TraceLemmas.{none_annotated}
use Rattle.window_sim.proofs.MarksLemmas.{marks_none, packed_more}
use Rattle.window_sim.proofs.running.run_window.Goals as goal

pub loop-i-init : goal.loop-i-init
loop-i-init g c = record {
  sound = c.requires.sound;
  built = c.requires.built;
  room = c.requires.room;
  marked = rw marks_none (All-nil IsMarked);
  annotated = rw marks_none (none_annotated _ _ _);
}

pub loop-i-preserved : goal.loop-i-preserved
loop-i-preserved g c =
    let more = packed_more c.loop-i.words c.loop-i.i c.args.len c.pack-one.result.0 c.pack-one.result.1 c.in_ok-mark.mark
    c.loop-i.invariant.room c.loop-i-test.true c.pack-one.ensures in
    record {
      sound = c.in_ok-mark.ensures.sound;
      built = c.in_ok-mark.ensures.built;
      room = more.0;
      marked = rw more.1 (All-push IsMarked _ _ c.loop-i.invariant.marked c.in_ok-mark.ensures.marked);
      annotated = rw more.1 (c.in_ok-mark.ensures.annotated _ _ _ _ c.loop-i.invariant.annotated);
    }
