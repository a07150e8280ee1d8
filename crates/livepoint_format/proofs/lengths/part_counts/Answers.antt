use Rattle.std.proofs.Common.{◌≡◌, ℕ, Some, None, List, length, take, filter, get_or, is_none, sym, ap, ◌∙◌, arith}
use Rattle.std.specs.Prelude.{filter_map}
use Rattle.std.proofs.lemmas.List.{length_push}
use Rattle.livepoint_format.specs.Shared.{place_in, runs_of}
use Rattle.livepoint_format.specs.Lengths.{end_of}
use Rattle.livepoint_format.proofs.Places.{place_of}
use Rattle.livepoint_format.proofs.SplittingLemmas.{own_more, own_stay, runs_stay, run_more}
use Rattle.livepoint_format.proofs.LengthsLemmas.{end_extended, long_extended}
use Rattle.livepoint_format.proofs.lengths.part_counts.Goals.{in-Some, in-None}
use Rattle.livepoint_format.proofs.lengths.part_counts.Goals as goal

pub begun-runs-requires : goal.begun-runs-requires
begun-runs-requires c =
    omega (arith, (place_of c.args.shared.now (get_or c.args.words.now c.loop-i.i (0, 0)) c.in-Some.place (sym c.place_in.ensures ∙ c.in-Some.is)).0, c.requires.short)

pub overflow_add-end : goal.overflow_add-end
overflow_add-end c =
    omega (arith, (place_of c.args.shared.now (get_or c.args.words.now c.loop-i.i (0, 0)) c.in-Some.place (sym c.place_in.ensures ∙ c.in-Some.is)).0, c.requires.short)

pub loop-i-preserved : goal.loop-i-preserved
loop-i-preserved c = elim c.match-place_in.branch [
  | in-Some w ↦
      let e : place_in c.args.shared.now (get_or c.args.words.now c.loop-i.i (0, 0)) ≡ Some w.in-Some.place = sym c.place_in.ensures ∙ w.in-Some.is in
      let before : List (ℕ × ℕ) = runs_of (filter_map (place_in c.args.shared.now) (take c.loop-i.i c.args.words.now)) in
      let more = run_more c.args.shared.now c.args.words.now c.loop-i.i (omega arith) w.in-Some.place e in
      record {
        own = w.own-is ∙ c.loop-i.invariant.own ∙ ap length (sym (own_stay c.args.shared.now c.args.words.now c.loop-i.i (omega arith) w.in-Some.place e));
        runs = w.runs-is
            ∙ rw (w.begun-runs.ensures.value, c.loop-i.invariant.end, c.loop-i.invariant.runs) (sym (long_extended before w.in-Some.place))
            ∙ ap length (sym more);
        end = w.end-is ∙ sym (ap end_of more ∙ end_extended before w.in-Some.place);
        few = omega (arith, w.own-is, w.runs-is, w.begun-runs.ensures.few, c.loop-i.invariant.few);
      }
  | in-None w ↦
      let e : place_in c.args.shared.now (get_or c.args.words.now c.loop-i.i (0, 0)) ≡ None = sym c.place_in.ensures ∙ w.in-None.is in
      let same = runs_stay c.args.shared.now c.args.words.now c.loop-i.i (omega arith) e in
      record {
        own = omega (
          arith,
          w.own-is,
          c.loop-i.invariant.own,
          ap length (own_more c.args.shared.now c.args.words.now c.loop-i.i (omega arith) e),
          length_push (filter (λ w. is_none (place_in c.args.shared.now w)) (take c.loop-i.i c.args.words.now)) (get_or c.args.words.now c.loop-i.i (0, 0)),
        );
        runs = w.runs-is ∙ c.loop-i.invariant.runs ∙ ap length (sym same);
        end = w.end-is ∙ c.loop-i.invariant.end ∙ ap end_of (sym same);
        few = omega (arith, w.own-is, w.runs-is, c.loop-i.invariant.few);
      }
]
