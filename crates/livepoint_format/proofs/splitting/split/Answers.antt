use Rattle.std.proofs.Common.{◌≡◌, Some, None, sym, ap, ◌∙◌, arith, get_or, ℕ, List, ◌++◌}
use Rattle.livepoint_format.specs.Splitting.{open_run, extended}
use Rattle.livepoint_format.specs.Shared.{place_in}
use Rattle.livepoint_format.proofs.Places.{place_of}
use Rattle.livepoint_format.proofs.SplittingLemmas.{own_more, own_stay, runs_stay, run_more}
use Rattle.livepoint_format.proofs.splitting.split.Goals.{in-Some+in_ok-last-in-Some, in-None+in_ok-push-in-None}
use Rattle.livepoint_format.proofs.splitting.split.Goals as goal

pub overflow_cast-place : goal.overflow_cast-place
overflow_cast-place c =
    omega (arith, (place_of c.args.shared.now (get_or c.args.words.now c.loop-i.i (0, 0)) c.in-Some.place (sym c.place_in.ensures ∙ c.in-Some.is)).0, c.requires.short)

pub loop-i-preserved : goal.loop-i-preserved
loop-i-preserved c = elim c.match-place_in.branch [
  | in-Some+in_ok-last-in-Some w ↦
      let e : place_in c.args.shared.now (get_or c.args.words.now c.loop-i.i (0, 0)) ≡ Some w.in-Some.place = sym c.place_in.ensures ∙ w.in-Some.is in
      record {
        own = rw w.own-is (c.loop-i.invariant.own ∙ sym (own_stay c.args.shared.now c.args.words.now c.loop-i.i (omega arith) w.in-Some.place e));
        runs = rw w.runs-is
            (ap (λ (last : ℕ × ℕ). w.add_place.new.runs.items ++ open_run last) w.last-is
            ∙ w.in_ok-last-in-Some.ensures.runs
            ∙ ap (λ (runs : List (ℕ × ℕ)). extended runs w.in-Some.place) c.loop-i.invariant.runs
            ∙ sym (run_more c.args.shared.now c.args.words.now c.loop-i.i (omega arith) w.in-Some.place e));
        few = rw w.last-is (omega (arith, w.in_ok-last-in-Some.ensures.few, c.loop-i.invariant.few));
        first = rw w.last-is (λ none. absurd (omega (arith, none, w.in_ok-last-in-Some.ensures.some)));
      }
  | in-None+in_ok-push-in-None w ↦
      let e : place_in c.args.shared.now (get_or c.args.words.now c.loop-i.i (0, 0)) ≡ None = sym c.place_in.ensures ∙ w.in-None.is in
      record {
        own = rw (w.own-is, w.in_ok-push-in-None.ensures.items, c.loop-i.invariant.own)
            (sym (own_more c.args.shared.now c.args.words.now c.loop-i.i (omega arith) e));
        runs = rw w.runs-is
            (ap (λ (last : ℕ × ℕ). c.loop-i.runs.items ++ open_run last) w.last-is
            ∙ c.loop-i.invariant.runs ∙ sym (runs_stay c.args.shared.now c.args.words.now c.loop-i.i (omega arith) e));
        few = rw w.last-is (omega (arith, c.loop-i.invariant.few));
        first = rw (w.runs-is, w.last-is) c.loop-i.invariant.first;
      }
]
