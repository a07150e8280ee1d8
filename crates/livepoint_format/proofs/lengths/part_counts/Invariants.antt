use Rattle.std.proofs.Common.{◌≡◌, ◌≤◌, ◌+◌, length, take, filter, is_none}
use Rattle.std.specs.Prelude.{filter_map}
use Rattle.livepoint_format.specs.Shared.{place_in, runs_of}
use Rattle.livepoint_format.specs.Lengths.{end_of}
use Rattle.livepoint_format.proofs.lengths.part_counts.Given as goal

abbrev pub invariant-loop-i : goal.invariant-loop-i
invariant-loop-i l = record {
  own : l.own ≡ length (filter (λ w. is_none (place_in l.shared w)) (take l.i l.words));
  runs : l.runs ≡ length (runs_of (filter_map (place_in l.shared) (take l.i l.words)));
  end : l.end ≡ end_of (runs_of (filter_map (place_in l.shared) (take l.i l.words)));
  few : l.own + l.runs ≤ l.i;
}
