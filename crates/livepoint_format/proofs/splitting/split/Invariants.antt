use Rattle.std.proofs.Common.{◌≡◌, ◌++◌, ◌≤◌, [], take, filter, is_none}
use Rattle.std.specs.Prelude.{filter_map}
use Rattle.livepoint_format.specs.Shared.{place_in, runs_of}
use Rattle.livepoint_format.specs.Splitting.{open_run}
use Rattle.livepoint_format.proofs.splitting.split.Given as goal

abbrev pub invariant-loop-i : goal.invariant-loop-i
invariant-loop-i l = record {
  own : l.own.items ≡ filter (λ w. is_none (place_in l.shared w)) (take l.i l.words);
  runs : l.runs.items ++ open_run l.last ≡ runs_of (filter_map (place_in l.shared) (take l.i l.words));
  few : l.last.1 ≤ l.i;
  first : l.last.1 ≡ 0 → l.runs.items ≡ [];
}
