use Rattle.hierarchy.proofs.MarkedLemmas.{marks_in_range}
use Rattle.hierarchy.proofs.TraceLemmas.{marks_split, traces_split, traces_begin, none_annotated, windows, traces_trap, traces_exit, traces_whole}
use Rattle.hierarchy.proofs.WarmingLemmas.{feeding}
use Rattle.hierarchy.proofs.laws.trace_laws.Goals as goal

pub returns : goal.returns
returns c = record {
  marks_split = marks_split;
  marks_in_range = marks_in_range;
  feeding = feeding;
  traces_split = traces_split;
  traces_begin = traces_begin;
  windows = windows;
  none_annotated = none_annotated;
  traces_trap = traces_trap;
  traces_exit = traces_exit;
  traces_whole = traces_whole;
}
