use Rattle.workers.proofs.CrewLemmas.{lists_of}
use Rattle.workers.proofs.crew.Crew.run_batch.Given as goal

abbrev pub ghosts-fold_batch : goal.ghosts-fold_batch
ghosts-fold_batch g a = record {
  lists = lists_of g.S.Simulator.setup g.S.Simulator.answer a.simulators.now.items a.points.now;
}
