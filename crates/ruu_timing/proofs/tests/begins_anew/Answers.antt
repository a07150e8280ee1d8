use Rattle.ruu_timing.proofs.tests.begins_anew.Goals as goal

pub turn-requires-5-clause-under_way : goal.turn-requires-5-clause-under_way
turn-requires-5-clause-under_way g c = c.begin.ensures.begun.any _
