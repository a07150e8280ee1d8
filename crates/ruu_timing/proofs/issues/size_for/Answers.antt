use Rattle.std.proofs.Common.{refl}
use Rattle.ruu_timing.proofs.issues.size_for.Goals as goal

pub returns-then-ruu-le51-clause-power : goal.returns-then-ruu-le51-clause-power
returns-then-ruu-le51-clause-power c = record { exponent = 16; is = refl }

pub returns-then-ruu-le102-clause-power : goal.returns-then-ruu-le102-clause-power
returns-then-ruu-le102-clause-power c = record { exponent = 17; is = refl }

pub returns-then-ruu-le204-clause-power : goal.returns-then-ruu-le204-clause-power
returns-then-ruu-le204-clause-power c = record { exponent = 18; is = refl }

pub returns-else-ruu-le204-clause-power : goal.returns-else-ruu-le204-clause-power
returns-else-ruu-le204-clause-power c = record { exponent = 19; is = refl }
