use Rattle.turbosmarts.proofs.commands.sample.measured_on.Goals as goal

pub returns-in_ok-processor-clause-units : goal.returns-in_ok-processor-clause-units
returns-in_ok-processor-clause-units c =
    rw c.in_ok-processor.ensures.config at c.measure.ensures.units

pub returns-else-config-clause-units : goal.returns-else-config-clause-units
returns-else-config-clause-units c = rw c.new-processor.ensures.config at c.measure-else-config.ensures.units
