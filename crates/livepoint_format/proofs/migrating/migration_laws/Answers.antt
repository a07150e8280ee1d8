use Rattle.livepoint_format.proofs.MigratingLemmas.{migrated_whole, migrated_one, migrated_again}
use Rattle.livepoint_format.proofs.migrating.migration_laws.Goals as goal

pub returns : goal.returns
returns c = record { whole = migrated_whole; one = migrated_one; again = migrated_again }
