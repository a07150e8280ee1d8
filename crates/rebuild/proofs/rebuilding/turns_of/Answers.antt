use Rattle.recency_record.proofs.Rows.{sets_few}
use Rattle.rebuild.proofs.Turns.{turns_value}
use Rattle.rebuild.proofs.rebuilding.turns_of.Goals as goal

pub returns-clause-value : goal.returns-clause-value
returns-clause-value c =
    turns_value c.args.large c.args.small c.sets_log.result c.sets_log-2.result c.sets_log.ensures.value
    c.sets_log-2.ensures.value c.sets_log.ensures.shape c.requires.sets

pub returns-clause-few : goal.returns-clause-few
returns-clause-few c =
    rw (turns_value c.args.large c.args.small c.sets_log.result c.sets_log-2.result c.sets_log.ensures.value
    c.sets_log-2.ensures.value c.sets_log.ensures.shape c.requires.sets) (sets_few c.args.large c.sets_log.ensures.shape)
