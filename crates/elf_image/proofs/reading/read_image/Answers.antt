use Rattle.elf_image.proofs.FirstOfAll.{kept_where_loaded, first_where_refused}
use Rattle.elf_image.proofs.reading.read_image.Goals as goal

pub returns-clause-kept : goal.returns-clause-kept
returns-clause-kept c =
    kept_where_loaded c.args.bytes.now c.judge_and_load.result c.judge_and_load.ensures

pub returns-clause-first : goal.returns-clause-first
returns-clause-first c =
    first_where_refused c.args.bytes.now c.judge_and_load.result c.judge_and_load.ensures
