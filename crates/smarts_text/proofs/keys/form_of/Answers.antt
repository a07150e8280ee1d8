use Rattle.std.proofs.Common.{◌∙◌}
use Rattle.smarts_text.proofs.KeysLemmas.{form_found}
use Rattle.smarts_text.proofs.keys.form_of.Goals as goal

pub returns : goal.returns
returns c = c.form_among.ensures ∙ form_found c.args.groups.now c.args.name.now c.keys.result.now c.keys.ensures
