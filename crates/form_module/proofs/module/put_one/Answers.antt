use Rattle.std.proofs.Common.{◌∙◌, ap, map}
use Rattle.form_module.specs.Kept.{as_stored}
use Rattle.form_module.proofs.Placed.{stored}
use Rattle.form_module.proofs.module.put_one.Goals as goal

pub returns : goal.returns
returns c = ap (map as_stored) c.in_ok-insert.ensures.entries ∙ stored c.args.after.now.entries c.args.one.expression c.args.one.terms
