use Rattle.std.proofs.Common.{reverse, ap, ◌∙◌}
use Rattle.form_calc.specs.Stack.{oldest}
use Rattle.form_calc.proofs.Oldest.{oldest-reverse}
use Rattle.form_calc.proofs.stack.Stack.cut.Goals as goal

pub returns : goal.returns
returns g c = ap reverse c.truncate.ensures.items ∙ oldest-reverse c.args.height c.self.inside.items.items ∙ ap (oldest c.args.height) c.self.view_is
