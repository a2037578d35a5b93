use Rattle.std.proofs.Common.{ap}
use Rattle.form_term.specs.Term.{Others}
use Rattle.form_flow.proofs.within.others_with.Goals as goal

pub returns : goal.returns
returns c = ap (λ (o : Others). record o { functions = c.args.functions.items; word = c.args.word.items }) c.others.view_is
