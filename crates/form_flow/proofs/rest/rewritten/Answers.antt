use Rattle.std.proofs.Common.{List, subst, sym}
use Rattle.form_flow.specs.Ready.{Part}
use Rattle.form_flow.specs.Rewriting.{rewritten}
use Rattle.form_flow.specs.Sources.{HasEffect}
use Rattle.form_flow.specs.Statements.{or_unchanged}
use Rattle.form_flow.proofs.rest.rewritten.Goals as goal

pub returns-in-Some : goal.returns-in-Some
returns-in-Some c =
    let m = c.args.item in
    subst (λ (ps : List Part). HasEffect c.by_one.result (or_unchanged m (rewritten c.args.limit ps m))) (sym c.in-Some.ensures) c.by_one.ensures
