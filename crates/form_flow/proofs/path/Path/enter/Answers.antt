use Rattle.std.proofs.Common.{◌+◌, ◌∷◌, false, ◌∙◌, ap}
use Rattle.form_flow.specs.Ways.{acts_of, finish}
use Rattle.form_flow.specs.Paths.{ways}
use Rattle.form_flow.specs.Weight.{path_weight}
use Rattle.form_flow.proofs.Finishing.{enters}
use Rattle.form_flow.proofs.path.Path.enter.Goals as goal

pub returns-clause-enters : goal.returns-clause-enters
returns-clause-enters c act m =
    let old = ways act c.args.self.now in
    ap (λ ws. finish ws false m) (c.in_ok-begin.ensures.begins act ∙ ap (λ w. w ∷ old) (c.plain.ensures.plain act)) ∙ enters (acts_of act c.args.block.now) old m

pub returns-clause-weight : goal.returns-clause-weight
returns-clause-weight c at = c.in_ok-begin.ensures.weight at ∙ ap (λ n. n + path_weight at c.args.self.now) (c.plain.ensures.weight at)
