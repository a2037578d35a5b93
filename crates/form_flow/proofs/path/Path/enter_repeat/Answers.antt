use Rattle.std.proofs.Common.{◌+◌, ◌∷◌, false, ◌∙◌, ap}
use Rattle.form_flow.specs.Ways.{acts_of, finish}
use Rattle.form_flow.specs.Paths.{ways}
use Rattle.form_flow.specs.Weight.{path_weight}
use Rattle.form_flow.proofs.Finishing.{repeats}
use Rattle.form_flow.proofs.path.Path.enter_repeat.Goals as goal

pub returns-clause-repeats : goal.returns-clause-repeats
returns-clause-repeats c act m =
    let old = ways act c.args.self.now in
    ap (λ ws. finish ws false m) (c.in_ok-begin.ensures.begins act ∙ ap (λ w. w ∷ old) (c.repeated.ensures.repeated act)) ∙ repeats (acts_of act c.args.block.now) old c.args.left m

pub returns-clause-weight : goal.returns-clause-weight
returns-clause-weight c at = c.in_ok-begin.ensures.weight at ∙ ap (λ n. n + path_weight at c.args.self.now) (c.repeated.ensures.weight at)
