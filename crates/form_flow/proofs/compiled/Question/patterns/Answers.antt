use Rattle.std.proofs.Common.{ap, map, ◌∙◌}
use Rattle.form_cond.specs.Condition.{kept}
use Rattle.form_flow.specs.Ready.{Choice}
use Rattle.form_flow.proofs.Readying.{all_kept}
use Rattle.form_flow.proofs.compiled.Question.patterns.Goals as goal

pub returns : goal.returns
returns c = c.as_slice.ensures.value ∙ all_kept c.self.inside.patterns.items c.self.invariant ∙ ap (λ (q : Choice). map kept q.patterns) c.self.view_is
