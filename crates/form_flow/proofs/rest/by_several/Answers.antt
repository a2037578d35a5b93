use Rattle.std.proofs.Common.{ap, refl, subst, sym, ◌∙◌}
use Rattle.form_flow.specs.Rewriting.{rest_of, rewritten}
use Rattle.form_flow.specs.Sources.{HasEffect}
use Rattle.form_flow.specs.Statements.{or_unchanged}
use Rattle.form_flow.proofs.rest.by_several.Goals as goal

pub returns : goal.returns
returns c =
    let m = c.args.item in
    let ps = c.args.group.now in
    subst (λ n. HasEffect c.put_together.result (or_unchanged m (rewritten n ps m))) c.in_ok-rest.ensures.limit
    (c.put_together.ensures ps m refl (c.in_ok-rest.ensures.rest ∙ ap (λ n. rest_of n ps m.term) (sym c.in_ok-rest.ensures.limit)))
