use Rattle.std.proofs.Common.{List, [], ap, subst, sym, ◌∙◌}
use Rattle.std.proofs.lemmas.Option.{IfSome_then}
use Rattle.form_tree.specs.Tree.{Sum}
use Rattle.form_flow.specs.Ready.{Part}
use Rattle.form_flow.specs.Rewriting.{right_with}
use Rattle.form_levels.specs.Becoming.{IsListOf}
use Rattle.form_levels.proofs.leaf.list_of_only.Goals as goal

pub returns : goal.returns
returns c =
    let max = c.args.limit in
    IfSome_then c.list_within.result c.list_within.ensures.list
    (λ list is. subst (λ (ps : List Part). IsListOf max ps list.now) (sym c.in_ok-part.ensures) (ap (λ (s : Sum). right_with max s []) (sym c.right.ensures) ∙ is))
