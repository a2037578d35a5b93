use Rattle.std.proofs.Common.{◌≡◌, Some, List, Option, [], ◌∷◌, rules, sym, ap, subst, ◌∙◌}
use Rattle.form_ast.specs.declared.statement.Side.{Side}
use Rattle.form_gathered.specs.declared.joined.JoinedTerm.{JoinedTerm}
use Rattle.form_joined.specs.Products.{paired, singles}
use Rattle.form_levels.specs.Sides.{paired_from}
use Rattle.form_levels.proofs.Stepping.{Made}
use Rattle.form_levels.proofs.leaf.products.Goals as goal

pub returns-in-Right : goal.returns-in-Right
returns-in-Right c =
    let alone = singles c.args.list.now in
    let term : c.args.term ∷ [] ≡ c.push.new.self.items = search rules in
    subst (λ (all : Option (List JoinedTerm)). Made (λ ks. all ≡ Some ks) c.times_list.result)
    (ap (λ (js : List JoinedTerm). paired js alone) (sym term) ∙ ap (λ (side : Side). paired_from side (c.args.term ∷ []) alone) (sym c.in-Right.is))
    c.times_list.ensures

pub returns-in_ok-left-in-Left : goal.returns-in_ok-left-in-Left
returns-in_ok-left-in-Left c =
    let term : c.args.term ∷ [] ≡ c.push.new.self.items = search rules in
    let same : c.deref.result.now ≡ c.push.new.self.items = search rules in
    subst (λ (all : Option (List JoinedTerm)). Made (λ ks. all ≡ Some ks) c.times_joined.result)
    (ap (λ (ks : List JoinedTerm). paired c.in_ok-left-in-Left.left.items ks) (same ∙ sym term)
    ∙ ap (λ (js : List JoinedTerm). paired js (c.args.term ∷ [])) c.in_ok-left-in-Left.ensures
    ∙ ap (λ (side : Side). paired_from side (c.args.term ∷ []) (singles c.args.list.now)) (sym c.in-Left.is))
    c.times_joined.ensures
