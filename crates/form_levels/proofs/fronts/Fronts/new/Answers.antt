use Rattle.std.proofs.Common.{◌≡◌, List, [], ◌∷◌, rules, ap, subst, ◌∙◌}
use Rattle.form_gathered.specs.declared.joined.JoinedTerm.{JoinedTerm}
use Rattle.form_levels.specs.Rows.{IsRow}
use Rattle.form_levels.proofs.Rows.{row_begun}
use Rattle.form_levels.proofs.fronts.Fronts.new.Goals as goal

pub returns-clause-fronts : goal.returns-clause-fronts
returns-clause-fronts c =
    let front = c.args.front in
    let made : front ∷ [] ≡ c.push.new.self.items = search rules in
    λ j e. subst (λ (fronts : List JoinedTerm). IsRow c.args.limit front.term [] (j ∷ []) fronts 1) (ap (λ (k : JoinedTerm). k ∷ []) e ∙ made) (row_begun c.args.limit front.term (j ∷ []) c.requires)
