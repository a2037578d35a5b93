use Rattle.std.proofs.Common.{[], ◌∷◌, refl, rules}
use Rattle.form_expand.specs.Walks.{all_of}
use Rattle.form_joined.specs.Products.{singles}
use Rattle.form_joined.proofs.Weighed.{WeightLaws}
use Rattle.form_levels.proofs.Rows.{row_done}
use Rattle.form_levels.proofs.fronts.Fronts.times_from.Goals as goal

pub returns-clause-fronts : goal.returns-clause-fronts
returns-clause-fronts c =
    let laws : WeightLaws = record { moved = c.weights.ensures.moved; paired = c.weights.ensures.paired; each = c.weights.ensures.each; negated = c.weights.ensures.negated } in
    let list = c.args.list.now in
    let old = c.args.self in
    λ t lists j h. row_done laws old.limit t lists (all_of list) (j ∷ []) old.terms.items c.in-Some-2.fronts.items (singles list) c.in-Some-3.terms.items old.most c.in-Some.most
    h (search rules) (refl, c.joined_singles.ensures) (search rules) (search rules) (search rules)
