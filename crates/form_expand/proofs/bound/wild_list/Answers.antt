use Rattle.std.proofs.Common.{◌≡◌, IfOk, List, sym, ap, subst, ◌∙◌}
use Rattle.std.specs.Prelude.{Option, Some, option_map}
use Rattle.std.specs.Int.{w128}
use Rattle.std.proofs.lemmas.Int.{to_z-of_z}
use Rattle.form_term.specs.declared.monomial.Monomial.{Monomial}
use Rattle.form_expand.specs.Bound.{wild_list, wild_list_by}
use Rattle.form_expand.specs.Kept.{listed}
use Rattle.form_expand.specs.Meanings.{terms_at, terms_bound}
use Rattle.form_expand.proofs.bound.wild_list.Goals as goal

pub returns : goal.returns
unfolding wild_list
returns c =
    let bound : terms_bound c.args.names.now c.args.symbol ≡ Some c.in_ok-terms.terms.items = ap (option_map terms_at) (sym c.in-Some.ensures.found) ∙ ap Some (sym c.in_ok-terms.ensures.first) in
    subst (λ (b : Option (List Monomial)). IfOk c.expression_to.result (λ found. listed found ≡ wild_list_by c.args.symbol c.args.is_over c.args.power b)) (sym bound) (rw (to_z-of_z w128 c.args.power c.ranges.power) at (c.expression_to.ensures c.args.symbol))
