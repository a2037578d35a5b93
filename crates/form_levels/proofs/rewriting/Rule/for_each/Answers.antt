use Rattle.std.proofs.Common.{◌≡◌, ◌*◌, true, List, length, subst, rules}
use Rattle.std.specs.List.{list_all}
use Rattle.std.proofs.lemmas.Result.{IfOk-weaker}
use Rattle.form_term.specs.Term.{is_nil}
use Rattle.form_expand.specs.Listing.{Listing}
use Rattle.form_levels.specs.Becoming.{IsRowOf, right_by_each}
use Rattle.form_levels.proofs.Becoming.{all_unbound}
use Rattle.form_levels.proofs.rewriting.Rule.for_each.Goals as goal

pub returns-in-Some-clause-row : goal.returns-in-Some-clause-row
returns-in-Some-clause-row c =
    let r = c.args.self.now in
    let matches = c.args.matches.items in
    let unbound : list_all is_nil matches ≡ true = search rules in
    let many : c.in-Some.all ≡ length matches * c.args.times = search rules in
    IfOk-weaker c.by_none.result _ (IsRowOf r.limit (right_by_each r c.args.times matches) c.args.front)
    (λ made row. subst (λ (ls : List Listing). IsRowOf r.limit ls c.args.front made) (all_unbound r c.args.times c.in-Some.all matches unbound many) row)
    c.by_none.ensures.row
