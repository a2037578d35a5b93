use Rattle.std.proofs.Common.{◌≡◌, List, [], ◌∷◌, Some, subst, rules}
use Rattle.std.proofs.lemmas.Bool.{OnTrue_at}
use Rattle.form_gathered.specs.declared.joined.JoinedTerm.{JoinedTerm}
use Rattle.form_joined.specs.Products.{paired}
use Rattle.form_sides.specs.Products.{ArePaired}
use Rattle.form_sides.proofs.Pairing.{none_paired, front_paired, all_paired}
use Rattle.form_sides.proofs.products.brought_together.Goals as goal

pub loop-front-init : goal.loop-front-init
loop-front-init c = none_paired c.args.fronts.items c.into_iter-front-iterator.result.rest.items c.args.list.now c.new-table.result (search rules) c.new-table.ensures

pub loop-front-preserved : goal.loop-front-preserved
loop-front-preserved c =
    let row = c.in-Some-2.row.items in
    let made : paired (c.in-Some.front ∷ []) c.args.list.now ≡ Some row =
    subst (λ (ks : List JoinedTerm). paired (c.in-Some.front ∷ []) ks ≡ Some row) c.in_ok-factors.ensures (rw c.in-Some-2.is at c.in_ok-row.ensures) in
    front_paired c.args.fronts.items c.args.list.now c.loop-front.front-iterator.rest.items c.next.new.self.rest.items row c.loop-front.table c.add_each.new.table c.in-Some.front
    c.in-Some.ensures.steps.0 made (OnTrue_at c.if-not-branch.false c.in_ok-add_each.ensures) c.loop-front.invariant

pub returns : goal.returns
returns c =
    subst (ArePaired c.args.fronts.items c.args.list.now) (search rules)
    (all_paired c.args.fronts.items c.args.list.now c.loop-front.front-iterator.rest.items c.loop-front.table (search rules) c.loop-front.invariant)
