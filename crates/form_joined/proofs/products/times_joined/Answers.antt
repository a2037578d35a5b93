use Rattle.std.proofs.Common.{◌≡◌, Some, List, map, rules, sym, ap, ◌∙◌}
use Rattle.form_gathered.specs.declared.joined.JoinedTerm.{JoinedTerm}
use Rattle.form_joined.specs.declared.products.Factor.{Factor}
use Rattle.form_joined.specs.Adding.{behind, joined_of}
use Rattle.form_joined.specs.Products.{paired, times_each}
use Rattle.form_joined.proofs.Added.{row_added, all_added}
use Rattle.form_joined.proofs.products.times_joined.Goals as goal

pub loop-front-preserved : goal.loop-front-preserved
loop-front-preserved c =
    let made : behind c.loop-front.made.items (times_each c.in-Some.front (map joined_of c.deref.result.now)) ≡ Some c.add_joined.new.made.items = search rules in
    let same : c.deref.result.now ≡ c.in_ok-factors.factors.items = search rules in
    let here = sym (ap (λ (fs : List Factor). behind c.loop-front.made.items (times_each c.in-Some.front (map joined_of fs))) same) ∙ made in
    c.loop-front.invariant
    ∙ row_added c.in-Some.front c.loop-front.front-iterator.rest.items c.next.new.self.rest.items (map joined_of c.in_ok-factors.factors.items) c.loop-front.made.items c.add_joined.new.made.items
    c.in-Some.ensures.steps.0 here

pub returns : goal.returns
returns c =
    ap (λ (ks : List JoinedTerm). paired c.args.fronts.items ks) (sym c.in_ok-factors.ensures) ∙ c.loop-front.invariant
    ∙ all_added c.loop-front.front-iterator.rest.items (map joined_of c.in_ok-factors.factors.items) c.loop-front.made.items (search rules)
