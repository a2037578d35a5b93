use Rattle.std.proofs.Common.{map, rules, sym, ap, ◌∙◌}
use Rattle.form_gathered.specs.declared.joined.JoinedTerm.{JoinedTerm}
use Rattle.form_joined.specs.Adding.{behind, joined_of}
use Rattle.form_joined.specs.Products.{times_each}
use Rattle.form_joined.proofs.Added.{joined_added}
use Rattle.form_joined.proofs.products.add_joined.Goals as goal

pub loop-factor-init : goal.loop-factor-init
loop-factor-init c = ap (λ (j : JoinedTerm). behind c.args.made.now.items (times_each j (map joined_of c.args.factors.now))) (sym c.factor_of-left.ensures)

pub loop-factor-preserved : goal.loop-factor-preserved
loop-factor-preserved c =
    c.loop-factor.invariant
    ∙ joined_added (joined_of c.factor_of-left.result) c.loop-factor.made.items c.add_product.new.made.items c.args.factors.now c.loop-factor.factor-index c.factor-item.result
    (search rules) c.factor-item.is (search rules)
