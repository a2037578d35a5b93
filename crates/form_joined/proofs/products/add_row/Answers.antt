use Rattle.std.proofs.Common.{◌≡◌, Some, [], ◌∷◌, ◌++◌, rules, ◌∙◌}
use Rattle.std.proofs.lemmas.Bool.{OnTrue_at, OnTrue_from}
use Rattle.form_joined.specs.Adding.{behind, joined_of}
use Rattle.form_joined.specs.Products.{singles, times_each}
use Rattle.form_joined.proofs.Added.{single_added, last_added}
use Rattle.form_joined.proofs.products.add_row.Goals as goal

pub loop-item-preserved : goal.loop-item-preserved
loop-item-preserved c =
    c.loop-item.invariant
    ∙ single_added (joined_of c.args.factor) c.loop-item.made.items c.add_product.new.made.items c.args.others.now (c.args.last.now ∷ []) c.loop-item.item-index c.item-item.result c.of.result
    (search rules) c.item-item.is c.of.ensures (search rules)

pub returns : goal.returns
returns c =
    OnTrue_from c.in_ok-add_last.field-0 (behind c.args.made.now.items (times_each (joined_of c.args.factor) (singles (c.args.others.now ++ c.args.last.now ∷ []))) ≡ Some c.add_last.new.made.items)
    (λ e. c.loop-item.invariant
    ∙ last_added (joined_of c.args.factor) c.loop-item.made.items c.add_last.new.made.items c.args.others.now c.loop-item.item-index c.args.last.now c.of-2.result
    (search rules) c.of-2.ensures (OnTrue_at e c.in_ok-add_last.ensures))
