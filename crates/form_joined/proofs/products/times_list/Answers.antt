use Rattle.std.proofs.Common.{rules, ◌∙◌}
use Rattle.form_joined.specs.Products.{singles}
use Rattle.form_joined.proofs.Added.{row_added, all_added}
use Rattle.form_joined.proofs.products.times_list.Goals as goal

pub loop-front-preserved : goal.loop-front-preserved
loop-front-preserved c =
    c.loop-front.invariant
    ∙ row_added c.in-Some.front c.loop-front.front-iterator.rest.items c.next.new.self.rest.items (singles c.args.list.now) c.loop-front.made.items c.add_singles.new.made.items c.in-Some.ensures.steps.0 (search rules)

pub returns : goal.returns
returns c = c.loop-front.invariant ∙ all_added c.loop-front.front-iterator.rest.items (singles c.args.list.now) c.loop-front.made.items (search rules)
