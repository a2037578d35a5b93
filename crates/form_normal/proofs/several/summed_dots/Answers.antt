use Rattle.std.proofs.Common.{◌∙◌}
use Rattle.std.proofs.lemmas.List.{nil_from_length}
use Rattle.form_normal.proofs.Sums.{power_order_exact, making_begins, making_ends}
use Rattle.form_normal.proofs.several.summed_dots.Goals as goal

pub sorted-rising-requires : goal.sorted-rising-requires
sorted-rising-requires c = power_order_exact

pub loop-first-init : goal.loop-first-init
loop-first-init c = making_begins c.args.dots.items c.new-made.result.items c.as_slice-rest.result.now c.requires c.new-made.ensures.items (c.as_slice-rest.ensures.value ∙ c.sorted-rising.ensures)

pub returns-clause-ok : goal.returns-clause-ok
returns-clause-ok c = making_ends c.args.dots.items c.loop-first.made.items c.loop-first.rest.now c.loop-first.invariant (nil_from_length c.loop-first.rest.now c.in_default.ensures.cases)
