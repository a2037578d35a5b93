use Rattle.std.proofs.Common.{ap, sym, ◌∙◌, arith}
use Rattle.form_expand.specs.Singles.{of_product, alone}
use Rattle.form_expand.proofs.single.commuting_list.Goals as goal

pub returns-then-size-gt-LARGEST_SIZE : goal.returns-then-size-gt-LARGEST_SIZE
unfolding alone
returns-then-size-gt-LARGEST_SIZE c = c.refused.ensures ∙ sym (ap of_product (c.functions_past_limits.ensures.large c.args.call (omega (arith, c.size.ensures, c.if-size-gt-LARGEST_SIZE.true))))

pub returns-then-depth-ge-LARGEST_DEPTH : goal.returns-then-depth-ge-LARGEST_DEPTH
unfolding alone
returns-then-depth-ge-LARGEST_DEPTH c = c.refused-then-depth-ge-LARGEST_DEPTH.ensures ∙ sym (ap of_product (c.functions_past_limits.ensures.deep c.args.call (omega (arith, c.depth.ensures, c.if-depth-ge-LARGEST_DEPTH.true))))
