use Rattle.form_collect.proofs.ShortLists.{of_one, of_two, single_collected, pair_collected}
use Rattle.form_collect.proofs.short.is_collected.Goals as goal

pub returns-in-len1 : goal.returns-in-len1
returns-in-len1 c =
    single_collected c.args.list.now c.one-item.result c.is_zero.result (of_one c.args.list.now c.one-item.result c.in-len1.len_at_least c.in-len1.len_below c.one-item.is) c.is_zero.ensures

pub returns-in-len2 : goal.returns-in-len2
returns-in-len2 c =
    let one = c.one-item-then-list-lt3.result in
    let two = c.two-item.result in
    pair_collected c.args.list.now one two c.are_ordered.result (of_two c.args.list.now one two c.in-len2.len_at_least c.in-len2.len_below c.one-item-then-list-lt3.is c.two-item.is) c.are_ordered.ensures.are
