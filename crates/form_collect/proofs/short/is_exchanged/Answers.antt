use Rattle.form_collect.proofs.ShortLists.{of_two, pair_exchanged}
use Rattle.form_collect.proofs.short.is_exchanged.Goals as goal

pub returns-in-len2 : goal.returns-in-len2
returns-in-len2 c =
    let one = c.one-item.result in
    let two = c.two-item.result in
    pair_exchanged c.args.list.now one two c.are_ordered.result (of_two c.args.list.now one two c.in-len2.len_at_least c.in-len2.len_below c.one-item.is c.two-item.is) c.are_ordered.ensures.are
