use Rattle.form_normal.proofs.Order.{sorted_is}
use Rattle.form_normal.proofs.anew.sorted.Goals as goal

pub returns : goal.returns
returns g c = sorted_is g.T.Ord.cmp g.met.T.Ord.total c.requires c.args.list.items c.sort_unstable.new.self.items c.sort_unstable.ensures.permutation c.sort_unstable.ensures.sorted
