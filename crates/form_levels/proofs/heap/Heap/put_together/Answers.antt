use Rattle.form_levels.proofs.Heaps.{beside_put}
use Rattle.form_levels.proofs.heap.Heap.put_together.Goals as goal

pub returns : goal.returns
returns c = beside_put c.add_each.result c.args.self.now c.self.inside.table c.add_each.new.table c.self.inside.apart.items c.args.terms.items c.self.view_is c.add_each.ensures
