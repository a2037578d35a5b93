use Rattle.form_gathered.proofs.Tables.{told_lists, told_sums}
use Rattle.std.specs.Prelude.{false}
use Rattle.form_gathered.proofs.joined.Joined.add.Goals as goal

pub returns-clause-lists : goal.returns-clause-lists
returns-clause-lists c = told_lists c.args.item c.args.self.now c.put.new.self c.put.result c.put.ensures.put

pub returns-clause-sums : goal.returns-clause-sums
returns-clause-sums c = told_sums c.args.item c.args.self.now c.put.new.self c.put.result false c.put.ensures.put
