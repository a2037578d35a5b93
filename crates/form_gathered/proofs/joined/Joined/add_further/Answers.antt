use Rattle.form_gathered.proofs.Tables.{told_further, told_sums}
use Rattle.std.specs.Prelude.{true}
use Rattle.form_gathered.proofs.joined.Joined.add_further.Goals as goal

pub returns-clause-lists : goal.returns-clause-lists
returns-clause-lists c = told_further c.args.item c.args.self.now c.put.new.self c.put.result c.put.ensures.put

pub returns-clause-sums : goal.returns-clause-sums
returns-clause-sums c = told_sums c.args.item c.args.self.now c.put.new.self c.put.result true c.put.ensures.put
