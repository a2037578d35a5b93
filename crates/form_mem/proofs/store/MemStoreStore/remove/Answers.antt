use Rattle.std.proofs.Common.{None}
use Rattle.form_mem.specs.Store.{runs_of}
use Rattle.form_mem.proofs.Runs.{held-set, lengths-removed}
use Rattle.form_mem.proofs.store.MemStoreStore.remove.Goals as goal

pub returns-clause-removed : goal.returns-clause-removed
returns-clause-removed c = lengths-removed (runs_of c.args.self.now) _ c.args.run (held-set c.args.self.now.runs.items c.args.run None)

pub returns-clause-gone : goal.returns-clause-gone
returns-clause-gone c = held-set c.args.self.now.runs.items c.args.run None
