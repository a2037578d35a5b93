use Rattle.form_bindings.proofs.Lookups.{lawful_value}
use Rattle.form_bindings.proofs.bindings.Bindings.value_of.Goals as goal

pub returns-clause-lawful : goal.returns-clause-lawful
returns-clause-lawful c = rw (← c.self.view_is) (lawful_value c.self.inside.pieces.items c.self.inside.entries.items c.args.wildcard c.self.invariant)
