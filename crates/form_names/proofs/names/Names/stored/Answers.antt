use Rattle.std.proofs.Common.{◌∙◌}
use Rattle.form_names.proofs.Entries.{position-keys}
use Rattle.form_names.proofs.names.Names.stored.Goals as goal

pub returns-in_err-position-clause-found : goal.returns-in_err-position-clause-found
returns-in_err-position-clause-found c =
    rw (← c.self.view_is, c.from_residual.ensures) (c.in_err-position.ensures.index ∙ position-keys c.args.name.now c.self.inside.facts.entries)

pub returns-clause-found : goal.returns-clause-found
returns-clause-found c =
    rw (← c.self.view_is, c.new.ensures) (c.in_ok-position.ensures.index ∙ position-keys c.args.name.now c.self.inside.facts.entries)
