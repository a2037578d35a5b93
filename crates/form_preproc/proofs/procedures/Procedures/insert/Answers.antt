use Rattle.std.proofs.Common.{◌∙◌}
use Rattle.form_preproc.proofs.Stored.{stored_procedure}
use Rattle.form_preproc.proofs.procedures.Procedures.insert.Goals as goal

pub returns : goal.returns
returns c = record { stored = stored_procedure c.args.self.now.map c.insert.new.self c.args.name.now c.in_ok-key.key c.args.procedure c.in-Some.ensures.0 (c.in_ok-key.ensures.ok ∙ c.in-Some.ensures.1) c.in_ok-insert.ensures.updates }
