use Rattle.std.proofs.Common.{subst, sym}
use Rattle.form_module.specs.declared.error.ModuleError.{ModuleError}
use Rattle.form_engine.specs.Answer.{Stops}
use Rattle.form_engine.proofs.carry.stop_at.Goals as goal

pub returns-in-Refused-clause-stopped : goal.returns-in-Refused-clause-stopped
returns-in-Refused-clause-stopped g c =
    subst (λ (e : ModuleError). Stops (g.O.Sink.taken c.args.out.now) e (g.O.Sink.taken c.refuse.new.out) c.refuse.result) (sym c.in-Refused.is) c.refuse.ensures.carried
