use Rattle.std.proofs.Common.{drop, subst}
use Rattle.form_preproc.specs.Expansion.{turning}
use Rattle.form_preproc.specs.Machine.{IsDone, site_place}
use Rattle.form_preproc.specs.Procedures.{procedures_in}
use Rattle.form_preproc.specs.Sources.{lines_in}
use Rattle.form_preproc.specs.Variables.{Kept}
use Rattle.form_preproc.proofs.machine.Machine.resume_turn.Goals as goal

pub returns-clause-done : goal.returns-clause-done
returns-clause-done c =
    let m = c.args.self.now in
    let t = c.args.turn in
    subst (λ (k : Kept). IsDone (turning (record { values = k.values; procedures = procedures_in m.procedures; texts = m.names; acted = m.acted; handed = m.handed })
    (site_place t.site) t.name t.turns (drop t.body (lines_in t.site.source.value))) c.turn.result c.turn.new.self)
    (rw c.as_slice.ensures at c.cut.ensures) c.turn.ensures.done
