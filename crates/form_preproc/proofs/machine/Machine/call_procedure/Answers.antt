use Rattle.std.proofs.Common.{sym, subst}
use Rattle.form_preproc.specs.Plainness.{ValuesArePlain}
use Rattle.form_preproc.specs.Variables.{Kept}
use Rattle.form_preproc.proofs.machine.Machine.call_procedure.Goals as goal
use Rattle.form_preproc.proofs.machine.Machine.call_procedure.Goals.{in-Ok, in-Err}

pub returns-then-contains-clause-plain : goal.returns-then-contains-clause-plain
returns-then-contains-clause-plain g c = λ a p.
    elim c.match-call_stored.branch [ in-Ok w ↦ rw w.result-is (w.in-Ok.ensures.plain a (subst (λ (k : Kept). ValuesArePlain k.values) (sym c.in_ok-begin_call.ensures.begun) p.0, p.1)) | in-Err w ↦ rw w.result-is tt ]

pub returns-clause-plain : goal.returns-clause-plain
returns-clause-plain g c = λ a p.
    c.fetch_procedure.ensures.plain a (subst (λ (k : Kept). ValuesArePlain k.values) (sym c.in_ok-begin_call.ensures.begun) p.0, p.1)
