use Rattle.form_preproc.proofs.Asking.{done_plain, entering_plain}
use Rattle.form_preproc.specs.Expansion.{entering, procedure_of}
use Rattle.form_preproc.specs.Machine.{state_of, calls_of, site_place}
use Rattle.form_preproc.specs.Variables.{first_heights}
use Rattle.form_preproc.proofs.machine.Machine.call_stored.Goals as goal

pub returns-clause-plain : goal.returns-clause-plain
returns-clause-plain c = λ a p.
    let s = state_of c.args.self.now in
    let place = site_place c.args.site.now in
    let h = c.args.head in
    let heights = first_heights (calls_of c.args.self.now) in
    let stored = procedure_of s.procedures h.name in
    done_plain (entering s place h.name h.parts heights stored) c.enter.result c.enter.new.self (entering_plain s place h.name h.parts heights stored p a)
    (rw c.as_slice.ensures at c.enter.ensures.done)
