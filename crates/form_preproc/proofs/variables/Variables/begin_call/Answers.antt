use Rattle.std.proofs.Common.{Result, Ok, Err, OnOk, ap, ◌∙◌}
use Rattle.form_preproc.specs.Places.{kept}
use Rattle.form_preproc.proofs.Stacks.{begun_call}
use Rattle.form_preproc.proofs.variables.Variables.begin_call.Goals as goal

on_ok : {A E P Q : Type 0} (r : Result A E) → (P → Q) → OnOk r P → OnOk r Q
on_ok (Ok x) f p = f p
on_ok (Err e) f p = p

pub returns : goal.returns
returns c =
    let v = c.args.self.now in
    record { begun = on_ok c.begin.result (λ is. ap (λ changes. kept v.places v.stacks.items changes c.begin.new.self.marks) c.begin.ensures.same.0 ∙ begun_call v.places v.stacks.items v.journal.changes.items v.journal.marks c.begin.new.self.marks is) c.begin.ensures.begun }
