use Rattle.std.proofs.lemmas.Bool.{eqb-true}
use Rattle.form_preproc.proofs.Changes.{fixed_at}
use Rattle.form_preproc.proofs.journal.Journal.is_noted.Goals as goal

pub returns-then-mark-at : goal.returns-then-mark-at
returns-then-mark-at c = λ same.
    let found = rw c.deref-2.ensures.value at c.in-Some-get.ensures.lookup in
    fixed_at c.args.self.now.changes.items c.args.mark c.in-Some.at.now c.in-Some-get.change.now c.args.place c.if-mark-at.true found.3.0 found.1 (eqb-true c.in-Some-get.change.now.place c.args.place same)
