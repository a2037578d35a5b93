use Rattle.form_preproc.proofs.Changes.{below_none}
use Rattle.form_preproc.proofs.journal.Journal.forget.Goals as goal

pub returns-then-len-eq0-clause-below : goal.returns-then-len-eq0-clause-below
returns-then-len-eq0-clause-below c = λ size h. below_none size c.clear.new.self.items c.clear.ensures.items
